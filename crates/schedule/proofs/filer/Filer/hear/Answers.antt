use Rattle.std.proofs.Common.{◌∙◌, ap, Some, None, refl}
use Rattle.std.specs.String.{string_bytes}
use Rattle.filing_world.specs.World.{Outbox}
use Rattle.schedule.specs.OutboxEnd.{is_up}
use Rattle.schedule.specs.Filers.{FilerParts}
use Rattle.schedule.proofs.Entries.{box_heard}
use Rattle.schedule.proofs.filer.Filer.hear.Goals as goal

pub returns-in-Some-clause-heard : goal.returns-in-Some-clause-heard
returns-in-Some-clause-heard g c =
    let inside = c.self.inside in
    let box : Outbox =
    record { filer = string_bytes inside.code; entries = inside.entries.items; up = is_up inside.end } in
    let still = c.hear.ensures.up ∙ ap (λ (f : FilerParts). f.box.up) c.self.view_is ∙ c.requires in
    rw (← c.self.view_is)
    (λ what here.
    let heard =
    c.in_ok-state.ensures.heard (string_bytes inside.code) inside.entries.items c.self.invariant what here in (
      heard.0,
      heard.1,
      box_heard box c.args.entry what (Some c.in-Some.state) c.set_state.new.reports.items
          (is_up c.hear.new.self) heard.0 here (rw c.in-Some.is at heard.2) c.set_state.ensures still,
    ))

pub returns-in_default-clause-heard : goal.returns-in_default-clause-heard
returns-in_default-clause-heard g c =
    let inside = c.self.inside in
    let box : Outbox =
    record { filer = string_bytes inside.code; entries = inside.entries.items; up = is_up inside.end } in
    let still = c.hear.ensures.up ∙ ap (λ (f : FilerParts). f.box.up) c.self.view_is ∙ c.requires in
    rw (← c.self.view_is)
    (λ what here.
    let heard =
    c.in_ok-state.ensures.heard (string_bytes inside.code) inside.entries.items c.self.invariant what here in (
      heard.0,
      heard.1,
      box_heard box c.args.entry what None inside.entries.items (is_up c.hear.new.self) heard.0 here
          (rw c.in_default.is at heard.2) refl still,
    ))
