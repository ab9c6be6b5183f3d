use Rattle.std.proofs.Common.{◌≡◌, ◌∙◌, ◌++◌, ◌∷◌, [], true, false, sym}
use Rattle.std.specs.String.{string_bytes}
use Rattle.filing_world.specs.World.{Outbox}
use Rattle.filing_world.specs.Step.{takes}
use Rattle.outbox_core.specs.Entries.{opened}
use Rattle.schedule.specs.OutboxEnd.{is_up}
use Rattle.schedule.proofs.Entries.{box_taken, box_not_taken}
use Rattle.schedule.proofs.filer.Filer.put.Goals as goal

pub returns-then-taken-clause-put : goal.returns-then-taken-clause-put
returns-then-taken-clause-put g c =
    let inside = c.self.inside in
    let code = string_bytes inside.code in
    let entries = inside.entries.items in
    let box : Outbox = record { filer = code; entries = entries; up = is_up inside.end } in
    let entry = opened c.args.key.now c.args.target c.args.body.now in
    let taken : takes box entry ≡ true =
    sym (c.in_ok-taken.ensures.taken code entries c.self.invariant) ∙ c.if-taken.true in
    let more : c.push_reserved.new.self.items ≡ entries ++ entry ∷ [] =
    rw (sym c.in_ok-report.ensures, sym c.reserve.ensures.items) c.push_reserved.ensures.items in
    rw (← c.self.view_is) (box_taken box entry c.push_reserved.new.self.items (is_up c.put.new.self) taken more
    c.put.ensures.up)

pub returns-else-taken-clause-put : goal.returns-else-taken-clause-put
returns-else-taken-clause-put g c =
    let inside = c.self.inside in
    let code = string_bytes inside.code in
    let entries = inside.entries.items in
    let box : Outbox = record { filer = code; entries = entries; up = is_up inside.end } in
    let entry = opened c.args.key.now c.args.target c.args.body.now in
    let taken : takes box entry ≡ false =
    sym (c.in_ok-taken.ensures.taken code entries c.self.invariant) ∙ c.if-taken.false in
    rw (← c.self.view_is) (box_not_taken box entry c.reserve.new.self.items (is_up c.put.new.self) taken
    c.reserve.ensures.items c.put.ensures.up)
