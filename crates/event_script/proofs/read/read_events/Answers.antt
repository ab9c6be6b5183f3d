use Rattle.std.proofs.Common.{◌≡◌, suc, ◌∷◌, ◌++◌, [], map, Some, None, refl, sym, ◌∙◌, arith}
use Rattle.std.proofs.lemmas.List.{map-append}
use Rattle.std.proofs.lemmas.List.Elements.{All-push}
use Rattle.event_script.specs.Events.{view_event, HasTarget}
use Rattle.event_script.specs.Text.{lines_of}
use Rattle.event_script.specs.Lines.{line_event}
use Rattle.event_script.specs.Scripts.{events_from}
use Rattle.event_script.proofs.Reading.{events_from-more, after_events-push}
use Rattle.event_script.proofs.read.read_events.Goals as goal

pub returns-in_default-2-clause-wrong : goal.returns-in_default-2-clause-wrong
returns-in_default-2-clause-wrong c =
    let says : line_event c.in-Some.line.now ≡ None = rw c.in_default-2.is at (sym c.in_ok-event.ensures.read) in
    let line = events_from-more c.loop-line.behind.number c.in-Some.line.now c.in-Some.after.rest.now in
    rw (c.unreadable.ensures, c.loop-line.invariant.0, c.in-Some.ensures.parts, line, says) refl

pub loop-line-preserved : goal.loop-line-preserved
loop-line-preserved c =
    let items : c.push_reserved.new.self.items ≡ c.loop-line.events.items ++ c.in-Some-2.event ∷ [] =
    rw (c.push_reserved.ensures.items, c.in_ok-reserve.ensures.items) refl in
    let says : line_event c.in-Some.line.now ≡ Some (view_event c.in-Some-2.event) =
    rw c.in-Some-2.is at (sym c.in_ok-event.ensures.read) in
    let line = events_from-more c.loop-line.behind.number c.in-Some.line.now c.in-Some.after.rest.now in
    let next : c.in-Some.after.number ≡ suc c.loop-line.behind.number = omega (arith, c.in-Some.ensures.number) in
    let rest = events_from (suc c.loop-line.behind.number) (lines_of c.in-Some.after.rest.now) in
    let fits : HasTarget (view_event c.in-Some-2.event) = rw c.in-Some-2.is at c.in_ok-event.ensures.targets in (
      rw (items, map-append, next) (c.loop-line.invariant.0
          ∙ rw (
            c.in-Some.ensures.parts,
            line,
            says,
          ) (after_events-push c.loop-line.behind.number (map view_event c.loop-line.events.items)
          (view_event c.in-Some-2.event) rest)),
      rw (items, map-append) (All-push HasTarget (map view_event c.loop-line.events.items)
          (view_event c.in-Some-2.event) c.loop-line.invariant.1 fits),
    )
