use Rattle.std.proofs.Common.{sym}
use Rattle.database_places.proofs.Lying.{kept_lying}
use Rattle.intake_process.specs.Fault.{is_refused}
use Rattle.intake_process.proofs.Visits.{closed_in, given_in}
use Rattle.intake_process.proofs.visiting.leave.Goals as goal

pub returns-then-not-is_refused : goal.returns-then-not-is_refused
returns-then-not-is_refused g c =
    closed_in (g.P.Place.lying c.args.place.now) (g.P.Place.lying c.close.new.place) c.args.conn
    (is_refused c.args.done.now) c.close.result (sym c.if-not-is_refused.ensures) c.close.ensures.closed
    c.close.ensures.refused

pub returns-then-came_to_others : goal.returns-then-came_to_others
returns-then-came_to_others g c =
    let old = g.P.Place.lying c.args.place.now in
    let mid = g.P.Place.lying c.give_up.new.place in
    let new = g.P.Place.lying c.remove_new_log.new.place in
    given_in old new c.args.conn (is_refused c.args.done.now) c.give_up.ensures.0 (sym c.if-not-is_refused.ensures)
    (kept_lying old mid new c.give_up.ensures.0 c.give_up.ensures.1 c.remove_new_log.ensures) c.give_up.ensures.2

pub returns-else-came_to_others : goal.returns-else-came_to_others
returns-else-came_to_others g c =
    given_in (g.P.Place.lying c.args.place.now) (g.P.Place.lying c.give_up.new.place) c.args.conn
    (is_refused c.args.done.now) c.give_up.ensures.0 (sym c.if-not-is_refused.ensures) c.give_up.ensures.1
    c.give_up.ensures.2
