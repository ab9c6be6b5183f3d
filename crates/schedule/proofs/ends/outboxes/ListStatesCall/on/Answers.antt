use Rattle.std.proofs.Common.{subst, sym}
use Rattle.outbox_core.specs.OutboxParts.{HasEntries}
use Rattle.schedule.proofs.OutboxEntries.{after_same, states_listed}
use Rattle.schedule.proofs.ends.outboxes.ListStatesCall.on.Goals as goal

pub returns-clause-answer : goal.returns-clause-answer
returns-clause-answer g c = λ entries has.
    states_listed c.states.result entries (c.states.ensures.found (g.met.S.Faithful.faithful c.states.new.self.conn)
    entries has)

pub returns-clause-rows : goal.returns-clause-rows
returns-clause-rows g c = λ entries has.
    subst (HasEntries g.S.Store c.states.new.self) (sym (after_same c.states.result entries))
    (c.states.ensures.kept (g.met.S.Faithful.faithful c.states.new.self.conn) entries has)
