use Rattle.std.proofs.Common.{IsSome, Ok, Err, sym, ap, subst}
use Rattle.database_places.specs.Places.{IsHonest}
use Rattle.outbox_process.specs.Process.{parts, Leaves}
use Rattle.outbox_commands.specs.Puts.{ended_as}
use Rattle.outbox_commands.proofs.Turns.{puts_one, some_open, stays}
use Rattle.outbox_commands.proofs.putting.put_one.Goals as goal
use Rattle.outbox_commands.proofs.putting.put_one.Goals.{then-is_random, else-is_random}

pub returns-in-Ok-clause-puts : goal.returns-in-Ok-clause-puts
returns-in-Ok-clause-puts g c =
    let done = parts g.P.Place.lying c.perform-came.new.self in
    puts_one c.args.report.key c.args.target c.args.report.body (g.N.Dial.traffic c.args.network.now)
    (g.N.Dial.traffic c.perform-came.new.network) (g.O.Write.contents c.args.output.now)
    (g.O.Write.contents c.perform-came.new.output) (parts g.P.Place.lying c.args.process.now) done
    (parts g.P.Place.lying c.if-is_random.process) c.perform-came.result (Ok tt) c.perform-came.ensures
    (elim c.if-is_random.branch [
      | then-is_random w ↦ subst (λ p. IsHonest g.D.Disk → Leaves done (parts g.P.Place.lying p)) (sym w.process-is)
          w.tell_same.ensures.kept
      | else-is_random w ↦ subst (λ p. IsHonest g.D.Disk → Leaves done (parts g.P.Place.lying p)) (sym w.process-is)
          (λ honest. stays done)
    ])
    (sym (ap ended_as c.in-Ok.is))

pub returns-in-Ok-clause-stays_open : goal.returns-in-Ok-clause-stays_open
returns-in-Ok-clause-stays_open g c =
    let opened = some_open c.perform-came.new.self.outbox c.perform-came.ensures.after c.perform-came.ensures.is in
    elim c.if-is_random.branch [
      | then-is_random w ↦ subst (λ p. IsSome p.outbox) (sym w.process-is) (w.tell_same.ensures.stays_open opened)
      | else-is_random w ↦ subst (λ p. IsSome p.outbox) (sym w.process-is) opened
    ]

pub returns-in-Err-clause-puts : goal.returns-in-Err-clause-puts
returns-in-Err-clause-puts g c =
    let done = parts g.P.Place.lying c.perform-came.new.self in
    puts_one c.args.report.key c.args.target c.args.report.body (g.N.Dial.traffic c.args.network.now)
    (g.N.Dial.traffic c.perform-came.new.network) (g.O.Write.contents c.args.output.now)
    (g.O.Write.contents c.perform-came.new.output) (parts g.P.Place.lying c.args.process.now) done
    (parts g.P.Place.lying c.if-is_random.process) c.perform-came.result (Err c.in-Err.why) c.perform-came.ensures
    (elim c.if-is_random.branch [
      | then-is_random w ↦ subst (λ p. IsHonest g.D.Disk → Leaves done (parts g.P.Place.lying p)) (sym w.process-is)
          w.tell_same.ensures.kept
      | else-is_random w ↦ subst (λ p. IsHonest g.D.Disk → Leaves done (parts g.P.Place.lying p)) (sym w.process-is)
          (λ honest. stays done)
    ])
    (sym (ap ended_as c.in-Err.is))

pub returns-in-Err-clause-stays_open : goal.returns-in-Err-clause-stays_open
returns-in-Err-clause-stays_open g c =
    let opened = some_open c.perform-came.new.self.outbox c.perform-came.ensures.after c.perform-came.ensures.is in
    elim c.if-is_random.branch [
      | then-is_random w ↦ subst (λ p. IsSome p.outbox) (sym w.process-is) (w.tell_same.ensures.stays_open opened)
      | else-is_random w ↦ subst (λ p. IsSome p.outbox) (sym w.process-is) opened
    ]
