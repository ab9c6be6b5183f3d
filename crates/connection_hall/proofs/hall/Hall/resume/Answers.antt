use Rattle.std.proofs.Common.{inl, refl}
use Rattle.connection_hall.proofs.hall.Hall.resume.Goals as goal

pub returns-then-is_empty-clause-running : goal.returns-then-is_empty-clause-running
returns-then-is_empty-clause-running g c answers hand running =
    c.enter.ensures.running answers (g.P.Sockets.traffic c.args.sockets.now) hand (inl refl) running

pub returns-then-is_empty-clause-in_time : goal.returns-then-is_empty-clause-in_time
returns-then-is_empty-clause-in_time g c answers served = inl (c.enter.ensures.turn refl)
