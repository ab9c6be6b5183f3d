use Rattle.std.proofs.Common.{arith}
use Rattle.std.specs.Duration.{as_nanos}
use Rattle.connection_hall.proofs.InTime.{ends_in_time}
use Rattle.connection_hall.proofs.hall.Hall.until_late.Goals as goal

pub returns-clause-late : goal.returns-clause-late
returns-clause-late g c answers traffic running =
    ends_in_time g.S.Stream answers _ c.args.self.now traffic c.args.now (as_nanos c.until_term.result) running
    (λ since late noted passed.
    let first = c.until_deadline-wait.ensures.deadlines since late noted passed in
    let within = c.until_term.ensures.within in
    omega (arith, first, within)) (λ short. c.until_term.ensures.terms)
