use Rattle.program_runs.proofs.Deployments.{from_nothing}
use Rattle.program_runs.proofs.any_deployment.Goals as goal

pub returns : goal.returns
returns g c = λ honest. from_nothing g.D.Disk honest g.S.Stream (λ filers limit passings situation are bound happen. (
  c.any_fronts.ensures.reached filers limit passings situation are bound happen,
  c.any_fronts.ensures.registered filers limit passings situation are bound happen,
))
