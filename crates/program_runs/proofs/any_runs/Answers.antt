use Rattle.program_runs.proofs.Deployments.{any}
use Rattle.program_runs.proofs.any_runs.Goals as goal

pub returns : goal.returns
returns g c = λ honest. any g.D.Disk honest g.S.Stream (λ filers limit passings situation are bound happen. (
  c.any_fronts.ensures.reached filers limit passings situation are bound happen,
  c.any_fronts.ensures.registered filers limit passings situation are bound happen,
))
