use Rattle.program_runs.proofs.Deciding.{stops_at_request}
use Rattle.program_runs.proofs.stops.a_decision_that_ends_is_a_stop.Goals as goal

pub returns : goal.returns
returns g c requests bytes marks out r files old_style is once room held =
    stops_at_request requests bytes marks out r is once room g.D.Disk files old_style held
