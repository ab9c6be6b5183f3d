use Rattle.programs.proofs.Happening.{reached, registered}
use Rattle.programs.proofs.any_programs.Goals as goal

pub returns-clause-reached : goal.returns-clause-reached
returns-clause-reached c = λ filers limit happenings situation. reached limit filers happenings situation

pub returns-clause-registered : goal.returns-clause-registered
returns-clause-registered c = λ filers limit happenings situation. registered limit filers happenings situation
