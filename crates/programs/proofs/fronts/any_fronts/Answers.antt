use Rattle.programs.proofs.Behind.{kept_without, reached_behind, registered_behind}
use Rattle.programs.proofs.fronts.any_fronts.Goals as goal

pub returns-clause-without : goal.returns-clause-without
returns-clause-without c = λ filers limit passings situation are bound happen.
    kept_without limit filers are bound passings situation happen

pub returns-clause-reached : goal.returns-clause-reached
returns-clause-reached c = λ filers limit passings situation are bound happen.
    reached_behind limit filers are bound passings situation happen

pub returns-clause-registered : goal.returns-clause-registered
returns-clause-registered c = λ filers limit passings situation are bound happen.
    registered_behind limit filers are bound passings situation happen
