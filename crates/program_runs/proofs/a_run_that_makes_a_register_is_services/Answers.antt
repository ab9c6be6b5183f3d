use Rattle.program_runs.proofs.Services.{makes}
use Rattle.program_runs.proofs.a_run_that_makes_a_register_is_services.Goals as goal

pub returns : goal.returns
returns g c = λ limit status serving told old new honest few runs new_one closed there does.
    makes g.S.Stream told limit serving old.port new.port old.process new.process status honest few runs new_one closed
    there does.1
