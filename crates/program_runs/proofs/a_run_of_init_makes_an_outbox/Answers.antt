use Rattle.program_runs.proofs.Tasks.{makes}
use Rattle.program_runs.proofs.a_run_of_init_makes_an_outbox.Goals as goal

pub returns : goal.returns
returns g c = λ database filer net net' out out' old new honest closed there does.
    makes filer old new honest closed there does.0
