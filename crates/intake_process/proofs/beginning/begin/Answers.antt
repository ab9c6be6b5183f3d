use Rattle.intake_process.proofs.beginning.begin.Goals as goal

pub returns-in-Found-clause-found : goal.returns-in-Found-clause-found
returns-in-Found-clause-found g c = λ found. c.find_intake.ensures.found
