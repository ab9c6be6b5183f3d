use Rattle.programs.proofs.Delivering.{delivered, still_holds}
use Rattle.programs.proofs.connections_are_deliveries.Goals as goal

pub returns-clause-steps : goal.returns-clause-steps
returns-clause-steps c = delivered

pub returns-clause-holds : goal.returns-clause-holds
returns-clause-holds c = still_holds
