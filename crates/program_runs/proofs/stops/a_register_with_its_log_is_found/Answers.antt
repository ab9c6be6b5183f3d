use Rattle.database_places.proofs.Finding.{fails_for_cause}
use Rattle.program_runs.proofs.Registering.{closed, found}
use Rattle.program_runs.proofs.stops.a_register_with_its_log_is_found.Goals as goal

pub returns-clause-found : goal.returns-clause-found
returns-clause-found g c honest = found g.D.Disk honest

pub returns-clause-refused : goal.returns-clause-refused
returns-clause-refused g c files old_style requests held = fails_for_cause files held.db held.held

pub returns-clause-closed : goal.returns-clause-closed
returns-clause-closed g c = closed g.D.Disk
