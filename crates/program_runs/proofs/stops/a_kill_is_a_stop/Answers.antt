use Rattle.std.proofs.Common.{inr}
use Rattle.database_places.proofs.Leaving.{killed_as_stopped, closed_as_killed}
use Rattle.program_runs.proofs.stops.a_kill_is_a_stop.Goals as goal

pub returns-clause-kill : goal.returns-clause-kill
returns-clause-kill g c it files left = killed_as_stopped it g.met.D.Disk.seen_may_stay files left

pub returns-clause-close : goal.returns-clause-close
returns-clause-close g c conn files error failed = (inr failed.closed, closed_as_killed conn files error failed)
