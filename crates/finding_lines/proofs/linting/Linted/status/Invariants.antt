use Rattle.std.proofs.Common.{◌≡◌, max, map, take, if◌then◌else◌}
use Rattle.command_line.specs.Status.{status_of}
use Rattle.finding_lines.specs.Linting.{greatest}
use Rattle.finding_lines.proofs.linting.Linted.status.Given as goal

abbrev pub invariant-loop-fault : goal.invariant-loop-fault
invariant-loop-fault l =
    l.status
    ≡ max (if l.self.is_found then 1 else 0) (greatest (map status_of (take l.fault-index l.self.unread.items)))
