use Rattle.std.proofs.Common.{◌+◌, ◌-◌, ◌*◌}
use Rattle.std.specs.Prelude.{if◌then◌else◌}
use Rattle.http_connection.specs.Connection.{has_ended}
use Rattle.http_messages.specs.Reads.{max_reads}
use Rattle.http_wire.proofs.ReadingLemmas.{ReadsOn}
use Rattle.http_wire.proofs.reading.Reading.next_arrival.Given as goal

abbrev pub invariant-loop-awaits : goal.invariant-loop-awaits
invariant-loop-awaits g l =
    ReadsOn g.R.Source g.W.Sink l.fn.reader l.reader l.fn.writer l.writer l.fn.self l.self l.is_sent

-- each read gives bytes, or finds the end
abbrev pub decreases-loop-awaits : goal.decreases-loop-awaits
decreases-loop-awaits g l = 2 * (max_reads - l.self.reads) + (if has_ended l.self.connection then 0 else 1)
