use Rattle.std.proofs.Common.{◌≡◌, ◌+◌, ◌-◌, ◌*◌, length}
use Rattle.http_wire.specs.Received.{held_bytes, read_count}
use Rattle.http_messages.specs.Reads.{max_reads}
use Rattle.http_wire.proofs.ReplyLemmas.{HasSkipped}
use Rattle.http_wire.proofs.reply_reader.read_reply.Given as goal

abbrev pub invariant-loop-received : goal.invariant-loop-received
invariant-loop-received g l = record {
  skipped : HasSkipped (g.R.Source.left l.fn.reader) (g.R.Source.left l.reader) l.received;
  fine : g.R.Source.read_failures l.reader ≡ g.R.Source.read_failures l.fn.reader;
}

abbrev pub decreases-loop-received : goal.decreases-loop-received
decreases-loop-received g l = (max_reads - read_count l.received) * 1064963 + length (held_bytes l.received)
