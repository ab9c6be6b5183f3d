use Rattle.std.proofs.Common.{◌≡◌, ◌-◌, ◌≤◌, length}
use Rattle.http_wire.specs.Received.{read_count}
use Rattle.http_messages.specs.Reads.{max_reads}
use Rattle.http_wire.specs.ReplyReading.{Takes}
use Rattle.http_wire.proofs.reply_reader.take_content.Given as goal

abbrev pub invariant-loop-content : goal.invariant-loop-content
invariant-loop-content g l = record {
  takes : Takes (g.R.Source.left l.fn.reader) (g.R.Source.left l.reader) l.fn.received l.received l.content.items;
  fine : g.R.Source.read_failures l.reader ≡ g.R.Source.read_failures l.fn.reader;
  short : length l.content.items ≤ l.len;
}

abbrev pub decreases-loop-content : goal.decreases-loop-content
decreases-loop-content g l = max_reads - read_count l.received
