use Rattle.std.proofs.Common.{◌≡◌, ◌-◌}
use Rattle.http_messages.specs.Block.{from_block, HasNoEndUpTo}
use Rattle.http_wire.specs.Received.{held_bytes, read_count, received, Receives}
use Rattle.http_messages.specs.Reads.{max_reads}
use Rattle.http_wire.proofs.received.Received.read_block.Given as goal

abbrev pub invariant-loop-block : goal.invariant-loop-block
invariant-loop-block g l = record {
  searched : HasNoEndUpTo (from_block (held_bytes l.self)) l.searched;
  reads : Receives (g.R.Source.left l.fn.reader) (g.R.Source.left l.reader) (received l.fn.self) (received l.self);
  fine : g.R.Source.read_failures l.reader ≡ g.R.Source.read_failures l.fn.reader;
}

abbrev pub decreases-loop-block : goal.decreases-loop-block
decreases-loop-block g l = max_reads - read_count l.self
