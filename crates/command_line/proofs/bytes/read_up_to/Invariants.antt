use Rattle.std.proofs.Common.{◌≡◌, ◌≤◌, ◌-◌, vec_len}
use Rattle.std.specs.Io.KnownBytes.{Consumes}
use Rattle.command_line.specs.Reading.{ReadsGive}
use Rattle.command_line.proofs.bytes.read_up_to.Given as goal

abbrev pub invariant-loop-reads : goal.invariant-loop-reads
invariant-loop-reads g l = record {
  within : vec_len l.bytes ≤ l.most;
  made : l.reads.made ≤ vec_len l.bytes;
  room : vec_len l.room ≡ 16384;
  reads : ReadsGive g.R.Source.left g.R.Source.read_failures l.reads.made l.fn.reader l.reader;
  given : Consumes (g.R.Source.left l.fn.reader) (g.R.Source.left l.reader) l.bytes.items;
  failures : g.R.Source.read_failures l.reader ≡ g.R.Source.read_failures l.fn.reader;
}

abbrev pub decreases-loop-reads : goal.decreases-loop-reads
decreases-loop-reads g l = l.most - vec_len l.bytes
