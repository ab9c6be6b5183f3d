use Rattle.std.proofs.Common.{◌≡◌, ◌+◌, drop}
use Rattle.std.specs.List.{prefix_len}
use Rattle.report_places.specs.Shown.{goes_on}
use Rattle.report_places.proofs.shown.word_len.Given as goal

abbrev pub invariant-loop-index : goal.invariant-loop-index
invariant-loop-index l = prefix_len goes_on l.bytes ≡ l.index + prefix_len goes_on (drop l.index l.bytes)
