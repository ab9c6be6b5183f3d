use Rattle.std.proofs.Common.{◌≡◌, ◌++◌, take}
use Rattle.std.specs.List.{flat_map}
use Rattle.drill_commands.specs.Shown.{filing_shown}
use Rattle.drill_commands.proofs.lines.append_filings.Given as goal

abbrev pub invariant-loop-filing : goal.invariant-loop-filing
invariant-loop-filing l = l.text.items ≡ l.fn.text.items ++ flat_map filing_shown (take l.filing-index l.filings)
