use Rattle.std.proofs.Common.{◌≡◌, ◌-◌, ◌≤◌, ◌++◌, length, drop}
use Rattle.serde_json.specs.Find.{unescape}
use Rattle.report_places.proofs.part.unescaped.Given as goal

abbrev pub invariant-loop-at : goal.invariant-loop-at
invariant-loop-at l = (l.at ≤ length l.part) × (l.name.items ++ unescape (drop l.at l.part) ≡ unescape l.part)

abbrev pub decreases-loop-at : goal.decreases-loop-at
decreases-loop-at l = length l.part - l.at
