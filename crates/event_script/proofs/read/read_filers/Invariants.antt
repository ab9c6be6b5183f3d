use Rattle.std.proofs.Common.{◌≡◌, ◌+◌, ◌++◌, length, map, drop, string_bytes}
use Rattle.event_script.specs.Text.{lines_of}
use Rattle.event_script.specs.Scripts.{filers_of}
use Rattle.event_script.proofs.read.read_filers.Given as goal

abbrev pub invariant-loop-filer : goal.invariant-loop-filer
invariant-loop-filer l =
    (filers_of (lines_of l.fn.text.rest.now) ≡ map string_bytes l.filers.items
    ++ filers_of (lines_of l.behind.rest.now))
    × (lines_of l.behind.rest.now ≡ drop (length l.filers.items) (lines_of l.fn.text.rest.now))
    × (l.behind.number ≡ l.fn.text.number + length l.filers.items)

abbrev pub decreases-loop-filer : goal.decreases-loop-filer
decreases-loop-filer l = length l.behind.rest.now
