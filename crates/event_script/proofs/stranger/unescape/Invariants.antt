use Rattle.std.proofs.Common.{◌≡◌, ◌++◌, false, length, option_map}
use Rattle.event_script.specs.Lines.{unescaped}
use Rattle.event_script.proofs.stranger.unescape.Given as goal

abbrev pub decreases-loop-byte : goal.decreases-loop-byte
decreases-loop-byte l = length l.rest

abbrev pub invariant-loop-byte : goal.invariant-loop-byte
invariant-loop-byte l = unescaped false l.text ≡ option_map (λ more. l.bytes.items ++ more) (unescaped false l.rest)
