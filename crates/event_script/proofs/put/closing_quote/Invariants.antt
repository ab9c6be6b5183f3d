use Rattle.std.proofs.Common.{◌≡◌, ◌+◌, false, drop, option_map}
use Rattle.event_script.specs.Lines.{closing_quote}
use Rattle.event_script.proofs.put.closing_quote.Given as goal

abbrev pub invariant-loop-place : goal.invariant-loop-place
invariant-loop-place l =
    closing_quote false l.bytes ≡ option_map (λ n. l.place + n) (closing_quote l.escaped (drop l.place l.bytes))
