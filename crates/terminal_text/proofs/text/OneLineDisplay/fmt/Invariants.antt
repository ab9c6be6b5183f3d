use Rattle.std.proofs.Common.{◌≡◌, ◌++◌, ℕ, List, IsUtf8}
use Rattle.std.specs.Fmt.{HasWritten, IsPlainFormatter}
use Rattle.std.specs.Str.Iter.{chars_rest}
use Rattle.terminal_text.specs.OneLine.{one_line}
use Rattle.terminal_text.proofs.text.OneLineDisplay.fmt.Given as goal

abbrev pub invariant-loop-c : goal.invariant-loop-c
invariant-loop-c g l =
    IsUtf8 (chars_rest l.c-iterator)
    × (IsPlainFormatter l.initial.f → (done : List ℕ) × HasWritten g.W.Write.write_str_gives l.initial.f done l.f
    × (done ++ one_line (chars_rest l.c-iterator) ≡ one_line l.fn.self.0.now))
