use Rattle.std.proofs.Common.{◌≡◌, ◌++◌, string_bytes}
use Rattle.std.specs.Str.Iter.{chars_rest}
use Rattle.xbrl_values.specs.Pointer.{escaped}
use Rattle.xbrl_values.proofs.pointer.push_escaped.Given as goal

abbrev pub invariant-loop-character : goal.invariant-loop-character
invariant-loop-character l =
    string_bytes l.place ++ escaped (chars_rest l.character-iterator) ≡ string_bytes l.initial.place ++ escaped l.name
