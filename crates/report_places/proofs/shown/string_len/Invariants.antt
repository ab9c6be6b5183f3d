use Rattle.std.proofs.Common.{◌≡◌, ◌+◌, cond, drop}
use Rattle.json.specs.Lex.{in_string, in_escape}
use Rattle.json.specs.Align.{span}
use Rattle.report_places.proofs.shown.string_len.Given as goal

abbrev pub invariant-loop-index : goal.invariant-loop-index
invariant-loop-index l =
    span in_string l.bytes ≡ l.index + span (cond l.is_escaped in_escape in_string) (drop l.index l.bytes)
