use Rattle.std.proofs.Common.{◌++◌, chars, flat_map, sym, ap, ◌∙◌, append_assoc, append-nil, rules}
use Rattle.std.proofs.Output.{has_written_append, has_written_of_eq}
use Rattle.std.proofs.lemmas.List.{nil_from_length}
use Rattle.std.proofs.lemmas.Str.{chars-nil, chars_past_char, IsUtf8-past_char}
use Rattle.terminal_text.specs.OneLine.{written}
use Rattle.terminal_text.proofs.text.OneLineDisplay.fmt.Goals as goal

pub loop-c-preserved : goal.loop-c-preserved
loop-c-preserved g c =
    let step = c.in-Some.ensures.steps.0 in
    let utf8 = c.loop-c.invariant.0 in (
      IsUtf8-past_char _ _ _ utf8 step,
      λ plain.
          let now = c.loop-c.invariant.1 plain in (
            now.0 ++ written c.in-Some.c,
            has_written_append _ _ _ _ _ _ now.1 (search rules),
            append_assoc now.0 (written c.in-Some.c) _
                ∙ ap (λ cs. now.0 ++ flat_map written cs) (sym (chars_past_char _ _ _ utf8 step)) ∙ now.2,
          ),
    )

pub returns-clause-writes : goal.returns-clause-writes
returns-clause-writes g c = λ plain _.
    let now = c.loop-c.invariant.1 plain in
    let none = ap chars (nil_from_length _ c.in-None.ensures.steps.0.0) ∙ chars-nil in
    has_written_of_eq _ _ _ _ _ (rw (none, append-nil) at now.2) now.1
