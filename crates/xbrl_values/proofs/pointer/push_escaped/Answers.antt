use Rattle.std.proofs.Common.{arith, rules, sym}
use Rattle.std.proofs.lemmas.Bool.Decides.{nat_tests}
use Rattle.std.proofs.lemmas.Grind.{common_steps}
use Rattle.xbrl_values.proofs.Escapes.{escaped-nil, escaped-of_plain, escape_more, escaped_tilde, escaped_slash}
use Rattle.xbrl_values.proofs.Escapes.{escaped-encode_utf8}
use Rattle.xbrl_values.proofs.pointer.push_escaped.Goals as goal

pub returns-then-is_plain : goal.returns-then-is_plain
returns-then-is_plain c = rw (escaped-of_plain c.args.name.now (sym c.if-is_plain.ensures)) (search rules)

pub loop-character-preserved-in-Continue-1 : goal.loop-character-preserved-in-Continue-1
loop-character-preserved-in-Continue-1 c =
    rw c.in_ok-push_str-in-126.ensures.bytes (escape_more _ _ _ _ _ _ c.in-Some.character c.loop-character.invariant
    c.in-Some.ensures.steps.0 (escaped_tilde _ c.in-126.is))

pub loop-character-preserved-in-Continue-branch-2 : goal.loop-character-preserved-in-Continue-branch-2
loop-character-preserved-in-Continue-branch-2 c =
    rw c.in_ok-push_str-in-47.ensures.bytes (escape_more _ _ _ _ _ _ c.in-Some.character c.loop-character.invariant
    c.in-Some.ensures.steps.0 (escaped_slash _ c.in-47.is))

pub loop-character-preserved : goal.loop-character-preserved
loop-character-preserved c =
    rw c.in_ok-push-in_default.ensures.bytes (escape_more _ _ _ _ _ _ c.in-Some.character c.loop-character.invariant
    c.in-Some.ensures.steps.0 (escaped-encode_utf8 _ (λ e. absurd (grind (arith, nat_tests)))
    (λ e. absurd (grind (arith, nat_tests)))))

pub returns : goal.returns
returns c = let none = c.in-None.ensures.steps in grind (arith, common_steps, escaped-nil)
