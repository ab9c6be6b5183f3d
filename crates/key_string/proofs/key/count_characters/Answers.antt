use Rattle.std.proofs.Common.{◌≡◌, ◌≤◌, ◌∷◌, [], ◌++◌, length, drop, arith, sym, ◌∙◌, ap}
use Rattle.std.proofs.lemmas.Grind.{common_steps}
use Rattle.std.proofs.lemmas.Bool.{false≢true}
use Rattle.std.specs.List.{flat_map}
use Rattle.key_string.specs.Key.{double_quote, character}
use Rattle.key_string.proofs.Reading.{HasReadText-more, HasReadText-all, length-characters}
use Rattle.key_string.proofs.key.count_characters.Goals as goal

pub overflow_add-count : goal.overflow_add-count
overflow_add-count c =
    let read = c.loop-after.invariant in
    let most : length read.0 ≤ length (flat_map character read.0) = length-characters read.0 in
    let next = c.in-Some.ensures in
    grind (arith, common_steps, read.1.spelled, next.1, most, read.2)

pub loop-after-preserved : goal.loop-after-preserved
loop-after-preserved c =
    let read = c.loop-after.invariant in (
      read.0 ++ c.in-Some.field-0-0 ∷ [],
      HasReadText-more _ c.loop-after.rest.now _ read.0 c.in-Some.field-0-0 read.1 c.in-Some.ensures,
      grind (arith, common_steps),
    )

pub returns-else-eq : goal.returns-else-eq
returns-else-eq c = λ text s.
    let read = c.loop-after.invariant in
    let inside = c.in_ok-rest.ensures.cases.1 ∙ ap (drop 1) s.spelled in
    let opened : c.args.field.now ≡ double_quote ∷ c.in_ok-rest.rest.now =
    s.spelled ∙ ap (λ bytes. double_quote ∷ bytes) (sym inside) in
    let all =
    HasReadText-all c.in_ok-rest.rest.now c.loop-after.rest.now read.0 text read.1 c.in_default.ensures
    (rw opened at s) in
    false≢true (rw (all.1, c.as_slice.ensures) at c.if-eq.ensures)
