use Rattle.std.proofs.Common.{◌≡◌, ◌+◌, ◌*◌, min, take, get_or, arith, sym, ap, ◌∙◌}
use Rattle.std.proofs.lemmas.Int.Digits.{digits_value_more}
use Rattle.std.proofs.lemmas.Bool.Decides.{nat_tests}
use Rattle.std.specs.Char.{digit_value}
use Rattle.std.specs.Str.Parse.{digits_value}
use Rattle.http_messages.proofs.DigitLemmas.{min-digit}
use Rattle.http_messages.proofs.lists.bounded_value.Goals as goal

pub loop-digit-preserved : goal.loop-digit-preserved
loop-digit-preserved c =
    let digits = c.args.digits.now in
    let index = c.loop-digit.digit-index in
    let more = digits_value_more 10 digits index c.loop-digit-test.true in
    let digit : c.from.result ≡ digit_value (get_or digits index 0) = let d =
    c.requires index 0 c.loop-digit-test.true in grind (arith, nat_tests, d, c.from.ensures) in
    let step =
    min-digit (digits_value 10 (take index digits)) (digit_value (get_or digits index 0)) 8388609 (omega arith) in
    let said : c.min-value.result
    ≡ min (min (digits_value 10 (take index digits)) 8388609 * 10 + digit_value (get_or digits index 0)) 8388609 =
    c.min-value.ensures ∙ grind (arith, digit, c.loop-digit.invariant) in
    said ∙ step ∙ ap (λ n. min n 8388609) (sym more)
