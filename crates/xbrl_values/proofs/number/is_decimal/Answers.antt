use Rattle.std.proofs.Common.{◌≡◌, ◌<◌, true, length, arith, ◌∙◌, sym, eqb}
use Rattle.std.proofs.lemmas.Bool.Decides.{nat_tests}
use Rattle.std.specs.List.{position_or_len, before_first, after_first}
use Rattle.xbrl_values.specs.Number.{is_decimal, is_mantissa, is_exponent, is_exponent_mark}
use Rattle.xbrl_values.proofs.FirstPassing.{none_from_position, some_from_position}
use Rattle.xbrl_values.proofs.number.is_decimal.Goals as goal

pub returns-then-mark-unsigned : goal.returns-then-mark-unsigned
unfolding is_decimal
returns-then-mark-unsigned c =
    let unsigned = c.without_sign-unsigned.result.now in
    let value = c.place_of_exponent_mark-mark.ensures.value in
    let at_end : position_or_len is_exponent_mark unsigned ≡ length unsigned = omega (arith, value) in
    let none = none_from_position is_exponent_mark unsigned at_end in
    let mantissa : is_mantissa (before_first is_exponent_mark unsigned) ≡ true =
    sym (rw value at c.is_mantissa.ensures) ∙ c.if-is_mantissa.true in
    let same : eqb c.place_of_exponent_mark-mark.result (length unsigned) ≡ true = grind (arith, nat_tests) in
    rw (← c.without_sign-unsigned.ensures, mantissa, none) same

pub returns-else-mark-unsigned : goal.returns-else-mark-unsigned
unfolding is_decimal
returns-else-mark-unsigned c =
    let unsigned = c.without_sign-unsigned.result.now in
    let value = c.place_of_exponent_mark-mark.ensures.value in
    let before_end : position_or_len is_exponent_mark unsigned < length unsigned = omega (arith, value) in
    let some = some_from_position is_exponent_mark unsigned before_end in
    let mantissa : is_mantissa (before_first is_exponent_mark unsigned) ≡ true =
    sym (rw value at c.is_mantissa.ensures) ∙ c.if-is_mantissa.true in
    let exponent : c.is_exponent.result ≡ is_exponent (after_first is_exponent_mark unsigned) =
    rw (c.after.ensures, value) at c.is_exponent.ensures in
    rw (← c.without_sign-unsigned.ensures, mantissa, some) exponent
