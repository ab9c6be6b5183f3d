use Rattle.std.proofs.Common.{◌≡◌, ◌∙◌, Some, sym, ap, inl, inr, true, false, arith, rules}
use Rattle.std.proofs.lemmas.Fmt.{IsAscii-from_digits}
use Rattle.std.proofs.lemmas.Str.{IsUtf8-from_ascii}
use Rattle.gateway_requests.specs.Path.{is_decimal}
use Rattle.http_messages.proofs.DigitLemmas.{decimal_numerals}
use Rattle.gateway_requests.proofs.Numbers.{all, number-read, number-above, number-none, value_is, large_is}
use Rattle.gateway_requests.proofs.path.read_number.Goals as goal

pub returns-then-not-is_decimal-clause-value : goal.returns-then-not-is_decimal-clause-value
returns-then-not-is_decimal-clause-value c =
    let wrong : is_decimal c.args.text.now ≡ false = search rules in
    sym (number-none c.args.text.now (inl wrong))

pub returns-in_default-clause-value : goal.returns-in_default-clause-value
returns-in_default-clause-value c =
    let is : is_decimal c.args.text.now ≡ true = search rules in
    absurd (c.in_default.ensures.cases.0 (IsUtf8-from_ascii c.args.text.now
    (IsAscii-from_digits c.args.text.now (decimal_numerals.to c.args.text.now (all c.args.text.now is)))))

pub returns-in-Ok-parse-clause-value : goal.returns-in-Ok-parse-clause-value
returns-in-Ok-parse-clause-value c =
    let is : is_decimal c.args.text.now ≡ true = search rules in
    let value =
    value_is c.args.text.now c.in-Ok.digits.now c.in-Ok.ensures.cases.0 is c.parse.result c.parse.ensures.value.0
    c.in-Ok-parse.number c.in-Ok-parse.is in
    ap Some value ∙ sym (number-read c.args.text.now is (omega (arith, value, c.if-number-le-MAX_FILING_NUMBER.true)))

pub returns-in-Ok-parse-clause-number : goal.returns-in-Ok-parse-clause-number
returns-in-Ok-parse-clause-number c =
    let is : is_decimal c.args.text.now ≡ true = search rules in
    let value =
    value_is c.args.text.now c.in-Ok.digits.now c.in-Ok.ensures.cases.0 is c.parse.result c.parse.ensures.value.0
    c.in-Ok-parse.number c.in-Ok-parse.is in
    let above = number-above c.args.text.now is (omega (arith, value, c.if-number-le-MAX_FILING_NUMBER.true)) in
    (omega (arith, value, above), omega (arith, c.if-number-le-MAX_FILING_NUMBER.true))

pub returns-in_default-parse-2-clause-value : goal.returns-in_default-parse-2-clause-value
returns-in_default-parse-2-clause-value c =
    let is : is_decimal c.args.text.now ≡ true = search rules in
    sym (number-none c.args.text.now
    (inr (large_is c.args.text.now c.in-Ok.digits.now c.in-Ok.ensures.cases.0 is c.parse.result
    c.parse.ensures.value.0 c.in_default-parse.field-0 c.in_default-parse.is)))
