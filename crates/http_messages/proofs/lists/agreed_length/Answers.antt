use Rattle.std.proofs.Common.{◌≡◌, ◌∷◌, true, min, sym, ap, ◌∙◌}
use Rattle.std.specs.Str.Parse.{digits_value}
use Rattle.http_messages.specs.Head.{is_number}
use Rattle.http_messages.specs.PartsLeft.{parts_left}
use Rattle.http_messages.proofs.DigitLemmas.{agree-by_digits, agree-none, digits_value-significant}
use Rattle.http_messages.proofs.lists.agreed_length.Goals as goal
use Rattle.http_messages.proofs.lists.agreed_length.Goals.{else-is_number-via-then-is_number+else-are_numbers_of}
use Rattle.http_messages.proofs.lists.agreed_length.Goals.{else-is_number-via-else-is_number}

pub returns-then-are_numbers_of : goal.returns-then-are_numbers_of
returns-then-are_numbers_of c =
    let first = c.in-Some.first.now in
    let later = parts_left c.next.new.self in
    let parts : parts_left c.args.parts ≡ first ∷ later = c.in-Some.ensures.steps in
    let is : is_number first ≡ true = cc in
    let agreed =
    agree-by_digits first c.significant_digits-digits.result.now later is c.significant_digits-digits.ensures in
    let value = ap (digits_value 10) c.significant_digits-digits.ensures ∙ digits_value-significant first in
    rw parts (
      agreed ∙ sym c.are_numbers_of.ensures ∙ c.if-are_numbers_of.true,
      c.bounded_value.ensures
          ∙ ap (λ n. min n 8388609) value,
    )

pub returns-else-is_number : goal.returns-else-is_number
returns-else-is_number c =
    let first = c.in-Some.first.now in
    let later = parts_left c.next.new.self in
    let parts : parts_left c.args.parts ≡ first ∷ later = c.in-Some.ensures.steps in
    rw parts (elim c.else-is_number.branch [
      | else-is_number-via-then-is_number+else-are_numbers_of w ↦
          let is : is_number first ≡ true = cc in
          agree-by_digits first c.significant_digits-digits.result.now later is c.significant_digits-digits.ensures
          ∙ sym w.are_numbers_of.ensures ∙ w.if-are_numbers_of.false
      | else-is_number-via-else-is_number w ↦ agree-none first later (cc)
    ])
