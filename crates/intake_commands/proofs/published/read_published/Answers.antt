use Rattle.std.proofs.Common.{◌≡◌, ℕ, List, [], Option, Some, None, refl, sym, ap, ap₂, ◌∙◌, arith}
use Rattle.std.specs.Prelude.{option_map, option_and_then}
use Rattle.std.specs.Result.{result_ok}
use Rattle.hex.specs.Hex.{decode_sized}
use Rattle.command_line.specs.Values.{read_decimal}
use Rattle.intake_process.specs.declared.tasks.errand.Published.{Published}
use Rattle.intake_commands.specs.Words.{before_colon, after_colon, published_in}
use Rattle.intake_commands.proofs.published.read_published.Goals as goal

-- the digest of a number and of bytes, if both were read
abbrev digest_of : Option ℕ → Option (List ℕ) → Option Published
digest_of count bytes =
    option_and_then (λ count. option_map (λ bytes. record { count = count; bytes = bytes }) bytes) count

without_bytes : (count : Option ℕ) → digest_of count None ≡ None
without_bytes None = refl
without_bytes (Some count) = refl

-- the two parts of a text are read
read : (text before after : List ℕ) (count : Option ℕ) (bytes : Option (List ℕ)) → before ≡ before_colon text
    → after ≡ after_colon text → count ≡ read_decimal 64 before → bytes ≡ result_ok (decode_sized after 32)
    → digest_of count bytes ≡ published_in text
unfolding published_in
read text before after count bytes before_is after_is count_is bytes_is =
    ap₂ digest_of (count_is ∙ ap (λ s. read_decimal 64 s) before_is)
    (bytes_is ∙ ap (λ s. result_ok (decode_sized s 32)) after_is)

-- no digits stand behind a colon that is not there
without_colon : (text : List ℕ) → after_colon text ≡ [] → None ≡ published_in text
without_colon text none =
    sym (without_bytes (read_decimal 64 (before_colon text)))
    ∙ read text (before_colon text) [] (read_decimal 64 (before_colon text)) None refl (sym none) refl refl

pub returns-in_err-count : goal.returns-in_err-count
returns-in_err-count c =
    let gone : c.from_residual.result ≡ None = grind arith in
    gone ∙ without_colon c.args.text.now c.in_err-count.ensures

pub returns-in_err-count-2 : goal.returns-in_err-count-2
returns-in_err-count-2 c =
    let parts = c.in_ok-count in
    let gone : c.from_residual-in_err-count-2.result ≡ None = grind arith in
    gone ∙ read c.args.text.now parts.count.now parts.digits.now None (result_ok (decode_sized parts.digits.now 32))
    parts.ensures.0 parts.ensures.1 c.in_err-count-2.ensures refl

pub returns-in_err-bytes : goal.returns-in_err-bytes
returns-in_err-bytes c =
    let parts = c.in_ok-count in
    let gone : c.from_residual-in_err-bytes.result ≡ None = grind arith in
    gone ∙ read c.args.text.now parts.count.now parts.digits.now (Some c.in_ok-count-2.count) None parts.ensures.0
    parts.ensures.1 c.in_ok-count-2.ensures c.in_err-bytes.ensures

pub returns : goal.returns
returns c =
    let parts = c.in_ok-count in
    read c.args.text.now parts.count.now parts.digits.now (Some c.in_ok-count-2.count) (Some c.in_ok-bytes.bytes)
    parts.ensures.0 parts.ensures.1 c.in_ok-count-2.ensures c.in_ok-bytes.ensures
