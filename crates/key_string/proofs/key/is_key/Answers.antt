use Rattle.std.proofs.Common.{◌≡◌, sym, ◌∙◌, arith}
use Rattle.std.proofs.lemmas.Grind.{common_steps}
use Rattle.key_string.specs.Key.{is_key}
use Rattle.key_string.proofs.Fields.{is_key-IsKey, IsKey-is_key}
use Rattle.key_string.proofs.key.is_key.Goals as goal

pub returns-then-text-le-MAX_KEY_LEN-clause-key : goal.returns-then-text-le-MAX_KEY_LEN-clause-key
returns-then-text-le-MAX_KEY_LEN-clause-key c =
    let text = c.args.text.now in
    let value : c.are_printable.result ≡ is_key text = grind (arith, common_steps) in
    (λ yes. is_key-IsKey text (sym value ∙ yes), λ key. value ∙ IsKey-is_key text key)
