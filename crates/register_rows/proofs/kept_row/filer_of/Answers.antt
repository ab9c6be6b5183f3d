use Rattle.std.proofs.Common.{◌≡◌, ◌≤◌, length, true, subst, ◌∙◌, arith}
use Rattle.http_messages.specs.Head.{max_body_len}
use Rattle.key_string.specs.Filer.{is_filer}
use Rattle.key_string.specs.Key.{IsKey}
use Rattle.register_rows.proofs.kept_row.filer_of.Goals as goal

pub returns : goal.returns
returns c target is_target =
    let low : length c.bytes_at.result.now ≤ max_body_len = omega (arith, c.if-bytes_at-gt-MAX_BODY_LEN.false) in (
      c.in-Some.ensures.0 ∙ c.text_at.ensures,
      record {
        filer = subst (λ f. is_filer f ≡ true) c.text_at.ensures c.in-Some.ensures.1;
        key = subst IsKey c.text_at-key.ensures (c.is_key.ensures.key.0 c.if-not-is_key.false);
        target = is_target;
        body = subst (λ b. length b ≤ max_body_len) c.bytes_at.ensures low;
      },
    )
