use Rattle.std.proofs.Common.{◌≡◌, suc, ◌+◌, ◌∙◌, sym, ap₂, length, arith, [], ◌∷◌}
use Rattle.std.proofs.lemmas.List.{length-append}
use Rattle.register_extracts.specs.Digest.{next_digest}
use Rattle.register_extracts.specs.Views.{view_row}
use Rattle.register_extracts.proofs.Adding.{digest_more}
use Rattle.register_extracts.proofs.digest.Digest.add.Goals as goal

pub returns-clause-digested : goal.returns-clause-digested
returns-clause-digested c rows is = record {
  count_is =
      let long = length-append rows (view_row c.args.row.now ∷ []) in omega (arith, long, is.count_is);
  digest_is =
      let place : c.args.self.now.count + 1 ≡ suc (length rows) = omega (arith, is.count_is) in
      c.next-self.ensures
      ∙ ap₂ (λ before seq. next_digest before seq (view_row c.args.row.now)) is.digest_is place
      ∙ sym (digest_more rows (view_row c.args.row.now));
}
