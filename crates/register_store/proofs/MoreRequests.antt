-- The rows of a list of requests with one more.
use Rattle.std.proofs.Common.{◌≡◌, ℕ, ◌+◌, suc, false, List, [], ◌∷◌, ◌++◌, append-nil, append_assoc, length}
use Rattle.std.proofs.Common.{length-append, Some, sym, ap, ◌∙◌, arith}
use Rattle.sqlite.specs.Order.{Row}
use Rattle.sqlite.specs.Effect.{Database}
use Rattle.filing_model.specs.Request.{Request, has_key}
use Rattle.filing_model.specs.Register.{Kept, judged, kept, register}
use Rattle.filing_model.proofs.Firsts.{firsts_new}
use Rattle.filing_model.proofs.Keeping.{kept_new, all_push}
use Rattle.table_rows.specs.Rows.{counted_from}
use Rattle.table_rows.proofs.StepLemmas.{counted_push}
use Rattle.register_rows.specs.Register.{IsCompleted, StandsFor, kept_row, finding_rows, filing_rows, fact_rows}
use Rattle.register_rows.specs.Register.{amends_rows, joined_from}
use Rattle.register_store.specs.Changes.{AddsRows}
use Rattle.register_tables.specs.Registers.{IsRegisterOf}
use Rattle.register_rows.proofs.MoreRequests.{kept_length}

joined_push : (rows : ℕ → Kept → List Row) (at : ℕ) (ks : List Kept) (k : Kept)
    → joined_from rows at (ks ++ k ∷ []) ≡ joined_from rows at ks ++ rows (at + length ks) k
joined_push rows at [] k = append-nil (rows at k) ∙ ap (λ n. rows n k) (omega arith)
joined_push rows at (x ∷ ks) k =
    ap (λ l. rows at x ++ l) (joined_push rows (at + 1) ks k)
    ∙ sym (append_assoc (rows at x) (joined_from rows (at + 1) ks) (rows (at + 1 + length ks) k))
    ∙ ap (λ n. (rows at x ++ joined_from rows (at + 1) ks) ++ rows n k) (omega arith)

module _ (old_style : ℕ) (F : List Request) (r : Request) (new : has_key F r ≡ false) (completed : IsCompleted r) where
  pub stands_for_more : (moment : ℕ) (old after : Database) → StandsFor old old_style F
      → AddsRows (suc (length F)) (judged (kept F) r) moment old after → StandsFor after old_style (F ++ r ∷ [])
  stands_for_more moment old after stands adds =
      let ks = kept F in
      let k = judged (kept F) r in
      let at : 1 + length ks ≡ suc (length F) = omega (arith, kept_length F stands.distinct) in
      let has = adds.rows old_style _ _ _ _ _ stands.rows in
      let kept_is =
      ap (counted_from kept_row 1) (kept_new F r new) ∙ counted_push kept_row 1 ks k
      ∙ ap (λ n. counted_from kept_row 1 ks ++ kept_row n k ∷ []) at in
      let finding_is =
      ap (joined_from finding_rows 1) (kept_new F r new) ∙ joined_push finding_rows 1 ks k
      ∙ ap (λ n. joined_from finding_rows 1 ks ++ finding_rows n k) at in
      let filing_is =
      ap (joined_from filing_rows 1) (kept_new F r new) ∙ joined_push filing_rows 1 ks k
      ∙ ap (λ n. joined_from filing_rows 1 ks ++ filing_rows n k) at in
      let fact_is =
      ap (joined_from fact_rows 1) (kept_new F r new) ∙ joined_push fact_rows 1 ks k
      ∙ ap (λ n. joined_from fact_rows 1 ks ++ fact_rows n k) at in
      let amends_is =
      ap (joined_from amends_rows 1) (kept_new F r new) ∙ joined_push amends_rows 1 ks k
      ∙ ap (λ n. joined_from amends_rows 1 ks ++ amends_rows n k) at in
      record {
        distinct = firsts_new F r new ∙ ap (λ front. front ++ r ∷ []) stands.distinct;
        completed = all_push IsCompleted F r stands.completed completed;
        within = omega (arith, stands.within, length-append F (r ∷ []));
        moments = stands.moments ++ Some moment ∷ [];
        one_each = omega (
          arith,
          stands.one_each,
          length-append stands.moments (Some moment ∷ []),
          length-append F (r ∷ []),
        );
        received = adds.received stands.rows.declared stands.moments (ap suc stands.one_each) stands.received;
        rows = rw (kept_is, finding_is, filing_is, fact_is, amends_is) has;
      }

  pub register_of_more : (moment : ℕ) (old after : Database) → IsRegisterOf old_style F old
      → AddsRows (suc (length F)) (judged (kept F) r) moment old after → IsRegisterOf old_style (F ++ r ∷ []) after
  register_of_more moment old after register adds = record {
    sound = adds.sound register.rows.rows.declared register.sound;
    rows = stands_for_more moment old after register.rows adds;
  }
