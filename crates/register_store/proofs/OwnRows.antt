-- What the statements show of one filer's requests.
use Rattle.std.proofs.Common.{◌≡◌, Bool, ℕ, ◌+◌, true, false, List, [], ◌∷◌, map, filter, inl, refl, ◌∙◌, ⊎_elim}
use Rattle.std.specs.Prelude.{bytes_eq}
use Rattle.std.proofs.lemmas.Bool.{cases_Bool}
use Rattle.sqlite.specs.Order.{Row}
use Rattle.sqlite.specs.State.{State}
use Rattle.sqlite_keyed.proofs.ListLemmas.{ascending-filter}
use Rattle.filing_model.specs.Request.{Request}
use Rattle.filing_model.specs.Register.{Kept, kept}
use Rattle.table_rows.specs.Rows.{counted_from}
use Rattle.table_rows.specs.Reading.{ReadsRows}
use Rattle.table_rows.specs.Standing.{HasCommitted}
use Rattle.table_rows.proofs.OrderLemmas.{counted_rise, same_text, and_true}
use Rattle.register_tables.specs.Reads.{by_first}
use Rattle.register_store.specs.Reads.{has_filer}
use Rattle.register_rows.specs.Register.{kept_row}
use Rattle.register_rows.specs.Schema.{kept_table}
use Rattle.register_tables.specs.Registers.{IsRegisterOf}
use Rattle.register_store.proofs.ReplaceLemmas.{AreAt, behind}

-- whether the kept request is the filer's
abbrev pub is_filers : List ℕ → Kept → Bool
is_filers filer k = bytes_eq k.request.filer filer

-- ---- the places of the filer's requests

module _ (filer : List ℕ) where
  its_filer : (at : ℕ) (k : Kept) → has_filer filer (kept_row at k) ≡ is_filers filer k
  its_filer at k = and_true _ ∙ same_text k.request.filer filer

  abbrev places_from : ℕ → List Kept → List Row
  places_from at ks = map by_first (filter (has_filer filer) (counted_from kept_row at ks))

  pub are_own : (at : ℕ) (ks : List Kept) → AreAt at ks (places_from at ks) (filter (is_filers filer) ks)
  are_own at [] = tt
  are_own at (x ∷ ks) = ⊎_elim
      (λ (t : is_filers filer x ≡ true). rw (its_filer at x ∙ t, t) (
        (at, inl (refl, refl), refl),
        behind at x ks (filter (is_filers filer) ks) (places_from (at + 1) ks) (are_own (at + 1) ks),
      ))
      (λ (f : is_filers filer x ≡ false). rw (
        its_filer at x ∙ f,
        f,
      ) (behind at x ks (filter (is_filers filer) ks) (places_from (at + 1) ks) (are_own (at + 1) ks)))
      (cases_Bool (is_filers filer x))

  pub places_shown : {old_style : ℕ} (F : List Request) (old new : State) (rows : List Row)
      → HasCommitted (IsRegisterOf old_style F) old
      → ReadsRows kept_table (has_filer filer) by_first by_first rows old new → rows ≡ places_from 1 (kept F)
  places_shown F old new rows was r =
      let wanted = counted_from kept_row 1 (kept F) in
      r.ordered wanted (was.now r.same.0.was_open).rows.rows.kept_is
      (ascending-filter _ (has_filer filer) wanted (counted_rise kept_row by_first (λ _ _. refl) 1 (kept F)))
