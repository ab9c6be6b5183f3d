-- Whether a filing is there, whose it is, and whether another one replaces it, as the rows say it.
use Rattle.std.proofs.Common.{◌≡◌, ℕ, ◌+◌, ◌<◌, ℤ, inl, inr, pos, zero, suc, Bool, true, false, List, [], ◌∷◌, map}
use Rattle.std.proofs.Common.{filter, get_or, length, Some, None, refl, sym, ap, ap₂, subst, ◌∙◌, arith}
use Rattle.std.specs.Prelude.{bytes_eq, ◌||◌, ◌&&◌}
use Rattle.std.specs.List.{list_any}
use Rattle.std.proofs.Math.Bool.{and-false}
use Rattle.sqlite.specs.declared.types.Value.TheVariants.{Int}
use Rattle.sqlite.specs.Order.{Row}
use Rattle.sqlite.specs.State.{State}
use Rattle.sqlite_keyed.proofs.ListLemmas.{ascending-filter}
use Rattle.filing_model.specs.Request.{Request}
use Rattle.filing_model.specs.Register.{Outcome, Kept, filings, is_filing_of, kept}
use Rattle.filing_model.specs.Register.Outcome.{Registered, Refused}
use Rattle.table_rows.specs.Rows.{counted_from}
use Rattle.table_rows.specs.Reading.{ReadsRows}
use Rattle.table_rows.specs.Standing.{HasCommitted}
use Rattle.table_rows.proofs.OrderLemmas.{counted_rise, same_number, and_true}
use Rattle.register_rows.specs.Columns.{request_in}
use Rattle.register_store.specs.Found.{IsPlaced, has_seq}
use Rattle.register_tables.specs.Reads.{by_first}
use Rattle.register_rows.specs.Register.{kept_row, number_of}
use Rattle.register_rows.specs.Schema.{kept_table}
use Rattle.register_tables.specs.Registers.{IsRegisterOf}
use Rattle.register_rows.proofs.Filings.{CountFrom, first_counts, none_outside, other_number, own_number}
use Rattle.register_store.proofs.FindLemmas.{placed_from}

-- ---- the kept row at a place

module _ (seq : ℕ) where
  no_later : (at : ℕ) (ks : List Kept) → seq < at → filter (has_seq (pos seq)) (counted_from kept_row at ks) ≡ []
  no_later at [] low = refl
  no_later at (k ∷ ks) low =
      rw (and_true _ ∙ same_number at seq ∙ other_number at seq (λ e. omega (arith, low, e)))
      (no_later (at + 1) ks (omega (arith, low)))

  its_kept : (at : ℕ) (ks : List Kept) (k : Kept) → IsPlaced at seq ks k
      → filter (has_seq (pos seq)) (counted_from kept_row at ks) ≡ kept_row seq k ∷ []
  its_kept at [] k h = absurd h
  its_kept at (x ∷ ks) k (inl here) =
      rw (
        and_true _ ∙ same_number at seq ∙ own_number at seq (sym here.0),
        no_later (at + 1) ks (omega (arith, here.0)),
      ) (ap₂ (λ n y. kept_row n y ∷ []) (sym here.0) (sym here.1))
  its_kept at (x ∷ ks) k (inr later) =
      let above = placed_from seq (at + 1) ks k later in
      rw (and_true _ ∙ same_number at seq ∙ other_number at seq (λ e. omega (arith, above, e)))
      (its_kept (at + 1) ks k later)

-- what a statement shows of the kept row at a place
pub kept_shown : {old_style : ℕ} (F : List Request) (old new : State) (rows : List Row) (show : Row → Row)
    → HasCommitted (IsRegisterOf old_style F) old → (place : ℤ) (seq : ℕ) (k : Kept) → place ≡ pos seq
    → IsPlaced 1 seq (kept F) k
    → ReadsRows kept_table (has_seq place) by_first show rows old new → rows ≡ show (kept_row seq k) ∷ []
kept_shown F old new rows show was place seq k is placed h =
    let r = subst (λ (at : ℤ). ReadsRows kept_table (has_seq at) by_first show rows old new) is h in
    let wanted = counted_from kept_row 1 (kept F) in
    r.ordered wanted (was.now r.same.0.was_open).rows.rows.kept_is
    (ascending-filter _ (has_seq (pos seq)) wanted (counted_rise kept_row by_first (λ _ _. refl) 1 (kept F)))
    ∙ ap (map show) (its_kept seq 1 (kept F) k placed)

-- ---- whose the filing of a number is

-- no kept request has a number below those of the filings
module _ (n : ℕ) where
  none_numbered : (m at : ℕ) (ks : List Kept) → n < m → CountFrom m (filings ks) → (k : Kept) (seq : ℕ)
      → IsPlaced at seq ks k → number_of k.outcome ≡ Some n → ⊥
  unfolding filings
  none_numbered m at [] low counts k seq placed is = placed
  none_numbered m at (x ∷ ks) low counts k seq placed is =
      go x.outcome refl counts (λ m low counts later. none_numbered m (at + 1) ks low counts k seq later is) placed
    where
      go : (o : Outcome) → x.outcome ≡ o → CountFrom m (filings (record { request = x.request; outcome = o } ∷ ks))
          → ((m : ℕ) → n < m → CountFrom m (filings ks) → IsPlaced (at + 1) seq ks k → ⊥)
          → IsPlaced at seq (x ∷ ks) k → ⊥
      go (Registered number) so counts rest (inl here) =
          let first = first_counts m (record { number = number; request = x.request }) (filings ks) counts in
          let same : Some number ≡ Some n = ap number_of (sym so ∙ ap (λ (y : Kept). y.outcome) (sym here.1)) ∙ is in
          let e : number ≡ n = cc same in
          omega (arith, low, e, first.0)
      go (Registered number) so counts rest (inr later) =
          let first = first_counts m (record { number = number; request = x.request }) (filings ks) counts in
          rest (m + 1) (omega (arith, low)) first.1 later
      go (Refused findings) so counts rest (inl here) =
          let same : None ≡ Some n = ap number_of (sym so ∙ ap (λ (y : Kept). y.outcome) (sym here.1)) ∙ is in
          absurd (cc same)
      go (Refused findings) so counts rest (inr later) = rest m low counts later

module _ (filer : List ℕ) (n : ℕ) where
  pub none_filed : (at : ℕ) (ks : List Kept) → ((k : Kept) (seq : ℕ) → IsPlaced at seq ks k
      → number_of k.outcome ≡ Some n → ⊥) → list_any (is_filing_of filer n) (filings ks) ≡ false
  unfolding filings
  none_filed at [] none = refl
  none_filed at (x ∷ ks) none = go x.outcome refl (none_filed (at + 1) ks (λ k seq later is. none k seq (inr later) is))
    where
      go : (o : Outcome) → x.outcome ≡ o → list_any (is_filing_of filer n) (filings ks) ≡ false
          → list_any (is_filing_of filer n) (filings (record { request = x.request; outcome = o } ∷ ks)) ≡ false
      go (Registered number) so rest =
          rw (
            other_number number n (λ e. none x at (inl (refl, refl)) (ap number_of so ∙ ap Some e)),
            and-false (bytes_eq x.request.filer filer),
          ) rest
      go (Refused findings) so rest = rest

  only_first : (b : Bool) → ((b && true) || false) ≡ b
  only_first true = refl
  only_first false = refl

  pub one_filed : (m at seq : ℕ) (ks : List Kept) (k : Kept) → CountFrom m (filings ks) → IsPlaced at seq ks k
      → number_of k.outcome ≡ Some n → list_any (is_filing_of filer n) (filings ks) ≡ bytes_eq k.request.filer filer
  unfolding filings
  one_filed m at seq [] k counts placed is = absurd placed
  one_filed m at seq (x ∷ ks) k counts placed is =
      go x.outcome refl counts (λ m counts later. one_filed m (at + 1) seq ks k counts later is) placed
    where
      go : (o : Outcome) → x.outcome ≡ o → CountFrom m (filings (record { request = x.request; outcome = o } ∷ ks))
          → ((m : ℕ) → CountFrom m (filings ks) → IsPlaced (at + 1) seq ks k
          → list_any (is_filing_of filer n) (filings ks) ≡ bytes_eq k.request.filer filer)
          → IsPlaced at seq (x ∷ ks) k
          → list_any (is_filing_of filer n) (filings (record { request = x.request; outcome = o } ∷ ks))
          ≡ bytes_eq k.request.filer filer
      go (Registered number) so counts rest (inl here) =
          let first = first_counts m (record { number = number; request = x.request }) (filings ks) counts in
          let same : Some number ≡ Some n = ap number_of (sym so ∙ ap (λ (y : Kept). y.outcome) (sym here.1)) ∙ is in
          let e : number ≡ n = cc same in
          rw (
            own_number number n e,
            none_outside filer n (m + 1) (filings ks) first.1 (inl (omega (arith, e, first.0))),
          )
          (only_first (bytes_eq x.request.filer filer) ∙ ap (λ (y : Kept). bytes_eq y.request.filer filer) (sym here.1))
      go (Registered number) so counts rest (inr later) =
          let first = first_counts m (record { number = number; request = x.request }) (filings ks) counts in
          rw (
            other_number number n (λ e. none_numbered n (m + 1) (at + 1) ks (omega (arith, e, first.0)) first.1 k seq
                later is),
            and-false (bytes_eq x.request.filer filer),
          ) (rest (m + 1) first.1 later)
      go (Refused findings) so counts rest (inl here) =
          let same : None ≡ Some n = ap number_of (sym so ∙ ap (λ (y : Kept). y.outcome) (sym here.1)) ∙ is in
          absurd (cc same)
      go (Refused findings) so counts rest (inr later) = rest m counts later

-- ---- rows of places

-- these are the rows of these kept requests, by their places
abbrev pub AreAt : ℕ → List Kept → List Row → List Kept → Type 0
AreAt at ks [] [] = Unit {0}
AreAt at ks [] (g ∷ gs) = ⊥
AreAt at ks (row ∷ rows) [] = ⊥
AreAt at ks (row ∷ rows) (g ∷ gs) =
    ((seq : ℕ) × IsPlaced at seq ks g × (row ≡ Int (pos seq) ∷ [])) × AreAt at ks rows gs

pub behind : (at : ℕ) (x : Kept) (ks gs : List Kept) (rows : List Row) → AreAt (at + 1) ks rows gs
    → AreAt at (x ∷ ks) rows gs
behind at x ks [] [] h = tt
behind at x ks (g ∷ gs) [] h = h
behind at x ks [] (row ∷ rows) h = h
behind at x ks (g ∷ gs) (row ∷ rows) h = ((h.0.0, inr h.0.1, h.0.2), behind at x ks gs rows h.1)

pub no_kept : Kept
no_kept = record { request = request_in None []; outcome = Refused [] }

pub own_default : {X : Type 0} (xs : List X) (at : ℕ) (d : X) → at < length xs
    → get_or xs at d ≡ get_or xs at (get_or xs at d)
own_default [] at d low = absurd (omega (arith, low))
own_default (x ∷ xs) zero d low = refl
own_default (x ∷ xs) (suc at) d low = own_default xs at d (omega (arith, low))

-- the row at a place is that of the kept request there
pub at_place : (at i : ℕ) (ks gs : List Kept) (rows : List Row) (row : Row) (g : Kept) → AreAt at ks rows gs
    → i < length rows → row ≡ get_or rows i row → g ≡ get_or gs i g
    → (seq : ℕ) × IsPlaced at seq ks g × (row ≡ Int (pos seq) ∷ [])
at_place at i ks gs [] row g h low is its = absurd (omega (arith, low))
at_place at i ks [] (x ∷ rows) row g h low is its = absurd h
at_place at zero ks (y ∷ gs) (x ∷ rows) row g h low is its = (h.0.0, rw its h.0.1, is ∙ h.0.2)
at_place at (suc i) ks (y ∷ gs) (x ∷ rows) row g h low is its =
    at_place at i ks gs rows row g h.1 (omega (arith, low)) is its

pub as_many_at : (at : ℕ) (ks gs : List Kept) (rows : List Row) → AreAt at ks rows gs → length rows ≡ length gs
as_many_at at ks [] [] h = refl
as_many_at at ks (g ∷ gs) [] h = absurd h
as_many_at at ks [] (row ∷ rows) h = absurd h
as_many_at at ks (g ∷ gs) (row ∷ rows) h = ap suc (as_many_at at ks gs rows h.1)
