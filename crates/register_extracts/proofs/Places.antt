-- The moment at a place, as the rows of `received` have it.
use Rattle.std.proofs.Common.{◌≡◌, ◌<◌, ◌≤◌, ℕ, ◌+◌, ◌-◌, zero, suc, pos, true, false, List, [], ◌∷◌, ◌++◌, map, filter}
use Rattle.std.proofs.Common.{Option, Some, None, refl, sym, ap, subst, ◌∙◌, IsPermutation, nat_eq, nat_le}
use Rattle.std.proofs.Common.{arith, get_or}
use Rattle.std.proofs.Common.{replicate, ⊎_elim}
use Rattle.std.specs.List.{AllByRecursion}
use Rattle.std.specs.Prelude.{IfSome}
use Rattle.std.proofs.lemmas.Bool.{cases_Bool}
use Rattle.std.proofs.lemmas.Bool.Decides.{nat_tests}
use Rattle.sqlite.specs.declared.types.Value.TheVariants.{Int}
use Rattle.sqlite.specs.Order.{Row}
use Rattle.sqlite.specs.State.{State}
use Rattle.sqlite.proofs.Callers.{one_permutation}
use Rattle.table_rows.specs.Rows.{counted_from}
use Rattle.table_rows.specs.Reading.{ReadsRows}
use Rattle.table_rows.specs.Standing.{HasCommitted}
use Rattle.table_rows.proofs.OrderLemmas.{and_true, same_number}
use Rattle.register_store.specs.Found.{has_seq, unsorted}
use Rattle.register_store.proofs.FindLemmas.{nothing}
use Rattle.register_store.specs.Moments.{moment_in}
use Rattle.register_extracts.specs.Reading.{moment_alone, moment_rows}
use Rattle.register_rows.specs.Received.{IsMoment, Received, all_moments, received_row, received_rows}
use Rattle.register_rows.specs.Schema.{received_table}

-- ---- the rows of a place

module _ (place : ℕ) where
  its_place : (at moment : ℕ) → has_seq (pos place) (received_row at moment) ≡ nat_eq at place
  its_place at moment = and_true _ ∙ same_number at place

  none_later : (at : ℕ) (dated : List ℕ) → place < at
      → filter (has_seq (pos place)) (counted_from received_row at dated) ≡ []
  none_later at [] low = refl
  none_later at (moment ∷ dated) low =
      let apart : nat_eq at place ≡ false = grind (arith, nat_tests) in
      rw (its_place at moment ∙ apart) (none_later (at + 1) dated (omega arith))

  its_row : (at : ℕ) (dated : List ℕ) → at ≤ place
      → map moment_alone (filter (has_seq (pos place)) (counted_from received_row at dated))
      ≡ moment_rows (get_or (map Some dated) (place - at) None)
  its_row at [] low = refl
  its_row at (moment ∷ dated) low = ⊎_elim
      (λ (t : nat_eq at place ≡ true).
      let here : at ≡ place = grind (arith, nat_tests, t) in
      let index : place - at ≡ 0 = omega (arith, here) in
      rw (its_place at moment ∙ t, none_later (at + 1) dated (omega (arith, here)), index) refl)
      (λ (t : nat_eq at place ≡ false).
      let above : at < place = grind (arith, nat_tests, t, low) in
      let index : place - at ≡ suc (place - (at + 1)) = omega (arith, above) in
      rw (its_place at moment ∙ t, index) (its_row (at + 1) dated (omega (arith, above))))
      (cases_Bool (nat_eq at place))

-- ---- the moment of a place

unknown : (undated index : ℕ) (more : List (Option ℕ)) → index < undated
    → get_or (replicate undated None ++ more) index None ≡ None
unknown zero index more low = absurd (omega (arith, low))
unknown (suc undated) zero more low = refl
unknown (suc undated) (suc index) more low = unknown undated index more (omega (arith, low))

known : (undated index at : ℕ) (more : List (Option ℕ)) → at ≡ undated + index
    → get_or (replicate undated None ++ more) at None ≡ get_or more index None
known zero index at more is = ap (λ i. get_or more i None) (omega (arith, is))
known (suc undated) index zero more is = absurd (omega (arith, is))
known (suc undated) index (suc at) more is = known undated index at more (omega (arith, is))

its_rows : (undated : ℕ) (dated : List ℕ) (place : ℕ)
    → map moment_alone (filter (has_seq (pos place)) (received_rows undated dated))
    ≡ moment_rows (moment_in (all_moments undated dated) place)
its_rows undated dated zero = ap (map moment_alone) (none_later zero (undated + 1) dated (omega arith))
its_rows undated dated (suc index) = ⊎_elim
    (λ (t : nat_le undated index ≡ true).
    let above : undated + 1 ≤ suc index = grind (arith, nat_tests, t) in
    let same : index ≡ undated + (suc index - (undated + 1)) = omega (arith, above) in
    its_row (suc index) (undated + 1) dated above
    ∙ ap moment_rows (sym (known undated (suc index - (undated + 1)) index (map Some dated) same)))
    (λ (t : nat_le undated index ≡ false).
    let below : index < undated = grind (arith, nat_tests, t) in
    ap (map moment_alone) (none_later (suc index) (undated + 1) dated (omega (arith, below)))
    ∙ ap moment_rows (sym (unknown undated index (map Some dated) below)))
    (cases_Bool (nat_le undated index))

few : (moment : Option ℕ) (rows : List Row) → IsPermutation (moment_rows moment) rows → rows ≡ moment_rows moment
few None rows same = nothing rows same
few (Some moment) rows same = one_permutation (Int (pos moment) ∷ []) rows same

-- ---- each is a moment

dated_within : (dated : List ℕ) (index : ℕ) → AllByRecursion IsMoment dated
    → IfSome (get_or (map Some dated) index None) IsMoment
dated_within [] index all = tt
dated_within (moment ∷ dated) zero all = all.0
dated_within (moment ∷ dated) (suc index) all = dated_within dated index all.1

within : (undated : ℕ) (dated : List ℕ) (index : ℕ) → AllByRecursion IsMoment dated
    → IfSome (get_or (all_moments undated dated) index None) IsMoment
within zero dated index all = dated_within dated index all
within (suc undated) dated zero all = tt
within (suc undated) dated (suc index) all = within undated dated index all

at_place : (undated : ℕ) (dated : List ℕ) (place : ℕ) → AllByRecursion IsMoment dated
    → IfSome (moment_in (all_moments undated dated) place) IsMoment
at_place undated dated zero all = tt
at_place undated dated (suc index) all = within undated dated index all

-- ---- what is read

module _ (moments : List (Option ℕ)) (old new : State) (rows : List Row)
    (was : HasCommitted (λ db. Received db moments) old) (place : ℕ)
    (read : ReadsRows received_table (has_seq (pos place)) unsorted moment_alone rows old new) where
  received : Received old.now moments
  received = was.now read.same.0.was_open

  pub moment_read : rows ≡ moment_rows (moment_in moments place)
  moment_read =
      few (moment_in moments place) rows
      (subst (λ l. IsPermutation l rows)
      (its_rows received.undated received.dated place ∙ ap (λ ms. moment_rows (moment_in ms place)) (sym received.is))
      (read.any (received_rows received.undated received.dated) received.rows))

  pub moment_within : IfSome (moment_in moments place) IsMoment
  moment_within =
      subst (λ ms. IfSome (moment_in ms place) IsMoment) (sym received.is)
      (at_place received.undated received.dated place received.within)
