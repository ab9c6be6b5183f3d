-- What the rows of `received` say of the moments that they stand for.
use Rattle.std.proofs.Common.{◌≡◌, ◌<◌, ℕ, zero, suc, ◌+◌, pos, List, [], ◌∷◌, ◌++◌, filter, get_or, length, map}
use Rattle.std.proofs.Common.{replicate}
use Rattle.std.proofs.Common.{Option, Some, None, refl, sym, ap, subst, ◌∙◌, arith, IfSome}
use Rattle.std.specs.List.{AllByRecursion}
use Rattle.std.specs.Option.{option_to_list}
use Rattle.sqlite.specs.declared.types.Value.TheVariants.{Int}
use Rattle.sqlite.specs.Order.{Row}
use Rattle.sqlite.specs.State.{State}
use Rattle.sqlite_keyed.proofs.ListLemmas.{ascending-filter}
use Rattle.table_rows.specs.Rows.{counted_from}
use Rattle.table_rows.specs.Reading.{RisesBy, ReadsRows}
use Rattle.table_rows.specs.Standing.{HasCommitted}
use Rattle.table_rows.proofs.OrderLemmas.{counted_rise, same_number, and_true}
use Rattle.register_rows.specs.Received.{IsMoment, Received, all_moments, received_row, received_rows}
use Rattle.register_rows.specs.Schema.{received_table}
use Rattle.register_rows.proofs.Filings.{other_number, own_number}
use Rattle.register_tables.specs.Reads.{by_first, by_second, every, whole}
use Rattle.register_tables.proofs.ListLemmas.{filter_every, map_whole}
use Rattle.register_store.specs.Found.{has_seq}
use Rattle.register_store.specs.Moments.{moment_in}

-- ---- the row of one place

module _ (seq : ℕ) where
  none_later : (at : ℕ) (dated : List ℕ) → seq < at → filter (has_seq (pos seq)) (counted_from received_row at dated)
      ≡ []
  none_later at [] low = refl
  none_later at (x ∷ xs) low =
      rw (and_true _ ∙ same_number at seq ∙ other_number at seq (λ e. omega (arith, low, e)))
      (none_later (at + 1) xs (omega (arith, low)))

  -- `i` places behind the first of them
  its_row : (undated : ℕ) (dated : List ℕ) (at i : ℕ) → seq ≡ at + i
      → filter (has_seq (pos seq)) (counted_from received_row (at + undated) dated)
      ≡ map (received_row seq) (option_to_list (get_or (all_moments undated dated) i None))
  its_row zero [] at i is = refl
  its_row zero (x ∷ xs) at zero is =
      let here : at + 0 ≡ seq = omega (arith, is) in
      rw (
        and_true _ ∙ same_number (at + 0) seq ∙ own_number (at + 0) seq here,
        none_later (at + 0 + 1) xs (omega (arith, is)),
      ) (ap (λ n. received_row n x ∷ []) here)
  its_row zero (x ∷ xs) at (suc i) is =
      let next : at + 0 + 1 ≡ at + 1 + 0 = omega arith in
      rw (and_true _ ∙ same_number (at + 0) seq ∙ other_number (at + 0) seq (λ e. omega (arith, is, e)))
      (ap (λ n. filter (has_seq (pos seq)) (counted_from received_row n xs)) next
      ∙ its_row zero xs (at + 1) i (omega (arith, is)))
  its_row (suc undated) dated at zero is = none_later (at + suc undated) dated (omega (arith, is))
  its_row (suc undated) dated at (suc i) is =
      let next : at + suc undated ≡ at + 1 + undated = omega arith in
      ap (λ n. filter (has_seq (pos seq)) (counted_from received_row n dated)) next
      ∙ its_row undated dated (at + 1) i (omega (arith, is))

-- each of them is a moment
its_moment : (undated : ℕ) (dated : List ℕ) (i : ℕ) → AllByRecursion IsMoment dated
    → IfSome (get_or (all_moments undated dated) i None) IsMoment
its_moment zero [] i all = tt
its_moment zero (x ∷ xs) zero all = all.0
its_moment zero (x ∷ xs) (suc i) all = its_moment zero xs i all.1
its_moment (suc undated) dated zero all = tt
its_moment (suc undated) dated (suc i) all = its_moment undated dated i all

-- ---- the rows in turn

pub row_there : (at i : ℕ) (dated : List ℕ) (row : Row) → i < length dated
    → get_or (counted_from received_row at dated) i row ≡ received_row (at + i) (get_or dated i 0)
row_there at i [] row low = absurd (omega (arith, low))
row_there at zero (x ∷ xs) row low = let same : at ≡ at + 0 = omega arith in ap (λ n. received_row n x) same
row_there at (suc i) (x ∷ xs) row low =
    let same : at + 1 + i ≡ at + suc i = omega arith in
    row_there (at + 1) i xs row (omega (arith, low)) ∙ ap (λ n. received_row n (get_or xs i 0)) same

pub moment_there : (dated : List ℕ) (i : ℕ) → AllByRecursion IsMoment dated → i < length dated
    → IsMoment (get_or dated i 0)
moment_there [] i all low = absurd (omega (arith, low))
moment_there (x ∷ xs) zero all low = all.0
moment_there (x ∷ xs) (suc i) all low = moment_there xs i all.1 (omega (arith, low))

pub none_more : (n : ℕ) → replicate {A = Option ℕ} n None ++ None ∷ [] ≡ replicate (suc n) None
none_more zero = refl
none_more (suc n) = ap (λ ms. None ∷ ms) (none_more n)

shown_alone : (seq : ℕ) (wanted : Option ℕ) → map by_second (map (received_row seq) (option_to_list wanted))
    ≡ map (λ moment. Int (pos moment) ∷ []) (option_to_list wanted)
shown_alone seq None = refl
shown_alone seq (Some moment) = refl

module _ (moments : List (Option ℕ)) (old new : State) (rows : List Row)
    (was : HasCommitted (λ db. Received db moments) old) where
  -- the row of a place, where none is at 0
  pub moment_read : (seq : ℕ) → ReadsRows received_table (has_seq (pos seq)) by_first by_second rows old new
      → rows ≡ map (λ moment. Int (pos moment) ∷ []) (option_to_list (moment_in moments seq))
  moment_read seq r =
      let had = was.now r.same.0.was_open in
      let wanted = received_rows had.undated had.dated in
      let start : had.undated + 1 ≡ 0 + suc had.undated = omega arith in
      r.ordered wanted had.rows
      (ascending-filter _ (has_seq (pos seq)) wanted
      (counted_rise received_row by_first (λ _ _. refl) (had.undated + 1) had.dated))
      ∙ ap (map by_second) (ap (λ n. filter (has_seq (pos seq)) (counted_from received_row n had.dated)) start
      ∙ its_row seq (suc had.undated) had.dated 0 seq (omega arith)
      ∙ ap (λ ms. map (received_row seq) (option_to_list (moment_in ms seq))) (sym had.is))
      ∙ shown_alone seq (moment_in moments seq)

  pub moment_within : (seq : ℕ) → ReadsRows received_table (has_seq (pos seq)) by_first by_second rows old new
      → IfSome (moment_in moments seq) IsMoment
  moment_within seq r =
      let had = was.now r.same.0.was_open in
      subst (λ ms. IfSome (moment_in ms seq) IsMoment) (sym had.is)
      (its_moment (suc had.undated) had.dated seq had.within)

  -- all rows, in order
  pub received_read : (r : ReadsRows received_table every by_first whole rows old new)
      → rows ≡ received_rows (was.now r.same.0.was_open).undated (was.now r.same.0.was_open).dated
  received_read r =
      let had = was.now r.same.0.was_open in
      let wanted = received_rows had.undated had.dated in
      let same = filter_every wanted in
      r.ordered wanted had.rows
      (subst (RisesBy by_first) (sym same)
      (counted_rise received_row by_first (λ _ _. refl) (had.undated + 1) had.dated))
      ∙ ap (map whole) same ∙ map_whole wanted
