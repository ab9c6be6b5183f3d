-- The rows of the targets, by the ids of their entries.
use Rattle.std.proofs.Common.{◌≡◌, ◌<◌, ℕ, zero, suc, ◌+◌, pos, true, false, List, [], ◌∷◌, ◌++◌, slice_get, Option}
use Rattle.std.proofs.Common.{Some, None, nat_eq, refl, ◌∙◌, arith, IsPermutation}
use Rattle.std.specs.Prelude.{option_and_then}
use Rattle.std.specs.List.{AllByRecursion}
use Rattle.std.proofs.lemmas.Bool.Decides.{nat_tests, Decides-int_eq}
use Rattle.std.proofs.lemmas.List.Sorted.{length_permutation}
use Rattle.sqlite.specs.declared.types.Value.TheVariants.{Int}
use Rattle.sqlite.specs.Order.{Row, column}
use Rattle.sqlite.proofs.Callers.{one_permutation}
use Rattle.sqlite_keyed.proofs.ListLemmas.{filter_none}
use Rattle.filing_model.specs.Outbox.{Entry}
use Rattle.outbox_tables.specs.Entries.{target_at}
use Rattle.outbox_tables.specs.Rows.{target_row, target_rows_from, target_rows}
use Rattle.outbox_tables.specs.Audit.{is_int, with_id}
use Rattle.outbox_tables.proofs.SelectLemmas.{same_ids}

pub own_id : (n : ℕ) → is_int n (Int (pos n)) ≡ true
own_id n = (Decides-int_eq (pos n) (pos n)).1 refl

pub other_id : (n m : ℕ) → n < m → is_int n (Int (pos m)) ≡ false
other_id n m low = let apart : nat_eq m n ≡ false = grind (arith, nat_tests) in same_ids m n ∙ apart

-- of none of these rows is the id this
abbrev pub NoneOf : ℕ → List Row → Type 0
NoneOf n rows = AllByRecursion (λ w. is_int n (column w 0) ≡ false) rows

pub later_targets : (n m : ℕ) (es : List Entry) → n < m → NoneOf n (target_rows_from m es)
later_targets n m [] low = tt
later_targets n m (e ∷ es) low = go e.target (later_targets n (suc m) es (omega arith))
  where
    go : (o : Option ℕ) → NoneOf n (target_rows_from (suc m) es)
        → NoneOf n (target_row m o ++ target_rows_from (suc m) es)
    go None later = later
    go (Some k) later = (other_id n m low, later)

-- the row of the first of them, and the others
pub own_row : (n : ℕ) (o : Option ℕ) (rest : List Row) → NoneOf n rest
    → with_id n (target_row n o ++ rest) ≡ target_row n o
own_row n None rest none = filter_none (λ w. is_int n (column w 0)) rest none
own_row n (Some k) rest none = rw (own_id n, filter_none (λ w. is_int n (column w 0)) rest none) refl

-- the row of an id that comes later
passed_row : (id n : ℕ) (o : Option ℕ) (rest : List Row) → n < id
    → with_id id (target_row n o ++ rest) ≡ with_id id rest
passed_row id n None rest low = refl
passed_row id n (Some k) rest low = let apart : nat_eq n id ≡ false = grind (arith, nat_tests) in
    rw (same_ids n id ∙ apart) refl

target_from : (n k id : ℕ) (es : List Entry) → id ≡ n + k
    → with_id id (target_rows_from n es) ≡ target_row id (option_and_then (λ (e : Entry). e.target) (slice_get es k))
target_from n k id [] at = refl
target_from n zero id (e ∷ es) at =
    let same : id ≡ n = omega arith in
    rw same (own_row n e.target (target_rows_from (suc n) es) (later_targets n (suc n) es (omega arith)))
target_from n (suc k) id (e ∷ es) at =
    passed_row id n e.target _ (omega arith) ∙ target_from (suc n) k id es (omega arith)

-- the rows of an id are that of its entry's target
pub target_with : (id : ℕ) (es : List Entry) → with_id id (target_rows es) ≡ target_row id (target_at es id)
target_with zero es = filter_none (λ w. is_int 0 (column w 0)) (target_rows es) (later_targets 0 1 es (omega arith))
target_with (suc k) es = target_from 1 k (suc k) es (omega arith)

-- one row at most, in any order
pub few_rows : (id : ℕ) (o : Option ℕ) (rows : List Row) → IsPermutation (target_row id o) rows → rows ≡ target_row id o
few_rows id None [] same = refl
few_rows id None (r ∷ rows) same = absurd (omega (arith, length_permutation _ _ same))
few_rows id (Some n) rows same = one_permutation _ rows same
