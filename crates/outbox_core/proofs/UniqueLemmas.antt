-- A database is one outbox at most.
use Rattle.std.proofs.Common.{◌≡◌, ◌<◌, ℕ, suc, pos, Bool, true, false, not, List, [], ◌∷◌, map, filter, nat_eq, refl}
use Rattle.std.proofs.Common.{sym, ap, ap₂, subst, subst₂, ◌∙◌, arith, IsPermutation}
use Rattle.std.specs.List.{AllByRecursion}
use Rattle.std.proofs.lemmas.Bool.Decides.{nat_tests, Decides-int_eq}
use Rattle.std.proofs.lemmas.List.Sorted.{IsPermutation-refl, IsPermutation-sym, IsPermutation-trans}
use Rattle.std.proofs.lemmas.List.Sorted.{length_permutation}
use Rattle.sqlite.specs.Order.{Row, column}
use Rattle.sqlite.specs.Effect.{Database}
use Rattle.sqlite.proofs.Callers.{one_permutation}
use Rattle.sqlite_keyed.proofs.ListLemmas.{all_weaker, filter_all, filter_none, IsPermutation-filter}
use Rattle.filing_model.specs.Outbox.{Entry}
use Rattle.outbox_tables.specs.Entries.{Contents, numbered_from}
use Rattle.outbox_tables.specs.Rows.{IsOutboxOf, form_row, entry_row, entry_rows, target_row, target_rows}
use Rattle.outbox_tables.specs.Rows.{target_rows_from, code_of, number_of}
use Rattle.outbox_tables.specs.Audit.{is_int}
use Rattle.outbox_core.specs.OutboxParts.{OutboxParts, contents, HasEntries}
use Rattle.sqlite.specs.Store.{Ghosts}
use Rattle.outbox_tables.specs.Earlier.{IsEarlierOf}
use Rattle.outbox_tables.specs.Schema.{meta_table, entry_table, target_table}
use Rattle.sqlite.specs.Table.{Table}
use Rattle.table_rows.specs.Rows.{TableHas}
use Rattle.outbox_tables.proofs.EarlierLemmas.{no_targets}
use Rattle.outbox_tables.proofs.SelectLemmas.{same_ids}
use Rattle.outbox_core.proofs.ReadLemmas.{one_state}
use Rattle.outbox_tables.proofs.TargetLemmas.{later_targets, own_row, few_rows}
use Rattle.outbox_core.proofs.TargetLemmas.{rows_left, one_target}

abbrev rows_from : ℕ → List Entry → List Row
rows_from n es = map entry_row (numbered_from n es)

abbrev has_id_column : ℕ → Row → Bool
has_id_column n w = is_int n (column w 0)

later_apart : (n m : ℕ) (es : List Entry) → n < m → AllByRecursion (λ w. has_id_column n w ≡ false) (rows_from m es)
later_apart n m [] low = tt
later_apart n m (e ∷ es) low = let apart : nat_eq m n ≡ false = grind (arith, nat_tests) in
    (same_ids m n ∙ apart, later_apart n (suc m) es (omega arith))

-- the row of the first entry, and the others
first_row : (n : ℕ) (e : Entry) (es : List Entry)
    → filter (has_id_column n) (rows_from n (e ∷ es)) ≡ entry_row (n, e) ∷ []
first_row n e es =
    rw (
      (Decides-int_eq (pos n) (pos n)).1 refl,
      filter_none (has_id_column n) (rows_from (suc n) es) (later_apart n (suc n) es (omega arith)),
    ) refl

other_rows : (n : ℕ) (e : Entry) (es : List Entry)
    → filter (λ w. not (has_id_column n w)) (rows_from n (e ∷ es)) ≡ rows_from (suc n) es
other_rows n e es =
    rw ((Decides-int_eq (pos n) (pos n)).1 refl) (filter_all (λ w. not (has_id_column n w)) (rows_from (suc n) es)
    (all_weaker _ (λ w. not (has_id_column n w) ≡ true) (λ w apart. ap not apart) (rows_from (suc n) es)
    (later_apart n (suc n) es (omega arith))))

same_row : (n : ℕ) (e f : Entry) → entry_row (n, f) ∷ [] ≡ entry_row (n, e) ∷ [] → e.target ≡ f.target → e ≡ f
same_row n e f h target =
    let key : e.key ≡ f.key = cc in
    let body : e.body ≡ f.body = cc in
    let codes : code_of e.state ≡ code_of f.state = cc in
    let numbers : number_of e.state ≡ number_of f.state = cc in
    let state = one_state e.state f.state codes numbers in
    λ i. record { key = key i; target = target i; body = body i; state = state i }

same_target : (n : ℕ) (e f : Entry) (es fs : List Entry)
    → IsPermutation (target_rows_from n (e ∷ es)) (target_rows_from n (f ∷ fs)) → e.target ≡ f.target
same_target n e f es fs h =
    let mine = own_row n e.target (target_rows_from (suc n) es) (later_targets n (suc n) es (omega arith)) in
    let other = own_row n f.target (target_rows_from (suc n) fs) (later_targets n (suc n) fs (omega arith)) in
    let both = subst₂ (λ xs ys. IsPermutation xs ys) mine other (IsPermutation-filter (has_id_column n) _ _ h) in
    sym (one_target n f.target e.target (few_rows n e.target (target_row n f.target) both))

other_targets : (n : ℕ) (e f : Entry) (es fs : List Entry)
    → IsPermutation (target_rows_from n (e ∷ es)) (target_rows_from n (f ∷ fs))
    → IsPermutation (target_rows_from (suc n) es) (target_rows_from (suc n) fs)
other_targets n e f es fs h =
    let mine = rows_left n e.target (target_rows_from (suc n) es) (later_targets n (suc n) es (omega arith)) in
    let other = rows_left n f.target (target_rows_from (suc n) fs) (later_targets n (suc n) fs (omega arith)) in
    subst₂ (λ xs ys. IsPermutation xs ys) mine other (IsPermutation-filter (λ w. not (has_id_column n w)) _ _ h)

same_entries : (n : ℕ) (es fs : List Entry) → IsPermutation (rows_from n es) (rows_from n fs)
    → IsPermutation (target_rows_from n es) (target_rows_from n fs) → es ≡ fs
same_entries n [] [] h t = refl
same_entries n [] (f ∷ fs) h t = absurd (omega (arith, length_permutation _ _ h))
same_entries n (e ∷ es) [] h t = absurd (omega (arith, length_permutation _ _ h))
same_entries n (e ∷ es) (f ∷ fs) h t =
    let first =
    subst₂ (λ xs ys. IsPermutation xs ys) (first_row n e es) (first_row n f fs)
    (IsPermutation-filter (has_id_column n) _ _ h) in
    let rest =
    subst₂ (λ xs ys. IsPermutation xs ys) (other_rows n e es) (other_rows n f fs)
    (IsPermutation-filter (λ w. not (has_id_column n w)) _ _ h) in
    ap₂ (λ x xs. x ∷ xs) (same_row n e f (one_permutation _ _ first) (same_target n e f es fs t))
    (same_entries (suc n) es fs rest (other_targets n e f es fs t))

same_filer : (form : ℕ) (f g : List ℕ) → form_row form g ∷ [] ≡ form_row form f ∷ [] → f ≡ g
same_filer form f g h = cc

same_contents : (form : ℕ) (a b : Contents) → IsPermutation (form_row form a.filer ∷ []) (form_row form b.filer ∷ [])
    → IsPermutation (entry_rows a.entries) (entry_rows b.entries)
    → IsPermutation (target_rows a.entries) (target_rows b.entries) → a ≡ b
same_contents form a b meta entries targets =
    let filer = same_filer form a.filer b.filer (one_permutation _ _ meta) in
    let same = same_entries 1 a.entries b.entries entries targets in
    λ i. record { filer = filer i; entries = same i }

both_hold : (db : Database) (table : Table) (xs ys : List Row) → TableHas db table xs → TableHas db table ys
    → IsPermutation xs ys
both_hold db table xs ys p q = IsPermutation-trans _ _ _ p (IsPermutation-sym _ _ q)

pub one_outbox : (a b : Contents) (db : Database) → IsOutboxOf a db → IsOutboxOf b db → a ≡ b
one_outbox a b db p q =
    same_contents 2 a b (both_hold db meta_table _ _ p.rows.meta_is q.rows.meta_is)
    (both_hold db entry_table _ _ p.rows.entries_are q.rows.entries_are)
    (both_hold db target_table _ _ p.rows.targets_are q.rows.targets_are)

-- in the form before, no entry has a target
pub one_earlier : (a b : Contents) (db : Database) → IsEarlierOf a db → IsEarlierOf b db → a ≡ b
one_earlier a b db p q =
    same_contents 1 a b (both_hold db meta_table _ _ p.meta_is q.meta_is)
    (both_hold db entry_table _ _ p.entries_are q.entries_are)
    (rw (no_targets a.entries p.untargeted, no_targets b.entries q.untargeted) (IsPermutation-refl []))

-- an outbox that holds these entries holds what it is known to hold
pub holds_same : {S : Type 0} (g : Ghosts S) (box : OutboxParts S) (entries : List Entry) (it : Contents)
    → contents box entries ≡ it → HasEntries g box entries → (box.filer ≡ it.filer) × HasEntries g box it.entries
holds_same g box entries it one had = (
  ap (λ (i : Contents). i.filer) one,
  subst (λ es. HasEntries g box es) (ap (λ (i : Contents). i.entries) one) had,
)
