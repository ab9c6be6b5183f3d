-- What the rows of `target` say of each entry, from one row to the next.
use Rattle.std.proofs.Common.{◌≡◌, ◌<◌, ◌+◌, ℕ, suc, pos, Bool, true, false, cond, List, [], ◌∷◌, ◌++◌, take, set}
use Rattle.std.proofs.Common.{length, get_or, nat_eq, nat_le, refl, sym, ap, ◌∙◌, arith, true≢false}
use Rattle.std.proofs.lemmas.Bool.Decides.{nat_tests}
use Rattle.std.proofs.lemmas.List.{append-nil, take_more, get_or-set_same, get_or-set_other}
use Rattle.std.proofs.lemmas.List.Elements.{filter-append}
use Rattle.sqlite.specs.declared.types.Value.{Value}
use Rattle.sqlite.specs.declared.types.Value.TheVariants.{Int}
use Rattle.sqlite.specs.Order.{Row, column}
use Rattle.outbox_tables.specs.declared.opening.targets.Said.{Said}
use Rattle.outbox_tables.specs.Audit.{is_int, is_id_to, with_id}
use Rattle.outbox_tables.specs.Targets.{said_by}
use Rattle.outbox_tables.proofs.SelectLemmas.{same_ids}
use Rattle.outbox_tables.proofs.TargetLemmas.{own_id}
use Rattle.outbox_tables.proofs.AuditLemmas.{is_int-of}

with_more : (id : ℕ) (rows : List Row) (row : Row) (own : Bool) → is_int id (column row 0) ≡ own
    → with_id id (rows ++ row ∷ []) ≡ with_id id rows ++ cond own (row ∷ []) []
with_more id rows row own is =
    filter-append (λ w. is_int id (column w 0)) rows (row ∷ []) ∙ ap (λ b. with_id id rows ++ cond b (row ∷ []) []) is

no_id : (count k : ℕ) (v : Value) → is_id_to count v ≡ false → k < count → is_int (suc k) v ≡ false
no_id count k v none low = go (is_int (suc k) v) refl
  where
    within : is_id_to count (Int (pos (suc k))) ≡ true
    within =
        let one : nat_le 1 (suc k) ≡ true = grind (arith, nat_tests) in
        let fits : nat_le (suc k) count ≡ true = grind (arith, nat_tests) in
        rw (one, fits) refl

    go : (b : Bool) → is_int (suc k) v ≡ b → b ≡ false
    go true is = absurd (true≢false (sym within ∙ ap (is_id_to count) (sym (is_int-of (suc k) v is)) ∙ none))
    go false is = refl

module _ (targets : List Row) (row : Row) (count at : ℕ) (said : List Said) (low : at < length targets)
    (is : row ≡ get_or targets at row)
    (each : (k : ℕ) (d : Said) → k < count → get_or said k d ≡ said_by (with_id (suc k) (take at targets))) where
  next : (id : ℕ) (own : Bool) → is_int id (column row 0) ≡ own
      → with_id id (take at targets) ++ cond own (row ∷ []) [] ≡ with_id id (take (at + 1) targets)
  next id own told =
      sym (ap (with_id id) (take_more targets at row low ∙ ap (λ r. take at targets ++ r ∷ []) (sym is))
      ∙ with_more id (take at targets) row own told)

  unsaid : (k : ℕ) (d : Said) → k < count → is_int (suc k) (column row 0) ≡ false
      → get_or said k d ≡ said_by (with_id (suc k) (take (at + 1) targets))
  unsaid k d small other =
      each k d small ∙ ap said_by (sym (append-nil (with_id (suc k) (take at targets))) ∙ next (suc k) false other)

  -- of no entry
  pub said_none : is_id_to count (column row 0) ≡ false → (k : ℕ) (d : Said) → k < count
      → get_or said k d ≡ said_by (with_id (suc k) (take (at + 1) targets))
  said_none none k d small = unsaid k d small (no_id count k (column row 0) none small)

  -- of the entry at this place
  pub said_one : (place : ℕ) (now : Said) → place < length said → column row 0 ≡ Int (pos (suc place))
      → now ≡ said_by (with_id (suc place) (take at targets) ++ row ∷ [])
      → (k : ℕ) (d : Said) → k < count → get_or (set said place now) k d
      ≡ said_by (with_id (suc k) (take (at + 1) targets))
  said_one place now within own told k d small = go (nat_eq k place) refl
    where
      go : (b : Bool) → nat_eq k place ≡ b → get_or (set said place now) k d
          ≡ said_by (with_id (suc k) (take (at + 1) targets))
      go true e =
          let same : k ≡ place = grind (arith, nat_tests) in
          rw same (get_or-set_same said place now d within ∙ told
          ∙ ap said_by (next (suc place) true (ap (is_int (suc place)) own ∙ own_id (suc place))))
      go false e =
          let apart : nat_eq (suc place) (suc k) ≡ false = grind (arith, nat_tests) in
          get_or-set_other said place k now d (λ same. grind (arith, nat_tests))
          ∙ unsaid k d small (ap (is_int (suc k)) own ∙ same_ids (suc place) (suc k) ∙ apart)
