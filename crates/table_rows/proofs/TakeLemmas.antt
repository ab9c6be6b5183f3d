-- Rows of a table that are taken out of those that are left.
use Rattle.std.proofs.Common.{◌≡◌, inl, inr, ℕ, ◌+◌, Bool, not, List, [], ◌∷◌, ◌++◌, append-nil, append_assoc, filter}
use Rattle.std.proofs.Common.{length, length-append, refl, sym, ap, subst, ◌∙◌, arith, IsPermutation}
use Rattle.std.proofs.lemmas.List.Elements.{filter-append}
use Rattle.std.proofs.lemmas.List.Sorted.{IsPermutation-refl, IsPermutation-sym, IsPermutation-trans}
use Rattle.std.proofs.lemmas.List.Sorted.{IsPermutation-append_left, IsPermutation-append_right}
use Rattle.std.proofs.lemmas.List.Sorted.{IsPermutation-filter_both, length_permutation}
use Rattle.sqlite.specs.Order.{Row}
use Rattle.sqlite.specs.Table.{Table}
use Rattle.sqlite.specs.Effect.{Database}
use Rattle.sqlite_keyed.proofs.ListLemmas.{IsPermutation-filter}
use Rattle.table_rows.specs.Picking.{rows_in, CountsTo, Finds, HasLeft}
use Rattle.table_rows.specs.Rows.{TableHas}

pub take_out : (p : Row → Bool) (all taken group rest : List Row) → IsPermutation (taken ++ rest) all
    → filter p taken ≡ [] → IsPermutation (filter p all) group
    → (more : List Row) × IsPermutation ((taken ++ group) ++ more) all × (length rest ≡ length more + length group)
take_out p all taken group rest are none picked =
    let others = filter (λ r. not (p r)) rest in
    let mine : IsPermutation (filter p rest) (filter p all) =
    subst (λ l. IsPermutation l (filter p all)) (filter-append p taken rest
    ∙ ap (λ l. l ++ filter p rest) none) (IsPermutation-filter p (taken ++ rest) all are) in
    let here : IsPermutation (filter p rest) group = IsPermutation-trans _ _ _ mine picked in
    let split : IsPermutation rest (filter p rest ++ others) =
    IsPermutation-filter_both p (λ r. not (p r)) (λ _. refl) rest in
    let moved : IsPermutation rest (group ++ others) =
    IsPermutation-trans _ _ _ split (IsPermutation-append_left others (filter p rest) group here) in
    let whole : IsPermutation (taken ++ (group ++ others)) all =
    IsPermutation-trans _ _ _ (IsPermutation-append_right taken (group ++ others) rest
    (IsPermutation-sym rest (group ++ others) moved)) are in
    let long : length (group ++ others) ≡ length rest = length_permutation rest (group ++ others) moved in
    let parts : length (group ++ others) ≡ length group + length others = length-append group others in
    (others, subst (λ l. IsPermutation l all) (sym (append_assoc taken group others)) whole, omega (arith, long, parts))

module _ (table : Table) (db : Database) where
  pub left_after : (p : Row → Bool) (taken group : List Row) (n m : ℕ) → HasLeft table taken n db → filter p taken ≡ []
      → Finds table p group db → n ≡ m + length group → HasLeft table (taken ++ group) m db
  left_after p taken group n m left none (inl empty) fits =
      subst (λ g. HasLeft table (taken ++ g) m db) (sym empty) (record {
        rest = left.rest;
        all = subst (λ l. IsPermutation (l ++ left.rest) (rows_in db table)) (sym (append-nil taken)) left.all;
        many = let long = ap length empty in let were = left.many in omega (arith, long, were, fits);
      })
  left_after p taken group n m left none (inr picked) fits =
      let out = take_out p (rows_in db table) taken group left.rest left.all none picked in
      record {
        rest = out.0;
        all = out.1;
        many = let long = out.2 in let were = left.many in
            omega (arith, long, were, fits);
      }

  pub none_taken : (n : ℕ) → CountsTo table n db → HasLeft table [] n db
  none_taken n many = record { rest = rows_in db table; all = IsPermutation-refl (rows_in db table); many = sym many }

  -- where none is left, the table has these rows
  pub all_taken : (rows : List Row) → HasLeft table rows 0 db → TableHas db table rows
  all_taken rows left = go left.rest left.all left.many
    where
      go : (rest : List Row) → IsPermutation (rows ++ rest) (rows_in db table) → length rest ≡ 0
          → IsPermutation rows (rows_in db table)
      go [] all none = subst (λ l. IsPermutation l (rows_in db table)) (append-nil rows) all
      go (x ∷ rest) all none = absurd (omega (arith, none))
