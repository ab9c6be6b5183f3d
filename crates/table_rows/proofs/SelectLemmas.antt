-- What a SELECT over one table shows.
use Rattle.std.proofs.Common.{◌≡◌, ℕ, ◌^◌, ◌-◌, pos, negsuc, Bool, true, false, cond, List, [], ◌∷◌, ◌++◌, map, filter}
use Rattle.std.proofs.Common.{slice_get, nat_le, None, refl, sym, ap, subst, ◌∙◌, IsPermutation, Less}
use Rattle.std.specs.Prelude.{flat_map, if◌then◌else◌, unwrap_or}
use Rattle.std.specs.List.{list_all}
use Rattle.std.proofs.lemmas.List.Sorted.{IsPermutation-map, IsPermutation-trans}
use Rattle.sqlite.specs.declared.types.Value.TheVariants.{Int}
use Rattle.sqlite.specs.Order.{Row}
use Rattle.sqlite.specs.Term.{Term, Env, lit, holds}
use Rattle.sqlite.specs.Query.{Query, inner, end, IsAnswerAs, Output, output, output_cmp}
use Rattle.sqlite.specs.Program.{overlay}
use Rattle.sqlite_sql.specs.Query.{IsSureAnswer}
use Rattle.sqlite.specs.Tree.{Trees}
use Rattle.sqlite_value.specs.declared.keys.Key.{Key}
use Rattle.sqlite_trees.specs.Tree.{IsAscending}
use Rattle.sqlite_sql.proofs.QueryLemmas.{output_cmp_total}
use Rattle.sqlite_keyed.proofs.ListLemmas.{IsPermutation-filter}
use Rattle.sqlite_keyed.proofs.SortLemmas.{sorted_unique}

-- a query over one table, with no limit
abbrev pub one_table : ℕ → List Term → List Term → List (Term × Key) → Query
one_table tree test project order = record {
  from = inner tree end;
  filter = test;
  group = None;
  project = project;
  distinct = false;
  collations = [];
  order = order;
  limit = lit (Int (negsuc 0));
  offset = lit (Int (pos 0));
}

pub flat_if : {A B : Type 0} (p : A → Bool) (f : A → B) (xs : List A)
    → flat_map (λ x. if p x then f x ∷ [] else []) xs ≡ map f (filter p xs)
flat_if p f [] = refl
flat_if p f (x ∷ xs) =
    elim (p x) as (λ b. (if b then f x ∷ [] else []) ++ flat_map (λ x. if p x then f x ∷ [] else []) xs
    ≡ map f (cond b (x ∷ filter p xs) (filter p xs)))
    [ true ↦ ap (λ l. f x ∷ l) (flat_if p f xs) | false ↦ flat_if p f xs ]

none_given : {X : Type 0} (b : Bool) (n : ℕ) → (if b then slice_get {X = X} [] n else None) ≡ None
none_given true n = refl
none_given false n = refl

pub plain_overlay : (db : Trees) (tree : ℕ) → overlay db [] tree ≡ db tree
plain_overlay db tree = ap (λ o. unwrap_or o (db tree)) (none_given (nat_le (2 ^ 31) tree) (tree - 2 ^ 31))

map-map : {A B C : Type 0} (f : A → B) (g : B → C) (xs : List A) → map g (map f xs) ≡ map (λ x. g (f x)) xs
map-map f g [] = refl
map-map f g (x ∷ xs) = ap (λ l. g (f x) ∷ l) (map-map f g xs)

map-same : {A B : Type 0} (f g : A → B) → ((x : A) → f x ≡ g x) → (xs : List A) → map f xs ≡ map g xs
map-same f g same [] = refl
map-same f g same (x ∷ xs) = rw (same x) (ap (λ l. g x ∷ l) (map-same f g same xs))

-- a filter before a map is one after it
pub filter-map : {A B : Type 0} (f : A → B) (p : A → Bool) (q : B → Bool) → ((x : A) → p x ≡ q (f x)) → (xs : List A)
    → map f (filter p xs) ≡ filter q (map f xs)
filter-map f p q same [] = refl
filter-map f p q same (x ∷ xs) =
    rw (same x) (elim (q (f x)) as (λ b. map f (cond b (x ∷ filter p xs) (filter p xs))
    ≡ cond b (f x ∷ filter q (map f xs)) (filter q (map f xs)))
    [ true ↦ ap (λ l. f x ∷ l) (filter-map f p q same xs) | false ↦ filter-map f p q same xs ])

module _ (tree : ℕ) (test project : List Term) (order : List (Term × Key)) (db : Trees) (params : Row) (rows : List Row)
    (answer : IsSureAnswer (one_table tree test project order) (overlay db []) params rows) where
  abbrev q : Query
  q = one_table tree test project order

  abbrev env : Row → Env
  env r = params ∷ r ∷ []

  abbrev keeps : Row → Bool
  keeps r = list_all (holds (env r)) test

  abbrev a : IsAnswerAs (Int (pos 0)) q (overlay db []) params rows
  a = answer (Int (pos 0))

  staged_is : a.staged ≡ map env (filter keeps (db tree))
  staged_is =
      a.grouped ∙ flat_if keeps env (overlay db [] tree) ∙ ap (λ rs. map env (filter keeps rs)) (plain_overlay db tree)

  kept_is : a.kept ≡ map (λ r. output q (env r)) (filter keeps (db tree))
  kept_is = a.distinct ∙ ap (map (output q)) staged_is ∙ map-map env (output q) (filter keeps (db tree))

  outputs : IsPermutation (map (λ r. output q (env r)) (filter keeps (db tree))) a.ordered
  outputs = subst (λ k. IsPermutation k a.ordered) kept_is a.same

  -- in the words of the shown rows
  module _ (shown : Row → Row) (wanted : List Row) (holds_rows : IsPermutation wanted (map shown (db tree)))
      (keep : Row → Bool) (keep_is : (r : Row) → keeps r ≡ keep (shown r))
      (show : Row → Output) (show_is : (r : Row) → output q (env r) ≡ show (shown r)) where
    told : IsPermutation (map show (filter keep wanted)) a.ordered
    told =
        let same : map (λ r. output q (env r)) (filter keeps (db tree)) ≡ map show (filter keep (map shown (db tree))) =
        map-same (λ r. output q (env r)) (λ r. show (shown r)) show_is (filter keeps (db tree))
        ∙ sym (map-map shown show (filter keeps (db tree)))
        ∙ ap (map show) (filter-map shown keeps keep keep_is (db tree)) in
        IsPermutation-trans _ _ _ (IsPermutation-map show _ _ (IsPermutation-filter keep _ _ holds_rows))
        (subst (λ l. IsPermutation l a.ordered) same outputs)

    -- with no order the rows are those that pass the test, in some order
    pub selects : IsPermutation (map (λ w. (show w).1) (filter keep wanted)) rows
    selects =
        let moved = IsPermutation-map (λ (o : Output). o.1) _ _ told in
        subst (λ l. IsPermutation l rows) (map-map show (λ (o : Output). o.1) (filter keep wanted))
        (subst (IsPermutation (map (λ (o : Output). o.1) (map show (filter keep wanted)))) (sym a.shown) moved)

    -- where the order has no ties, they are those in that order
    pub selects_in_order : IsAscending (λ x y. output_cmp q x y ≡ Less) (map show (filter keep wanted))
        → rows ≡ map (λ w. (show w).1) (filter keep wanted)
    selects_in_order rises =
        let ordered = sorted_unique (output_cmp q) (output_cmp_total q) _ a.ordered rises told a.sorted in
        a.shown ∙ ap (map (λ (o : Output). o.1)) ordered ∙ map-map show (λ (o : Output). o.1) (filter keep wanted)
