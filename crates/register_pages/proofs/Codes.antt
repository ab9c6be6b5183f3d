-- The codes of filers, one of which is taken out or put in.
use Rattle.std.proofs.Common.{◌≡◌, ℕ, Bool, List, [], ◌∷◌, ◌++◌, map, refl, subst, Bor, Global, String}
use Rattle.std.specs.Prelude.{Contains, string_bytes}
use Rattle.std.specs.Ordering.{nat_cmp}
use Rattle.std.specs.declared.cmp.Ordering.{Ordering}
use Rattle.std.specs.declared.cmp.Ordering.TheVariants.{Less, Equal, Greater}
use Rattle.std.specs.Cmp.Lexicographic.{slice_cmp}
use Rattle.std.specs.List.{AllByRecursion}
use Rattle.std.specs.List.Sorted.{IsStrictlySortedBy}
use Rattle.std.specs.BTreeMap.{insert_entry, is_at}
use Rattle.std.specs.Map.{keys_of, remove_entry}
use Rattle.std.specs.Map.Iter.{deref_pair}
use Rattle.std.specs.String.{string_cmp}
use Rattle.std.proofs.lemmas.List.{map-append}
use Rattle.std.proofs.lemmas.Map.Lookups.{exact_bytes}
use Rattle.register_pages.specs.Gathering.{HaveSame}
use Rattle.register_pages.proofs.Elements.{is_first, same_back, same_behind, same_itself, same_swapped, same_then}
use Rattle.register_pages.proofs.Elements.{same_with}

-- ---- their order

below_codes : (code : List ℕ) (ks : List (String Global))
    → AllByRecursion (λ k. slice_cmp nat_cmp code (string_bytes k) ≡ Less) ks
    → AllByRecursion (λ c. slice_cmp nat_cmp code c ≡ Less) (map string_bytes ks)
below_codes code [] all = tt
below_codes code (k ∷ ks) all = (all.0, below_codes code ks all.1)

pub codes_ascend : (ks : List (String Global)) → IsStrictlySortedBy string_cmp ks
    → IsStrictlySortedBy (slice_cmp nat_cmp) (map string_bytes ks)
unfolding IsStrictlySortedBy
codes_ascend [] h = tt
codes_ascend (k ∷ ks) h = (below_codes (string_bytes k) ks h.0, codes_ascend ks h.1)

-- ---- one code less or more

-- whether a key has this code, as `remove` looks for it
abbrev pub has_code : List ℕ → String Global → Bool
has_code code = is_at (λ (k : String Global). slice_cmp nat_cmp code (string_bytes k))

module _ {V : Type 0} where
  abbrev pub codes_among : List (String Global × V) → List (List ℕ)
  codes_among es = map string_bytes (keys_of es)

  first_is : (code : List ℕ) (e : String Global × V) (es : List (String Global × V))
      → slice_cmp nat_cmp code (string_bytes e.0) ≡ Equal → Contains (codes_among (e ∷ es)) code
  first_is code e es is =
      subst (λ c. Contains (c ∷ codes_among es) code) (exact_bytes code (string_bytes e.0) is)
      (is_first code (codes_among es))

  pub taken_out : (code : List ℕ) (es : List (String Global × V))
      → HaveSame (code ∷ codes_among (remove_entry (has_code code) es)) (code ∷ codes_among es)
  taken_out code [] = same_itself
  taken_out code (e ∷ es) = by_order (slice_cmp nat_cmp code (string_bytes e.0)) refl (taken_out code es)
    where
      later : HaveSame (code ∷ codes_among (remove_entry (has_code code) es)) (code ∷ codes_among es)
          → HaveSame (code ∷ string_bytes e.0 ∷ codes_among (remove_entry (has_code code) es))
          (code ∷ string_bytes e.0 ∷ codes_among es)
      later rest =
          same_then (same_swapped code (string_bytes e.0) (codes_among (remove_entry (has_code code) es)))
          (same_then (same_behind (string_bytes e.0) rest) (same_swapped (string_bytes e.0) code (codes_among es)))

      by_order : (o : Ordering) → slice_cmp nat_cmp code (string_bytes e.0) ≡ o
          → HaveSame (code ∷ codes_among (remove_entry (has_code code) es)) (code ∷ codes_among es)
          → HaveSame (code ∷ codes_among (remove_entry (has_code code) (e ∷ es))) (code ∷ codes_among (e ∷ es))
      by_order Less is rest = rw is (later rest)
      by_order Equal is rest =
          rw is (subst (λ c. HaveSame (code ∷ codes_among es) (code ∷ c ∷ codes_among es))
          (exact_bytes code (string_bytes e.0) is)
          (same_back (same_with code (code ∷ codes_among es) (is_first code (codes_among es)))))
      by_order Greater is rest = rw is (later rest)

  pub put_in : (k : String Global) (v : V) (es : List (String Global × V))
      → HaveSame (codes_among (insert_entry string_cmp es k v)) (string_bytes k ∷ codes_among es)
  put_in k v [] = same_itself
  put_in k v (e ∷ es) = by_order (string_cmp k e.0) refl (put_in k v es)
    where
      by_order : (o : Ordering) → string_cmp k e.0 ≡ o
          → HaveSame (codes_among (insert_entry string_cmp es k v)) (string_bytes k ∷ codes_among es)
          → HaveSame (codes_among (insert_entry string_cmp (e ∷ es) k v)) (string_bytes k ∷ codes_among (e ∷ es))
      by_order Less is rest = rw is same_itself
      by_order Equal is rest =
          rw is (same_back (same_with (string_bytes k) (codes_among (e ∷ es)) (first_is (string_bytes k) e es is)))
      by_order Greater is rest =
          rw is (same_then (same_behind (string_bytes e.0) rest)
          (same_swapped (string_bytes e.0) (string_bytes k) (codes_among es)))

-- ---- as an iterator shows them

module _ {V : Type 0} where
  -- the codes of these
  abbrev pub codes_shown : List (Bor (String Global) × Bor V) → List (List ℕ)
  codes_shown shown = codes_among (map deref_pair shown)

  pub shown_more : (shown : List (Bor (String Global) × Bor V)) (next : Bor (String Global) × Bor V)
      → codes_shown (shown ++ next ∷ []) ≡ codes_shown shown ++ string_bytes next.0.now ∷ []
  shown_more shown next = simp map-append
