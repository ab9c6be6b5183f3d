-- Why a dimension that is known to be right need not be judged again.
use Rattle.std.proofs.Common.{◌≡◌, ℕ, zero, suc, List, [], ◌∷◌, ◌++◌, codes, Bool, true, false, Option, Some, None}
use Rattle.std.proofs.Common.{refl, sym, ap, true≢false, IfSome, Bor, subst, ◌<◌, length, get_or, arith}
use Rattle.std.specs.List.{flat_map}
use Rattle.std.specs.Slice.{IsItemAt}
use Rattle.std.specs.Cmp.Lexicographic.{same_text}
use Rattle.serde_json.specs.Data.{Data, Members, null, boolean, number, string, array, object}
use Rattle.json_tree.specs.View.{view, members_view}
use Rattle.json_tree.proofs.Views.{Member}
use Rattle.xbrl_report.specs.declared.code.Code.{Code}
use Rattle.xbrl_report.specs.Known.{AreRight, is_same_text, known_after, entries_else}
use Rattle.xbrl_report.specs.Pair.{Pair}
use Rattle.xbrl_report.specs.Tree.{entries, entries_or_none, entries_of, member_of}
use Rattle.xbrl_report.specs.Walk.{pairs_at, dimension_tests, dimension_pairs, dimensions_pairs, fact_pairs}
use Rattle.xbrl_report.specs.Walk.{concept_pairs, entity_pairs}

none_left : (xs ys : List Pair) → xs ++ ys ≡ [] → xs ≡ []
none_left [] ys h = refl
none_left (x ∷ xs) ys h = absurd cc

none_right : (xs ys : List Pair) → xs ++ ys ≡ [] → ys ≡ []
none_right [] ys h = h
none_right (x ∷ xs) ys h = absurd cc

-- ---- the fact does not matter

elsewhere : (p q : List (List ℕ)) (ts : List (Bool × Code)) → pairs_at p ts ≡ [] → pairs_at q ts ≡ []
elsewhere p q [] h = refl
elsewhere p q ((true, c) ∷ ts) h = absurd cc
elsewhere p q ((false, c) ∷ ts) h = elsewhere p q ts h

module _ (filer : List ℕ) (namespaces : Option Data) where
  in_any_fact : (i j : List ℕ) (e : List ℕ × Data) → dimension_pairs filer namespaces i e ≡ []
      → dimension_pairs filer namespaces j e ≡ []
  unfolding dimension_pairs
  in_any_fact i j e h = elsewhere _ _ (dimension_tests filer namespaces e.0 e.1) h

  all_in_any_fact : (i j : List ℕ) (es : List (List ℕ × Data)) → flat_map (dimension_pairs filer namespaces i) es ≡ []
      → flat_map (dimension_pairs filer namespaces j) es ≡ []
  all_in_any_fact i j [] h = refl
  all_in_any_fact i j (e ∷ es) h =
      let here = in_any_fact i j e (none_left (dimension_pairs filer namespaces i e) _ h) in
      let rest = all_in_any_fact i j es (none_right (dimension_pairs filer namespaces i e) _ h) in
      rw (here, rest) refl

  -- ---- what is known after a fact

  right_dimensions : (id : List ℕ) (v : Option Data) → dimensions_pairs filer namespaces id v ≡ []
      → AreRight filer namespaces (entries_of v)
  unfolding dimensions_pairs
  right_dimensions id v h =
      all_in_any_fact id [] (entries_of v) (none_right (concept_pairs id v ++ entity_pairs id v) _ h)

  right_last : (o : Option Members) (known : List (List ℕ × Data)) → AreRight filer namespaces (entries_or_none o)
      → AreRight filer namespaces known → AreRight filer namespaces (entries_else o known)
  right_last None known h k = k
  right_last (Some ms) known h k = h

  right_fact : (id : List ℕ) (f : Data) → fact_pairs filer namespaces (id, f) ≡ []
      → dimensions_pairs filer namespaces id (member_of (Some f) (codes "dimensions")) ≡ []
  unfolding fact_pairs
  right_fact id f h = none_right _ _ h

  pub known_right : (id : List ℕ) (f : Data) (so_far new : List Pair) (v : Option Data) (known : List (List ℕ × Data))
      → v ≡ member_of (Some f) (codes "dimensions") → new ≡ so_far ++ fact_pairs filer namespaces (id, f)
      → AreRight filer namespaces known
      → AreRight filer namespaces (known_after new v known)
  known_right id f so_far [] v known is h k =
      let none = right_fact id f (none_right so_far _ (sym h)) in
      right_last _ known (right_dimensions id v (rw is none)) k
  known_right id f so_far (x ∷ xs) v known is h k = k

  -- ---- a dimension that is the same

  same_data : (d e : Data) → is_same_text d e ≡ true → d ≡ e
  same_data (string s) (string t) h = ap string (same_text s t (sym h))
  same_data (string s) null h = absurd (true≢false (sym h))
  same_data (string s) (boolean b) h = absurd (true≢false (sym h))
  same_data (string s) (number n) h = absurd (true≢false (sym h))
  same_data (string s) (array ds) h = absurd (true≢false (sym h))
  same_data (string s) (object ms) h = absurd (true≢false (sym h))
  same_data null e h = absurd (true≢false (sym h))
  same_data (boolean b) e h = absurd (true≢false (sym h))
  same_data (number n) e h = absurd (true≢false (sym h))
  same_data (array ds) e h = absurd (true≢false (sym h))
  same_data (object ms) e h = absurd (true≢false (sym h))

  pub nothing_found : (id name known_name : List ℕ) (d known : Data)
      → dimension_pairs filer namespaces [] (known_name, known) ≡ [] → known_name ≡ name → is_same_text known d ≡ true
      → dimension_pairs filer namespaces id (name, d) ≡ []
  nothing_found id name known_name d known right named same =
      rw (← named, ← same_data known d same) (in_any_fact [] id (known_name, known) right)

  -- ---- one of the members that are known

  known_at : (known : List Member) (i : ℕ) (m : Member) → i < length known → m ≡ get_or known i m
      → AreRight filer namespaces (entries (members_view known))
      → dimension_pairs filer namespaces [] (m.0.now, view m.1) ≡ []
  known_at [] i m within is h = absurd (omega arith)
  known_at (x ∷ known) zero m within is h =
      subst (λ y. dimension_pairs filer namespaces [] (y.0.now, view y.1) ≡ []) (sym is) (none_left _ _ h)
  known_at (x ∷ known) (suc i) m within is h = known_at known i m (omega arith) is (none_right _ _ h)

  pub right_if_known : (known : List Member) (i : ℕ) (r : Option (Bor Member)) → IsItemAt known i r
      → AreRight filer namespaces (entries (members_view known))
      → IfSome r (λ m. dimension_pairs filer namespaces [] (m.now.0.now, view m.now.1) ≡ [])
  right_if_known known i None found h = tt
  right_if_known known i (Some m) found h = known_at known i m.now found.3.0 found.1 h
