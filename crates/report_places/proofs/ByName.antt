-- Members that are by name, and the last of a name among them.
use Rattle.std.proofs.Common.{◌≡◌, ℕ, suc, ◌+◌, ◌-◌, ◌<◌, ◌≤◌, List, [], ◌∷◌, ◌++◌, length, take, drop, get_or, cond}
use Rattle.std.proofs.Common.{Bool, true, false, true≢false, not, ◌&&◌, Some, None, refl, sym, ap, ◌∙◌, arith}
use Rattle.std.proofs.Common.{Ordering, Less, Equal, Greater, is_lt, is_eq, inl, inr, ◌⊎◌}
use Rattle.std.specs.Cmp.{IsStrictWeakOrder}
use Rattle.std.specs.Cmp.Lexicographic.{slice_cmp, same_text}
use Rattle.std.specs.List.{filter}
use Rattle.std.specs.List.Sorted.{ties, IsStableBy, IsPartitionedBy}
use Rattle.std.specs.Ordering.{nat_cmp, ordering_reverse}
use Rattle.std.specs.Str.{bytes_eq}
use Rattle.std.proofs.lemmas.Bool.{cases_lt}
use Rattle.std.proofs.lemmas.Cmp.{nat_list_cmp_total}
use Rattle.std.proofs.lemmas.List.{append-nil, take-append-drop, get_or-drop, length-drop}
use Rattle.std.proofs.lemmas.List.Elements.{filter-append, filter_more}
use Rattle.std.proofs.lemmas.List.Sorted.{ranks_by, sorted_far}
use Rattle.std.proofs.lemmas.Map.Text.{is_eq-slice_cmp}
use Rattle.report_places.specs.Entries.{Entry, or_earlier, last_value, value_at, AreByName, is_at_most, IsEndOf}

abbrev has : List ℕ → Entry → Bool
has name e = bytes_eq e.0.now name

last_pushed : (es : List Entry) (e : Entry) → last_value (es ++ e ∷ []) ≡ Some e.1
last_pushed [] e = refl
last_pushed (d ∷ es) e = ap (λ o. or_earlier o (Some d.1)) (last_pushed es e)

pub value_at-push : (name : List ℕ) (es : List Entry) (e : Entry)
    → value_at (es ++ e ∷ []) name ≡ cond (bytes_eq e.0.now name) (Some e.1) (value_at es name)
value_at-push name es e = ap last_value (filter-append (has name) es (e ∷ [])) ∙ by (has name e) (filter (has name) es)
  where
    by : (b : Bool) (kept : List Entry)
        → last_value (kept ++ cond b (e ∷ []) []) ≡ cond b (Some e.1) (last_value kept)
    by true kept = last_pushed kept e
    by false kept = ap last_value (append-nil kept)

-- ---- the order of the names

abbrev pub before : Entry → Entry → Bool
before x y = is_lt (slice_cmp nat_cmp x.0.now y.0.now)

pub weak : IsStrictWeakOrder before
weak = ranks_by nat_list_cmp_total (λ e. e.0.now)

names_weak : IsStrictWeakOrder (λ (x y : List ℕ). is_lt (slice_cmp nat_cmp x y))
names_weak = ranks_by nat_list_cmp_total (λ x. x)

turned : (x y : List ℕ) → slice_cmp nat_cmp x y ≡ ordering_reverse (slice_cmp nat_cmp y x)
turned = nat_list_cmp_total.antisymm

neither : (r : Ordering) → (not (is_lt (ordering_reverse r)) && not (is_lt r)) ≡ is_eq r
neither Less = refl
neither Equal = refl
neither Greater = refl

ties_are : (x e : Entry) → ties before x e ≡ bytes_eq e.0.now x.0.now
ties_are x e =
    ap (λ o. not (is_lt o) && not (is_lt (slice_cmp nat_cmp e.0.now x.0.now))) (turned x.0.now e.0.now)
    ∙ neither (slice_cmp nat_cmp e.0.now x.0.now) ∙ is_eq-slice_cmp e.0.now x.0.now

greater_differs : (r : Ordering) → is_lt (ordering_reverse r) ≡ true → is_eq r ≡ false
greater_differs Less is = absurd (true≢false (sym is))
greater_differs Equal is = absurd (true≢false (sym is))
greater_differs Greater is = refl

less_left : (r : Ordering) → is_lt (ordering_reverse r) ≡ false → is_eq r ≡ false → is_lt r ≡ true
less_left Less low other = refl
less_left Equal low other = absurd (true≢false other)
less_left Greater low other = absurd (true≢false low)

not_true : (b : Bool) → not b ≡ true → b ≡ false
not_true true is = absurd (true≢false (sym is))
not_true false is = refl

not_false : (b : Bool) → not b ≡ false → b ≡ true
not_false true is = refl
not_false false is = absurd (true≢false is)

-- ---- a stable order keeps the last of each name

some_or_none : (name : List ℕ) (es : List Entry)
    → ((e : Entry) × (has name e ≡ true)) ⊎ (filter (has name) es ≡ [])
some_or_none name [] = inr refl
some_or_none name (e ∷ es) = by (has name e) refl (some_or_none name es)
  where
    by : (b : Bool) → has name e ≡ b → ((d : Entry) × (has name d ≡ true)) ⊎ (filter (has name) es ≡ [])
        → ((d : Entry) × (has name d ≡ true)) ⊎ (filter (has name) (e ∷ es) ≡ [])
    by true is rest = inl (e, is)
    by false is (inl found) = inl found
    by false is (inr none) = inr (ap (λ b. cond b (e ∷ filter (has name) es) (filter (has name) es)) is ∙ none)

pub same_values : (old new : List Entry) → IsStableBy before old new → (name : List ℕ)
    → value_at new name ≡ value_at old name
same_values old new stable name = ap last_value (by (some_or_none name new) (some_or_none name old))
  where
    to_ties : (x : Entry) → has name x ≡ true → (es : List Entry)
        → filter (ties before x) es ≡ filter (has name) es
    to_ties x is es = ap (λ (p : Entry → Bool). filter p es)
        (λ i e. (ties_are x e ∙ ap (bytes_eq e.0.now) (same_text x.0.now name (sym is))) i)

    by_one : (x : Entry) → has name x ≡ true → filter (has name) new ≡ filter (has name) old
    by_one x is = sym (to_ties x is new) ∙ stable x ∙ to_ties x is old

    by : ((e : Entry) × (has name e ≡ true)) ⊎ (filter (has name) new ≡ [])
        → ((e : Entry) × (has name e ≡ true)) ⊎ (filter (has name) old ≡ [])
        → filter (has name) new ≡ filter (has name) old
    by (inl found) other = by_one found.0 found.1
    by (inr none) (inl found) = by_one found.0 found.1
    by (inr none) (inr neither) = none ∙ sym neither

-- ---- the last of a name stands before the first that is greater

no_match_at : (p : Entry → Bool) (d : Entry) (es : List Entry)
    → ((k : ℕ) → k < length es → p (get_or es k d) ≡ false) → filter p es ≡ []
no_match_at p d [] none = refl
no_match_at p d (e ∷ es) none =
    ap (λ b. cond b (e ∷ filter p es) (filter p es)) (none 0 (omega arith))
    ∙ no_match_at p d es (λ k less. none (suc k) (omega arith))

no_match : (p : Entry → Bool) (es : List Entry) → ((k : ℕ) (d : Entry) → k < length es → p (get_or es k d) ≡ false)
    → filter p es ≡ []
no_match p [] none = refl
no_match p (e ∷ es) none = no_match_at p e (e ∷ es) (λ k less. none k e less)

module _ (name : List ℕ) (es : List Entry) (ordered : AreByName es) where
  pub parted : IsPartitionedBy (is_at_most name) es
  parted i j d low high at_j =
      let far : before (get_or es j d) (get_or es i d) ≡ false = sorted_far before weak es ordered i j d low high in
      ap not (names_weak.chain name (get_or es j d).0.now (get_or es i d).0.now (not_true _ at_j) far)

  module _ (end : ℕ) (within : end ≤ length es) (point : IsEndOf name es end) where
    above : (k : ℕ) (d : Entry) → end ≤ k → k < length es → has name (get_or es k d) ≡ false
    above k d low high =
        let e = (get_or es k d).0.now in
        let greater : is_lt (slice_cmp nat_cmp name e) ≡ true = not_false _ (point.1 k d low high) in
        sym (is_eq-slice_cmp e name)
        ∙ greater_differs (slice_cmp nat_cmp e name) (ap is_lt (sym (turned name e)) ∙ greater)

    pub none_at_all : end ≡ 0 → value_at es name ≡ None
    none_at_all first = ap last_value (no_match (has name) es (λ k d less. above k d (omega (arith, first)) less))

    module _ (some : 0 < end) (d : Entry) where
      abbrev last : Entry
      last = get_or es (end - 1) d

      pub the_last : is_eq (slice_cmp nat_cmp last.0.now name) ≡ true → value_at es name ≡ Some last.1
      the_last is =
          let named : has name last ≡ true = sym (is_eq-slice_cmp last.0.now name) ∙ is in
          let after : filter (has name) (drop end es) ≡ [] =
          no_match (has name) (drop end es) (λ k f less. ap (has name) (get_or-drop end es k f)
          ∙ above (end + k) f (omega arith) (omega (arith, length-drop end es))) in
          let until : filter (has name) (take end es) ≡ filter (has name) (take (end - 1) es) ++ last ∷ [] =
          ap (λ n. filter (has name) (take n es)) (omega (arith, some))
          ∙ filter_more (has name) es (end - 1) d (omega (arith, some, within))
          ∙ ap (λ b. filter (has name) (take (end - 1) es) ++ cond b (last ∷ []) []) named in
          ap last_value (ap (filter (has name)) (sym (take-append-drop end es))
          ∙ filter-append (has name) (take end es) (drop end es) ∙ ap (λ l. filter (has name) (take end es) ++ l) after
          ∙ append-nil _ ∙ until)
          ∙ last_pushed (filter (has name) (take (end - 1) es)) last

      below : is_eq (slice_cmp nat_cmp last.0.now name) ≡ false → (k : ℕ) → k < end
          → has name (get_or es k d) ≡ false
      below other k less = by (has name (get_or es k d)) refl
        where
          low : is_lt (slice_cmp nat_cmp last.0.now name) ≡ true
          low = less_left (slice_cmp nat_cmp last.0.now name)
              (ap is_lt (sym (turned name last.0.now)) ∙ not_true _ (point.0 (end - 1) d (omega arith)
              (omega (arith, some)))) other

          far : is_lt (slice_cmp nat_cmp last.0.now (get_or es k d).0.now) ≡ false
          far = sorted_far before weak es ordered k (end - 1) d (omega (arith, less)) (omega (arith, some, within))

          by : (b : Bool) → has name (get_or es k d) ≡ b → b ≡ false
          by false is = refl
          by true is =
              let same =
              ap (λ x. is_lt (slice_cmp nat_cmp last.0.now x)) (same_text (get_or es k d).0.now name (sym is)) in
              absurd (true≢false (sym (same ∙ low) ∙ far))

      pub another_name : is_eq (slice_cmp nat_cmp last.0.now name) ≡ false → value_at es name ≡ None
      another_name other = ap last_value (no_match_at (has name) d es (λ k less. by k less (cases_lt k end)))
        where
          by : (k : ℕ) → k < length es → (k < end) ⊎ (end ≤ k) → has name (get_or es k d) ≡ false
          by k less (inl low) = below other k low
          by k less (inr high) = above k d high less
