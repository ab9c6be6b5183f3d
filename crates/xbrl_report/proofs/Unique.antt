-- A body has one list of findings.
use Rattle.std.proofs.Common.{◌≡◌, ℕ, ◌↔◌, List, [], ◌∷◌, length, true, cond, refl, sym, ap, ◌∙◌, subst, arith, eqb}
use Rattle.std.proofs.Common.{nat_le, inl, inr, Decides, Ordering, Less, Equal, Greater, is_eq, true≢false}
use Rattle.std.proofs.lemmas.Bool.{and_from}
use Rattle.std.specs.Prelude.{get_or}
use Rattle.std.specs.List.{AllByRecursion, IsDistinct}
use Rattle.std.specs.List.Sorted.{IsStrictlySortedBy}
use Rattle.std.specs.Ordering.{match_ordering, ordering_reverse, eq_by_cmp}
use Rattle.std.specs.Cmp.{eq_by_cmp_equiv}
use Rattle.std.specs.FinMap.{IsAntisymmetric}
use Rattle.std.specs.Set.{is_member}
use Rattle.std.proofs.lemmas.Bool.Decides.{nat_tests}
use Rattle.std.proofs.lemmas.Cmp.{tied_itself}
use Rattle.std.proofs.lemmas.List.Sums.{AllPass-from_list_all, list_all-from_AllPass}
use Rattle.std.proofs.lemmas.List.Elements.{All-from_recursion, recursion_from_All}
use Rattle.std.proofs.lemmas.Map.Made.{is_member-Decides, length-le_from_is_member}
use Rattle.xbrl_values.proofs.Bools.{left_of, right_of}
use Rattle.xbrl_report.specs.declared.code.Code.{Code}
use Rattle.xbrl_report.specs.declared.code.Code.TheVariants.{NotJson}
use Rattle.xbrl_report.specs.CodeNumber.{all_codes, number_of}
use Rattle.xbrl_report.specs.Findings.{AreFindings, IsAllFindings, HasTooMany}
use Rattle.xbrl_report.specs.InOrder.{put_pair, in_order}
use Rattle.xbrl_report.specs.Pair.{Pair, pair_cmp, fits, IsAscending}
use Rattle.xbrl_report.proofs.Members.{In, in_from_contains, contains_from_in}
use Rattle.xbrl_report.proofs.Parts.{all_by, tied_pairs}
use Rattle.xbrl_report.proofs.Pairs.{pair_cmp-total}

-- ---- pairs that tie are the same

code_at : ℕ → Code
code_at n = get_or (NotJson ∷ all_codes) n NotJson

code_at-number_of : (c : Code) → code_at (number_of c) ≡ c
unfolding code_at
code_at-number_of NotJson = refl
code_at-number_of _ = refl

pub number_of-injective : (c e : Code) → number_of c ≡ number_of e → c ≡ e
number_of-injective c e same = sym (code_at-number_of c) ∙ (ap code_at same ∙ code_at-number_of e)

same_pair : (x y : Pair) → eq_by_cmp pair_cmp x y ≡ true → x ≡ y
same_pair x y tie =
    let t = tied_pairs x y tie in
    let code = number_of-injective x.code y.code t.1 in
    λ i. record { place = t.0 i; code = code i }

pub pair_cmp-antisymmetric : IsAntisymmetric pair_cmp
pair_cmp-antisymmetric x y e = same_pair x y (ap is_eq e)

pair_cmp-Decides : (x y : Pair) → Decides (eq_by_cmp pair_cmp x y) (x ≡ y)
pair_cmp-Decides x y =
    (same_pair x y, λ e. subst (λ z. eq_by_cmp pair_cmp x z ≡ true) e (ap is_eq (tied_itself pair_cmp-total x)))

-- ---- a list in order

abbrev Above : Pair → List Pair → Type 0
Above x ys = AllByRecursion (λ y. pair_cmp x y ≡ Less) ys

above_put_at : (o : Ordering) (l x y : Pair) (ys : List Pair) → pair_cmp l x ≡ Less → Above l (y ∷ ys)
    → Above l (put_pair x ys) → Above l (match_ordering o (x ∷ y ∷ ys) (y ∷ ys) (y ∷ put_pair x ys))
above_put_at Less l x y ys below h more = (below, h)
above_put_at Equal l x y ys below h more = h
above_put_at Greater l x y ys below h more = (h.0, more)

above_put : (l x : Pair) (ys : List Pair) → pair_cmp l x ≡ Less → Above l ys → Above l (put_pair x ys)
above_put l x [] below h = (below, tt)
above_put l x (y ∷ ys) below h = above_put_at (pair_cmp x y) l x y ys below h (above_put l x ys below h.1)

all_above : (x y : Pair) (ys : List Pair) → pair_cmp x y ≡ Less → Above y ys → Above x ys
all_above x y [] below h = tt
all_above x y (z ∷ ys) below h = (pair_cmp-total.trans x y z below h.0, all_above x y ys below h.1)

ascending_put_at : (o : Ordering) (x y : Pair) (ys : List Pair) → pair_cmp x y ≡ o → IsAscending (y ∷ ys)
    → IsAscending (put_pair x ys) → IsAscending (match_ordering o (x ∷ y ∷ ys) (y ∷ ys) (y ∷ put_pair x ys))
unfolding IsStrictlySortedBy
ascending_put_at Less x y ys is h more = ((is, all_above x y ys is h.0), h)
ascending_put_at Equal x y ys is h more = h
ascending_put_at Greater x y ys is h more =
    (above_put y x ys (pair_cmp-total.antisymm y x ∙ ap ordering_reverse is) h.0, more)

ascending_put : (x : Pair) (ys : List Pair) → IsAscending ys → IsAscending (put_pair x ys)
unfolding IsStrictlySortedBy
ascending_put x [] h = (tt, tt)
ascending_put x (y ∷ ys) h = ascending_put_at (pair_cmp x y) x y ys refl h (ascending_put x ys h.1)

pub ascending_in_order : (xs : List Pair) → IsAscending (in_order xs)
unfolding IsStrictlySortedBy
ascending_in_order [] = tt
ascending_in_order (x ∷ xs) = ascending_put x (in_order xs) (ascending_in_order xs)

in_put_at : (o : Ordering) (z x y : Pair) (ys : List Pair) → pair_cmp x y ≡ o → (In z (put_pair x ys) ↔ In z (x ∷ ys))
    → In z (match_ordering o (x ∷ y ∷ ys) (y ∷ ys) (y ∷ put_pair x ys)) ↔ In z (x ∷ y ∷ ys)
in_put_at Less z x y ys is h = (λ i. i, λ i. i)
in_put_at Equal z x y ys is h =
    let same = pair_cmp-antisymmetric x y is in
    (λ i. inr i, λ i. elim i [ inl e ↦ inl (sym same ∙ e) | inr i ↦ i ])
in_put_at Greater z x y ys is h = (
  λ i. elim i [ inl e ↦ inr (inl e) | inr i ↦ elim (h.0 i) [ inl e ↦ inl e | inr i ↦ inr (inr i) ] ],
  λ i. elim i [ inl e ↦ inr (h.1 (inl e)) | inr i ↦ elim i [ inl e ↦ inl e | inr i ↦ inr (h.1 (inr i)) ] ],
)

in_put : (z x : Pair) (ys : List Pair) → In z (put_pair x ys) ↔ In z (x ∷ ys)
in_put z x [] = (λ i. i, λ i. i)
in_put z x (y ∷ ys) = in_put_at (pair_cmp x y) z x y ys refl (in_put z x ys)

pub in_in_order : (z : Pair) (xs : List Pair) → In z (in_order xs) ↔ In z xs
in_in_order z [] = (λ i. i, λ i. i)
in_in_order z (x ∷ xs) =
    let put = in_put z x (in_order xs) in
    let rest = in_in_order z xs in (
      λ i. elim (put.0 i) [ inl e ↦ inl e | inr i ↦ inr (rest.0 i) ],
      λ i. elim i [ inl e ↦ put.1 (inl e) | inr i ↦ put.1 (inr (rest.1 i)) ],
    )

-- ---- of two ascending lists with the same members

above_in : (x z : Pair) (ys : List Pair) → Above x ys → In z ys → pair_cmp x z ≡ Less
above_in x z [] h i = absurd i
above_in x z (y ∷ ys) h (inl e) = subst (λ w. pair_cmp x w ≡ Less) e h.0
above_in x z (y ∷ ys) h (inr i) = above_in x z ys h.1 i

not_below_itself : (x : Pair) → pair_cmp x x ≡ Less → ⊥
not_below_itself x less = let tie = tied_itself pair_cmp-total x in cc

not_both_below : (x y : Pair) → pair_cmp x y ≡ Less → pair_cmp y x ≡ Less → ⊥
not_both_below x y less more = not_below_itself x (pair_cmp-total.trans x y x less more)

first_same : (x y : Pair) (xs ys : List Pair) → Above x xs → Above y ys → In x (y ∷ ys) → In y (x ∷ xs) → x ≡ y
first_same x y xs ys up up' (inl e) j = sym e
first_same x y xs ys up up' (inr i) (inl e) = e
first_same x y xs ys up up' (inr i) (inr j) = absurd (not_both_below x y (above_in x y xs up j) (above_in y x ys up' i))

-- what is in a list, and isn't its first, is in the rest
later : (z x : Pair) (xs : List Pair) → pair_cmp x z ≡ Less → In z (x ∷ xs) → In z xs
later z x xs less (inl e) = absurd (not_below_itself z (subst (λ w. pair_cmp w z ≡ Less) e less))
later z x xs less (inr i) = i

pub same_ascending : (xs ys : List Pair) → IsAscending xs → IsAscending ys → ((z : Pair) → In z xs ↔ In z ys) → xs ≡ ys
unfolding IsStrictlySortedBy
same_ascending [] [] up up' h = refl
same_ascending [] (y ∷ ys) up up' h = absurd ((h y).1 (inl refl))
same_ascending (x ∷ xs) [] up up' h = absurd ((h x).0 (inl refl))
same_ascending (x ∷ xs) (y ∷ ys) up up' h =
    let first = first_same x y xs ys up.0 up'.0 ((h x).0 (inl refl)) ((h y).1 (inl refl)) in
    let rest = same_ascending xs ys up.1 up'.1
    (λ z. (
      λ i. later z y ys (subst (λ w. pair_cmp w z ≡ Less) first (above_in x z xs up.0 i)) ((h z).0 (inr i)),
      λ i. later z x xs (subst (λ w. pair_cmp w z ≡ Less) (sym first) (above_in y z ys up'.0 i)) ((h z).1 (inr i)),
    )) in
    λ i. first i ∷ rest i

-- ---- not both all findings that fit, and too many

member_in : (z : Pair) (xs : List Pair) → is_member (eq_by_cmp pair_cmp) xs z ≡ true → In z xs
member_in z xs e = in_from_contains z xs ((is_member-Decides pair_cmp-Decides xs z).0 e)

in_member : (z : Pair) (xs : List Pair) → In z xs → is_member (eq_by_cmp pair_cmp) xs z ≡ true
in_member z xs i = (is_member-Decides pair_cmp-Decides xs z).1 (contains_from_in z xs i)

all_in : (P : Pair → Type 0) (xs : List Pair) → AllByRecursion P xs → (z : Pair) → In z xs → P z
all_in P [] h z i = absurd i
all_in P (x ∷ xs) h z (inl e) = subst P e h.0
all_in P (x ∷ xs) h z (inr i) = all_in P xs h.1 z i

-- what fits, fits with fewer
pub fits_fewer : (some xs : List Pair) → IsDistinct (eq_by_cmp pair_cmp) some → ((z : Pair) → In z some → In z xs)
    → fits xs ≡ true → fits some ≡ true
unfolding fits
fits_fewer some xs distinct among fit =
    let short = λ (p : Pair). nat_le (length p.place) 1024 in
    let small = recursion_from_All (λ p. short p ≡ true) xs (AllPass-from_list_all short xs (right_of _ _ fit)) in
    let all =
    list_all-from_AllPass short some (All-from_recursion (λ p. short p ≡ true) some
    (all_by (λ p. short p ≡ true) some (λ z i. all_in (λ p. short p ≡ true) xs small z (among z i)))) in
    let len =
    length-le_from_is_member (eq_by_cmp_equiv pair_cmp-total) some xs distinct
    (λ z m. in_member z xs (among z (member_in z some m))) in
    let many = left_of (nat_le (length xs) 1000) _ fit in
    let few : nat_le (length some) 1000 ≡ true = grind (arith, nat_tests) in
    and_from _ _ few all

distinct_ascending : (xs : List Pair) → IsAscending xs → IsDistinct (eq_by_cmp pair_cmp) xs
unfolding IsStrictlySortedBy IsDistinct
distinct_ascending [] up = tt
distinct_ascending (x ∷ xs) up =
    (all_by _ xs (λ z i. let less = above_in x z xs up.0 i in rw less refl), distinct_ascending xs up.1)

pub in_order_fits : (xs : List Pair) → fits xs ≡ true → fits (in_order xs) ≡ true
in_order_fits xs fit =
    fits_fewer (in_order xs) xs (distinct_ascending (in_order xs) (ascending_in_order xs))
    (λ z i. (in_in_order z xs).0 i) fit

module _ {IsSo : Pair → Type 0} where
  pub excluded : (xs : List Pair) → IsAllFindings IsSo xs → fits xs ≡ true → HasTooMany IsSo → ⊥
  excluded xs all fit many =
      let so = recursion_from_All IsSo many.some many.so in
      let few =
      fits_fewer many.some xs many.distinct (λ z i. in_from_contains z xs
      ((all.exact z).1 (all_in IsSo many.some so z i))) fit in
      true≢false (sym few ∙ many.over)

  -- the statements leave one list
  pub AreFindings-unique : (xs ys : List Pair) → AreFindings IsSo xs → AreFindings IsSo ys → xs ≡ ys
  AreFindings-unique xs ys (inl a) (inl b) =
      same_ascending xs ys a.0.ascending b.0.ascending
      (λ z. (
        λ i. in_from_contains z ys ((b.0.exact z).1 ((a.0.exact z).0 (contains_from_in z xs i))),
        λ i. in_from_contains z xs ((a.0.exact z).1 ((b.0.exact z).0 (contains_from_in z ys i))),
      ))
  AreFindings-unique xs ys (inl a) (inr b) = absurd (excluded xs a.0 a.1 b.0)
  AreFindings-unique xs ys (inr a) (inl b) = absurd (excluded ys b.0 b.1 a.0)
  AreFindings-unique xs ys (inr a) (inr b) = a.1 ∙ sym b.1
