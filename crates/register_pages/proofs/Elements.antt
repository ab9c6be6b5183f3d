-- Lists that have the same elements.
use Rattle.std.proofs.Common.{◌≡◌, ◌⊎◌, List, [], ◌∷◌, ◌++◌, append_assoc, map, inl, inr, ⊎_elim, sym, ap, subst, ◌∙◌}
use Rattle.std.proofs.Common.{arith}
use Rattle.std.specs.Prelude.{Contains}
use Rattle.std.proofs.lemmas.List.{map-append}
use Rattle.std.proofs.lemmas.List.Elements.{Contains-append_left, Contains-append_right, Contains-append_cases}
use Rattle.std.proofs.lemmas.List.Elements.{Contains-push, Contains-push_cases}
use Rattle.register_pages.specs.Gathering.{HaveSame}

module _ {X : Type 0} where
  pub is_first : (x : X) (xs : List X) → Contains (x ∷ xs) x
  is_first x xs = Contains-append_left (x ∷ []) xs x (Contains-push [] x)

  pub is_later : (y : X) (xs : List X) (x : X) → Contains xs x → Contains (y ∷ xs) x
  is_later y xs x h = Contains-append_right (y ∷ []) xs x h

  first_or_later : (y : X) (xs : List X) (x : X) → Contains (y ∷ xs) x → (y ≡ x) ⊎ Contains xs x
  first_or_later y xs x h = by_part (Contains-append_cases (y ∷ []) xs x h)
    where
      by_one : Contains [] x ⊎ (y ≡ x) → (y ≡ x) ⊎ Contains xs x
      by_one (inl none) = absurd (omega (arith, none.1))
      by_one (inr is) = inl is

      by_part : Contains (y ∷ []) x ⊎ Contains xs x → (y ≡ x) ⊎ Contains xs x
      by_part (inl one) = by_one (Contains-push_cases [] y x one)
      by_part (inr more) = inr more

  pub same_itself : {xs : List X} → HaveSame xs xs
  same_itself = record { each = λ x. (λ h. h, λ h. h) }

  pub same_back : {xs ys : List X} → HaveSame xs ys → HaveSame ys xs
  same_back h = record { each = λ x. ((h.each x).1, (h.each x).0) }

  pub same_then : {xs ys zs : List X} → HaveSame xs ys → HaveSame ys zs → HaveSame xs zs
  same_then h j = record { each = λ x. (λ p. (j.each x).0 ((h.each x).0 p), λ p. (h.each x).1 ((j.each x).1 p)) }

  -- behind one more
  pub behind : (y : X) (xs ys : List X) (x : X) → (Contains xs x → Contains ys x) → Contains (y ∷ xs) x
      → Contains (y ∷ ys) x
  behind y xs ys x h p =
      ⊎_elim (λ (e : y ≡ x). subst (Contains (y ∷ ys)) e (is_first y ys)) (λ q. is_later y ys x (h q))
      (first_or_later y xs x p)

  pub same_behind : (y : X) {xs ys : List X} → HaveSame xs ys → HaveSame (y ∷ xs) (y ∷ ys)
  same_behind y {xs} {ys} h =
      record { each = λ x. (behind y xs ys x (h.each x).0, behind y ys xs x (h.each x).1) }

  -- two in the other order
  swapped : (y z : X) (xs : List X) (x : X) → Contains (y ∷ z ∷ xs) x → Contains (z ∷ y ∷ xs) x
  swapped y z xs x p =
      ⊎_elim (λ (e : y ≡ x). is_later z (y ∷ xs) x (subst (Contains (y ∷ xs)) e (is_first y xs)))
      (behind z xs (y ∷ xs) x (is_later y xs x)) (first_or_later y (z ∷ xs) x p)

  pub same_swapped : (y z : X) (xs : List X) → HaveSame (y ∷ z ∷ xs) (z ∷ y ∷ xs)
  same_swapped y z xs = record { each = λ x. (swapped y z xs x, swapped z y xs x) }

  -- one that is there already
  pub same_with : (y : X) (xs : List X) → Contains xs y → HaveSame (y ∷ xs) xs
  same_with y xs there =
      record {
        each = λ x. (
          λ p. ⊎_elim (λ (e : y ≡ x). subst (Contains xs) e there) (λ q. q) (first_or_later y xs x p),
          is_later y xs x,
        );
      }

  -- one more at the end
  pub same_last : (y : X) (xs : List X) → HaveSame (xs ++ y ∷ []) (y ∷ xs)
  same_last y xs =
      record {
        each = λ x. (
          λ p. ⊎_elim (is_later y xs x) (λ (e : y ≡ x). subst (Contains (y ∷ xs)) e (is_first y xs))
              (Contains-push_cases xs y x p),
          λ p. ⊎_elim (λ (e : y ≡ x). subst (Contains (xs ++ y ∷ [])) e (Contains-push xs y))
              (Contains-append_left xs (y ∷ []) x) (first_or_later y xs x p),
        );
      }

  -- ---- gathered from one after another, of which each gives an element

  module _ {Y : Type 0} (gives : Y → X) (before : List X) where
    -- from one more
    pub gathered : (ys more : List Y) (y : Y) → more ≡ ys ++ y ∷ [] → {mid new : List X}
        → HaveSame mid (before ++ map gives ys) → HaveSame new (gives y ∷ mid) → HaveSame new (before ++ map gives more)
    gathered ys more y is {mid} {new} had then =
        let all : before ++ map gives more ≡ (before ++ map gives ys) ++ gives y ∷ [] =
        ap (λ l. before ++ l) (ap (map gives) is ∙ map-append gives ys (y ∷ []))
        ∙ sym (append_assoc before (map gives ys) (gives y ∷ [])) in
        subst (HaveSame new) (sym all)
        (same_then then (same_then (same_behind (gives y) had)
        (same_back (same_last (gives y) (before ++ map gives ys)))))
