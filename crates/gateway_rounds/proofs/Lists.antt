-- Properties of the items of lists.
use Rattle.std.proofs.Common.{◌<◌, ◌≤◌, ◌≢◌, ◌++◌, ◌∷◌, [], ℕ, List, inl, inr, map, arith}
use Rattle.std.specs.List.{AllByRecursion}
use Rattle.gateway_rounds.specs.Groups.{AreApart, AreOther, InOrder}
use Rattle.gateway_rounds.specs.Turns.{IsBefore}

module _ {X : Type 0} (P : X → Type 0) where
  pub all_append : (xs ys : List X) → AllByRecursion P xs → AllByRecursion P ys → AllByRecursion P (xs ++ ys)
  all_append [] ys first next = next
  all_append (x ∷ xs) ys first next = (first.0, all_append xs ys first.1 next)

  pub all_parts : (xs ys : List X) → AllByRecursion P (xs ++ ys) → AllByRecursion P xs × AllByRecursion P ys
  all_parts [] ys all = (tt, all)
  all_parts (x ∷ xs) ys all = let rest = all_parts xs ys all.1 in ((all.0, rest.0), rest.1)

  pub all_every : ((x : X) → P x) → (xs : List X) → AllByRecursion P xs
  all_every every [] = tt
  all_every every (x ∷ xs) = (every x, all_every every xs)

-- what holds of some holds of them in another way
pub all_so : {X : Type 0} (P Q : X → Type 0) → ((x : X) → P x → Q x) → (xs : List X) → AllByRecursion P xs
    → AllByRecursion Q xs
all_so P Q so [] all = tt
all_so P Q so (x ∷ xs) all = (so x all.0, all_so P Q so xs all.1)

module _ {X : Type 0} (at : X → ℕ) (P : ℕ → Type 0) where
  pub all_map : (xs : List X) → AllByRecursion (λ x. P (at x)) xs → AllByRecursion P (map at xs)
  all_map [] all = tt
  all_map (x ∷ xs) all = (all.0, all_map xs all.1)

  pub all_unmap : (xs : List X) → AllByRecursion P (map at xs) → AllByRecursion (λ x. P (at x)) xs
  all_unmap [] all = tt
  all_unmap (x ∷ xs) all = (all.0, all_unmap xs all.1)

-- ---- places

pub all_below : (from place : ℕ) → from ≤ place → (places : List ℕ) → AllByRecursion (λ p. p < from) places
    → AllByRecursion (λ p. p < place) places
all_below from place low = all_so (λ p. p < from) (λ p. p < place) (λ p here. omega (arith, here, low))

pub other_below : (place : ℕ) (places : List ℕ) → AllByRecursion (λ p. p < place) places → AreOther place places
other_below place = all_so (λ p. p < place) (λ p. p ≢ place) (λ p here same. omega (arith, here, same))

pub in_order_more : (R : ℕ → ℕ → Type 0) (places : List ℕ) (place : ℕ) → InOrder R places
    → AllByRecursion (λ p. R p place) places → InOrder R (places ++ place ∷ [])
in_order_more R [] place order all = (tt, tt)
in_order_more R (first ∷ places) place order all = (
  all_append (R first) places (place ∷ []) order.0 (all.0, tt),
  in_order_more R places place order.1 all.1,
)

pub in_order_last : (R : ℕ → ℕ → Type 0) (places : List ℕ) (place : ℕ) → InOrder R (places ++ place ∷ [])
    → AllByRecursion (λ p. R p place) places
in_order_last R [] place order = tt
in_order_last R (first ∷ places) place order =
    ((all_parts (R first) places (place ∷ []) order.0).1.0, in_order_last R places place order.1)

pub in_order_first : (R : ℕ → ℕ → Type 0) (places more : List ℕ) → InOrder R (places ++ more) → InOrder R places
in_order_first R [] more order = tt
in_order_first R (first ∷ places) more order =
    ((all_parts (R first) places more order.0).0, in_order_first R places more order.1)

pub in_order_so : (R Q : ℕ → ℕ → Type 0) → ((p q : ℕ) → R p q → Q p q) → (places : List ℕ) → InOrder R places
    → InOrder Q places
in_order_so R Q so [] order = tt
in_order_so R Q so (place ∷ places) order =
    (all_so (R place) (Q place) (so place) places order.0, in_order_so R Q so places order.1)

-- one that is before another is another one
pub before_other : (from p q : ℕ) → IsBefore from p q → p ≢ q
before_other from p q (inl round) same = let low = round.0 in let high = round.1 in omega (arith, low, high, same)
before_other from p q (inr less) same = let low = less.0 in omega (arith, low, same)

pub are_apart : (from : ℕ) (places : List ℕ) → InOrder (IsBefore from) places → AreApart places
are_apart from = in_order_so (IsBefore from) (λ p q. p ≢ q) (before_other from)
