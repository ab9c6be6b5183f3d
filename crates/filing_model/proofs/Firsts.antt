-- The first requests, as the list goes on.
use Rattle.std.proofs.Common.{◌≡◌, ℕ, ◌≤◌, suc, Bool, true, false, not, List, [], ◌∷◌, ◌++◌, length, refl, sym, ap, ◌∙◌}
use Rattle.std.proofs.Common.{⊎_elim, arith, length-append}
use Rattle.std.specs.Prelude.{filter, Option, Some, None}
use Rattle.std.proofs.lemmas.Bool.Decides.{nat_tests}
use Rattle.std.proofs.lemmas.Bool.{cases_Bool, and_parts, both_ways}
use Rattle.std.proofs.lemmas.Slice.Eq.{bytes_eq-Decides}
use Rattle.std.proofs.lemmas.List.Elements.{filter-append}
use Rattle.std.proofs.lemmas.List.Filters.{length-filter_both}
use Rattle.filing_model.specs.Request.{Request, same_key, same_target, same_content, has_key, firsts}
use Rattle.filing_model.proofs.Lists.{filter_all, list_any-filter, filter-filter, filter-disjoint, filter-neither}
use Rattle.filing_model.proofs.Lists.{filter-swap}

pub same_key-refl : (r : Request) → same_key r r ≡ true
same_key-refl r = rw ((bytes_eq-Decides r.filer r.filer).1 refl, (bytes_eq-Decides r.key r.key).1 refl) refl

pub same_target-refl : (t : Option ℕ) → same_target t t ≡ true
same_target-refl None = refl
same_target-refl (Some n) = grind (arith, nat_tests)

pub same_target-is : (s t : Option ℕ) → same_target s t ≡ true → s ≡ t
same_target-is None None h = refl
same_target-is None (Some n) h = absurd (cc)
same_target-is (Some m) None h = absurd (cc)
same_target-is (Some m) (Some n) h = let same : m ≡ n = grind (arith, nat_tests, h) in ap Some same

pub same_content-refl : (r : Request) → same_content r r ≡ true
same_content-refl r = rw ((bytes_eq-Decides r.body r.body).1 refl) (same_target-refl r.target)

-- requests with one filer and key are alike for every other
pub same_key-like : (r s t : Request) → same_key r s ≡ true
    → (same_key r t ≡ same_key s t) × (same_key t r ≡ same_key t s)
same_key-like r s t h =
    let both = and_parts _ _ h in
    let filer = (bytes_eq-Decides r.filer s.filer).0 both.0 in
    let key = (bytes_eq-Decides r.key s.key).0 both.1 in
    (rw (filer, key) refl, rw (filer, key) refl)

pub has_key-firsts : (requests : List Request) (r : Request) → has_key (firsts requests) r ≡ has_key requests r
unfolding firsts
has_key-firsts [] r = refl
has_key-firsts (x ∷ requests) r = ⊎_elim
    (λ (h : same_key x r ≡ true). rw h refl)
    (λ (h : same_key x r ≡ false). rw h (list_any-filter (λ s. same_key s r) (λ s. not (same_key x s)) (lost h)
    (firsts requests) ∙ has_key-firsts requests r))
    (cases_Bool (same_key x r))
  where
    lost : same_key x r ≡ false → (s : Request) → not (same_key x s) ≡ false → same_key s r ≡ false
    lost h s out = ⊎_elim
        (λ (k : same_key x s ≡ true). sym (same_key-like x s r k).0 ∙ h)
        (λ (k : same_key x s ≡ false). absurd (both_ways _ out (rw k refl)))
        (cases_Bool (same_key x s))

pub firsts-append : (old new : List Request) → firsts (old ++ new) ≡ firsts old
    ++ filter (λ s. not (has_key old s)) (firsts new)
unfolding firsts
firsts-append [] new = sym (filter_all (λ s. not (has_key [] s)) (firsts new) (λ s. refl))
firsts-append (x ∷ old) new =
    ap (λ rest. x ∷ filter (λ s. not (same_key x s)) rest) (firsts-append old new)
    ∙ ap (λ rest. x ∷ rest) (filter-append (λ s. not (same_key x s)) (firsts old)
    (filter (λ s. not (has_key old s)) (firsts new)))
    ∙ ap (λ rest. x ∷ (filter (λ s. not (same_key x s)) (firsts old) ++ rest))
    (filter-neither (λ s. same_key x s) (λ s. has_key old s) (firsts new))

pub firsts_new : (requests : List Request) (r : Request) → has_key requests r ≡ false
    → firsts (requests ++ r ∷ []) ≡ firsts requests ++ r ∷ []
unfolding firsts
firsts_new requests r h = firsts-append requests (r ∷ []) ∙ rw h refl

pub firsts_repeat : (requests : List Request) (r : Request) → has_key requests r ≡ true
    → firsts (requests ++ r ∷ []) ≡ firsts requests
unfolding firsts
firsts_repeat requests r h = firsts-append requests (r ∷ []) ∙ rw h (append_nil (firsts requests))
  where
    append_nil : (xs : List Request) → xs ++ [] ≡ xs
    append_nil [] = refl
    append_nil (x ∷ xs) = ap (λ ys. x ∷ ys) (append_nil xs)

-- no filer and key stands twice
pub firsts_once : (requests : List Request) (r : Request) → length (filter (λ s. same_key s r) (firsts requests)) ≤ 1
unfolding firsts
firsts_once [] r = omega arith
firsts_once (x ∷ requests) r = ⊎_elim
    (λ (h : same_key x r ≡ true).
    rw (h, filter-disjoint (λ s. same_key s r) (λ s. not (same_key x s)) (apart h) (firsts requests)) (omega arith))
    (λ (h : same_key x r ≡ false).
    rw (h, filter-filter (λ s. same_key s r) (λ s. not (same_key x s)) (lost h) (firsts requests))
    (firsts_once requests r))
    (cases_Bool (same_key x r))
  where
    apart : same_key x r ≡ true → (s : Request) → not (same_key x s) ≡ true → same_key s r ≡ false
    apart h s out = ⊎_elim
        (λ (k : same_key s r ≡ true). absurd (both_ways (same_key x s)
        (⊎_elim (λ (y : same_key x s ≡ true). absurd (both_ways _ (rw y refl) out))
        (λ (y : same_key x s ≡ false). y) (cases_Bool (same_key x s))) ((same_key-like s r x k).1 ∙ h)))
        (λ (k : same_key s r ≡ false). k)
        (cases_Bool (same_key s r))

    lost : same_key x r ≡ false → (s : Request) → not (same_key x s) ≡ false → same_key s r ≡ false
    lost h s out = ⊎_elim
        (λ (k : same_key x s ≡ true). sym (same_key-like x s r k).0 ∙ h)
        (λ (k : same_key x s ≡ false). absurd (both_ways _ out (rw k refl)))
        (cases_Bool (same_key x s))

-- ---- how many firsts there are

pub firsts_more : (old new : List Request) → length (firsts old) ≤ length (firsts (old ++ new))
firsts_more old new =
    omega (
      arith,
      ap length (firsts-append old new),
      length-append (firsts old) (filter (λ s. not (has_key old s)) (firsts new)),
    )

pub firsts_one_more : (requests : List Request) (r : Request)
    → length (firsts (requests ++ r ∷ [])) ≤ suc (length (firsts requests))
firsts_one_more requests r = ⊎_elim
    (λ (h : has_key requests r ≡ true). omega (arith, ap length (firsts_repeat requests r h)))
    (λ (h : has_key requests r ≡ false). omega (
      arith,
      ap length (firsts_new requests r h),
      length-append (firsts requests) (r ∷ []),
    ))
    (cases_Bool (has_key requests r))

pub firsts_none : length (firsts []) ≡ 0
unfolding firsts
firsts_none = refl

-- ---- the firsts of the firsts

-- a test that looks at filer and key alone may come before or after
firsts-filter : (p : Request → Bool) → ((r s : Request) → same_key r s ≡ true → p r ≡ p s) → (requests : List Request)
    → firsts (filter p requests) ≡ filter p (firsts requests)
unfolding firsts
firsts-filter p alike [] = refl
firsts-filter p alike (x ∷ requests) = ⊎_elim
    (λ (h : p x ≡ true). rw h (ap (λ rest. x ∷ rest)
    (ap (filter (λ s. not (same_key x s))) (firsts-filter p alike requests)
    ∙ filter-swap (λ s. not (same_key x s)) p (firsts requests))))
    (λ (h : p x ≡ false). rw h (firsts-filter p alike requests
    ∙ sym (filter-filter p (λ s. not (same_key x s)) (lost h) (firsts requests))))
    (cases_Bool (p x))
  where
    lost : p x ≡ false → (s : Request) → not (same_key x s) ≡ false → p s ≡ false
    lost h s out = ⊎_elim
        (λ (k : same_key x s ≡ true). sym (alike x s k) ∙ h)
        (λ (k : same_key x s ≡ false). absurd (both_ways _ out (rw k refl)))
        (cases_Bool (same_key x s))

pub firsts-firsts : (requests : List Request) → firsts (firsts requests) ≡ firsts requests
unfolding firsts
firsts-firsts [] = refl
firsts-firsts (x ∷ requests) = ap (λ rest. x ∷ rest)
    (ap (filter other) (firsts-filter other alike (firsts requests) ∙ ap (filter other) (firsts-firsts requests))
    ∙ filter-filter other other (λ s h. h) (firsts requests))
  where
    other : Request → Bool
    other s = not (same_key x s)

    alike : (r s : Request) → same_key r s ≡ true → other r ≡ other s
    alike r s h = ap not (same_key-like r s x h).1

-- a test picks no more than there are
pub filter_short : {X : Type 0} (p : X → Bool) (xs : List X) → length (filter p xs) ≤ length xs
filter_short p xs = omega (arith, length-filter_both p (λ x. not (p x)) (λ x. refl) xs)

-- no more than there were
pub firsts_short : (requests : List Request) → length (firsts requests) ≤ length requests
unfolding firsts
firsts_short [] = omega arith
firsts_short (r ∷ requests) =
    omega (arith, filter_short (λ s. not (same_key r s)) (firsts requests), firsts_short requests)
