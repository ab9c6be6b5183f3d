-- What `strip_prefix` and `strip_suffix` at a parenthesis give.
use Rattle.std.proofs.Common.{◌≡◌, ◌≢◌, ◌<◌, ◌-◌, ◌+◌, ℕ, suc, List, [], ◌∷◌, ◌++◌, length, take, get_or, slice_index}
use Rattle.std.proofs.Common.{Bool, true, false, cond, eqb, ltb, ◌&&◌, Option, None, Some, option_map, Bor, refl, sym}
use Rattle.std.proofs.Common.{ap, ◌∙◌, arith, length-append}
use Rattle.std.proofs.Math.Seq.{take-suc, take-length, take-append_seam}
use Rattle.std.proofs.lemmas.List.{get_or_push}
use Rattle.std.specs.Option.{MatchOption}
use Rattle.std.proofs.lemmas.Bool.Decides.{nat_tests}
use Rattle.xbrl_values.specs.Unit.{after_opening, before_closing}

opened : (b : Bool) (x : ℕ) (xs : List ℕ) → eqb x 40 ≡ b → ((rest : List ℕ) → x ∷ xs ≢ 40 ∷ rest)
    → None ≡ cond b (Some xs) None
opened true x xs is h = let same : x ≡ 40 = grind (arith, nat_tests) in absurd (h xs (ap (λ y. y ∷ xs) same))
opened false x xs is h = refl

no_opening : (bs : List ℕ) → ((rest : List ℕ) → bs ≢ 40 ∷ rest) → None ≡ after_opening bs
no_opening [] h = refl
no_opening (x ∷ xs) h = opened (eqb x 40) x xs refl h

pub after_opening-from_strip : (bs : List ℕ) (r : Option (Bor (List ℕ)))
    → MatchOption r ((rest : List ℕ) → bs ≢ 40 ∷ rest) (λ x. bs ≡ 40 ∷ x.now)
    → option_map (λ s. s.now) r ≡ after_opening bs
after_opening-from_strip bs None h = no_opening bs h
after_opening-from_strip bs (Some x) h = rw h refl

-- ---- at the end

last_there : (bs : List ℕ) → 0 < length bs → slice_index bs (length bs - 1) ≡ 41
    → bs ≡ take (length bs - 1) bs ++ (41 ∷ [])
last_there bs some is =
    let n = length bs - 1 in
    let next : take (suc n) bs ≡ take n bs ++ (get_or bs n 0 ∷ []) = take-suc bs n 0 (omega arith) in
    let whole : suc n ≡ length bs = omega arith in
    sym (take-length bs) ∙ (ap (λ k. take k bs) (sym whole) ∙ (next ∙ ap (λ y. take n bs ++ (y ∷ [])) is))

closed : (b : Bool) (bs : List ℕ) → (ltb 0 (length bs) && eqb (slice_index bs (length bs - 1)) 41) ≡ b
    → ((front : List ℕ) → bs ≢ front ++ (41 ∷ [])) → None ≡ cond b (Some (take (length bs - 1) bs)) None
closed true bs is h =
    let some : 0 < length bs = grind (arith, nat_tests) in
    let last : slice_index bs (length bs - 1) ≡ 41 = grind (arith, nat_tests) in
    absurd (h (take (length bs - 1) bs) (last_there bs some last))
closed false bs is h = refl

with_closing : (front : List ℕ) → Some front ≡ before_closing (front ++ (41 ∷ []))
with_closing front =
    let len : length (front ++ (41 ∷ [])) ≡ length front + 1 = length-append front (41 ∷ []) in
    let less : (length front + 1) - 1 ≡ length front = omega arith in
    let last : get_or (front ++ (41 ∷ [])) (length front) 0 ≡ 41 = get_or_push front 41 0 (length front) refl in
    let some : ltb 0 (length front + 1) ≡ true = grind (arith, nat_tests) in
    rw (len, less, last, some, take-append_seam) refl

pub before_closing-from_strip : (bs : List ℕ) (r : Option (Bor (List ℕ)))
    → MatchOption r ((front : List ℕ) → bs ≢ front ++ (41 ∷ [])) (λ x. bs ≡ x.now ++ (41 ∷ []))
    → option_map (λ s. s.now) r ≡ before_closing bs
before_closing-from_strip bs None h = closed (ltb 0 (length bs) && eqb (slice_index bs (length bs - 1)) 41) bs refl h
before_closing-from_strip bs (Some x) h = rw h (with_closing x.now)
