-- Texts without a line feed, and how lines of them are read.
use Rattle.std.proofs.Common.{◌≡◌, ◌≢◌, ℕ, zero, suc, Bool, true, false, List, [], ◌∷◌, ◌++◌}
use Rattle.std.proofs.Common.{length, refl, sym, ap, ap₂, ◌∙◌, arith, drop, get_or, true≢false, ◌/◌, ◌%◌, nat_le}
use Rattle.std.specs.List.{list_all, AllByRecursion}
use Rattle.std.proofs.lemmas.Bool.{and_parts}
use Rattle.std.proofs.lemmas.List.{append_assoc}
use Rattle.hex.specs.Hex.{encode_with, lower_digits}
use Rattle.register_extracts.specs.Digest.{line, lines}

-- no byte of the text is a line feed
abbrev pub HasNoFeed : List ℕ → Type 0
HasNoFeed text = (k : ℕ) → get_or text k 0 ≢ 10

-- a text whose bytes pass a test that a line feed does not
pub no_feed_by : (test : ℕ → Bool) → test 10 ≡ false → (text : List ℕ) → list_all test text ≡ true → HasNoFeed text
no_feed_by test not [] all k is = absurd (omega (arith, is))
no_feed_by test not (c ∷ text) all zero is =
    true≢false (sym (and_parts _ _ all).0 ∙ ap test is ∙ not)
no_feed_by test not (c ∷ text) all (suc k) is = no_feed_by test not text (and_parts _ _ all).1 k is

pub no_feed-hex : (bytes : List ℕ) → HasNoFeed (encode_with lower_digits bytes)
unfolding encode_with
no_feed-hex [] k is = absurd (omega (arith, is))
no_feed-hex (b ∷ bytes) zero is = no_feed_by (λ c. nat_le 48 c) refl lower_digits refl (b / 16) is
no_feed-hex (b ∷ bytes) (suc zero) is = no_feed_by (λ c. nat_le 48 c) refl lower_digits refl (b % 16) is
no_feed-hex (b ∷ bytes) (suc (suc k)) is = no_feed-hex bytes k is

-- two texts that begin with a line begin with the same one
pub line_same : (x y s t : List ℕ) → HasNoFeed x → HasNoFeed y → line x ++ s ≡ line y ++ t → (x ≡ y) × (s ≡ t)
unfolding line
line_same [] [] s t p q e = (refl, ap (drop 1) e)
line_same [] (b ∷ y) s t p q e = absurd (q 0 (sym (ap (λ l. get_or l 0 0) e)))
line_same (a ∷ x) [] s t p q e = absurd (p 0 (ap (λ l. get_or l 0 0) e))
line_same (a ∷ x) (b ∷ y) s t p q e =
    let rest = line_same x y s t (λ k. p (suc k)) (λ k. q (suc k)) (ap (drop 1) e) in
    (ap₂ (λ c cs. c ∷ cs) (ap (λ l. get_or l 0 0) e) rest.0, rest.1)

-- so do two that begin with as many lines
pub lines_same : (xs ys : List (List ℕ)) (s t : List ℕ) → length xs ≡ length ys → AllByRecursion HasNoFeed xs
    → AllByRecursion HasNoFeed ys → lines xs ++ s ≡ lines ys ++ t → (xs ≡ ys) × (s ≡ t)
unfolding lines
lines_same [] [] s t len p q e = (refl, e)
lines_same [] (y ∷ ys) s t len p q e = absurd (omega (arith, len))
lines_same (x ∷ xs) [] s t len p q e = absurd (omega (arith, len))
lines_same (x ∷ xs) (y ∷ ys) s t len p q e =
    let first = line_same x y (lines xs ++ s) (lines ys ++ t) p.0 q.0
    (sym (append_assoc (line x) (lines xs) s) ∙ e ∙ append_assoc (line y) (lines ys) t) in
    let rest = lines_same xs ys s t (omega (arith, len)) p.1 q.1 first.1 in
    (ap₂ (λ l ls. l ∷ ls) first.0 rest.0, rest.1)
