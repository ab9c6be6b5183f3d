-- The end of a block.
use Rattle.std.proofs.Common.{◌≡◌, ℕ, ◌+◌, ◌-◌, ◌<◌, ◌≤◌, List, length, drop, get_or, sym, ap, ◌∙◌, subst, inl, inr}
use Rattle.std.proofs.Common.{arith}
use Rattle.std.proofs.lemmas.Bool.{cases_lt}
use Rattle.std.proofs.lemmas.Grind.{common_steps}
use Rattle.std.proofs.lemmas.List.{get_or-take, get_or-drop}
use Rattle.std.specs.Prelude.{slice_range}
use Rattle.http_messages.specs.Block.{EndsAt, HasNoEndUpTo, block_end_mark}
use Rattle.http_messages.specs.Feeds.{HasNoFeedFrom, IsNextFeed}

-- four bytes stand before an end
pub EndsAt-within : (text : List ℕ) (n : ℕ) → EndsAt text n → (4 ≤ n) × (n ≤ length text)
EndsAt-within text n e =
    let l : length (slice_range text (n - 4) n) ≡ 4 = ap length e in
    (grind (arith, common_steps, l), grind (arith, common_steps, l))

-- what stands where a block ends
pub EndsAt-byte : (text : List ℕ) (n k i : ℕ) → EndsAt text n → k < 4 → n - 4 + k ≡ i
    → get_or text i 0 ≡ get_or block_end_mark k 0
EndsAt-byte text n k i e low place =
    let within = EndsAt-within text n e in
    let taken = get_or-take (n - (n - 4)) (drop (n - 4) text) k 0 (omega (arith, within.0)) in
    ap (λ i. get_or text i 0) (sym place) ∙ sym (taken ∙ get_or-drop (n - 4) text k 0) ∙ ap (λ l. get_or l k 0) e

pub EndsAt-last : (text : List ℕ) (n : ℕ) → EndsAt text n → get_or text (n - 1) 0 ≡ 10
EndsAt-last text n e =
    let within = EndsAt-within text n e in
    let last : n - 4 + 3 ≡ n - 1 = omega (arith, within.0) in
    EndsAt-byte text n 3 (n - 1) e (omega arith) last

-- an end that is beyond those that were looked at has its last byte beyond them too
unended : (text : List ℕ) (from at : ℕ) → HasNoEndUpTo text from
    → ((k : ℕ) → from ≤ k → k < at → ¬ (get_or text k 0 ≡ 10)) → HasNoEndUpTo text at
unended text from at before none = λ k low ends. elim (cases_lt from k) [
  | inl past ↦ none (k - 1) (omega arith) (omega (arith, (EndsAt-within text k ends).0)) (EndsAt-last text k ends)
  | inr near ↦ before k near ends
]

pub find_end_none : (text : List ℕ) (from n : ℕ) → HasNoEndUpTo text from → HasNoFeedFrom text from
    → HasNoEndUpTo text n
find_end_none text from n before none = λ k low ends.
    let within = EndsAt-within text k ends in
    unended text from k before (λ i here less. none i here (omega (arith, within.1))) k (omega arith) ends

pub find_end_before : (text : List ℕ) (from at : ℕ) → HasNoEndUpTo text from
    → IsNextFeed text from at → HasNoEndUpTo text at
find_end_before text from at before next = unended text from at before next.first

-- and with one that was looked at, none up to it
pub find_end_more : (text : List ℕ) (from at : ℕ) → HasNoEndUpTo text from
    → IsNextFeed text from at → ¬ (EndsAt text (at + 1)) → HasNoEndUpTo text (at + 1)
find_end_more text from at before next here = λ k low ends. elim (cases_lt k (at + 1)) [
  | inl near ↦ find_end_before text from at before next k (omega arith) ends
  | inr far ↦ let same : k ≡ at + 1 = omega arith in here (subst (EndsAt text) same ends)
]

-- none of no bytes ends a block
pub HasNoEndUpTo-zero : (text : List ℕ) → HasNoEndUpTo text 0
HasNoEndUpTo-zero text = λ k low e. absurd (omega (arith, EndsAt-within text k e))
