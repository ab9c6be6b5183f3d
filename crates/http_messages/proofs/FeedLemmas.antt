-- The first LF of a text, from an index on.
use Rattle.std.proofs.Common.{◌≡◌, ℕ, ◌+◌, ◌-◌, ◌≤◌, List, length, drop, get_or, sym, ap, ◌∙◌, length-drop, arith}
use Rattle.std.proofs.lemmas.Bool.{eq-eqb, eqb-true}
use Rattle.std.proofs.lemmas.List.{get_or-drop}
use Rattle.memchr.specs.Find.{Nowhere, NoneBefore, Passes, is_byte}
use Rattle.http_messages.specs.Feeds.{HasNoFeedFrom, IsNextFeed}

-- what stands in the rest of a text, by its place in the text
byte_at : (text : List ℕ) (from k : ℕ) → from ≤ k → get_or (drop from text) (k - from) 0 ≡ get_or text k 0
byte_at text from k low =
    let place : from + (k - from) ≡ k = omega arith in
    get_or-drop from text (k - from) 0 ∙ ap (λ i. get_or text i 0) place

pub next_feed_none : (text : List ℕ) (from : ℕ)
    → Nowhere (Passes (is_byte 10) (drop from text)) 0 (length (drop from text)) → HasNoFeedFrom text from
next_feed_none text from none = λ k low high e.
    none (k - from) (omega arith) (omega (arith, length-drop from text)) (eq-eqb _ 10 (byte_at text from k low ∙ e))

pub next_feed_some : (text : List ℕ) (from at : ℕ)
    → NoneBefore (Passes (is_byte 10) (drop from text)) 0 (length (drop from text)) at × Passes (is_byte 10)
    (drop from text) at
    → IsNextFeed text from (from + at)
next_feed_some text from at h = record {
  low = omega arith;
  within = omega (arith, h.0.high, length-drop from text);
  feed = sym (get_or-drop from text at 0) ∙ eqb-true _ 10 h.1;
  first = λ k low high e. h.0.before (k - from) (omega arith) (omega arith) (eq-eqb _ 10 (byte_at text from k low ∙ e));
}
