-- Where an LF stands in a text.
use Rattle.std.specs.Prelude.{◌≡◌, ℕ, ◌<◌, ◌≤◌, List, length, slice_index}
use Rattle.httparse.specs.Ascii.{line_feed}

-- none stands at this index or after it
abbrev pub HasNoFeedFrom : List ℕ → ℕ → Type 0
HasNoFeedFrom text from = (k : ℕ) → from ≤ k → k < length text → ¬ (slice_index text k ≡ line_feed)

-- the first that stands at this index or after it
pub record IsNextFeed (text : List ℕ) (from at : ℕ) : Type 0 where
  pub low : from ≤ at
  pub within : at < length text
  pub feed : slice_index text at ≡ line_feed
  pub first : (k : ℕ) → from ≤ k → k < at → ¬ (slice_index text k ≡ line_feed)
