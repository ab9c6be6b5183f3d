-- Where the head of a message ends (RFC 9112, section 2.1).
use Rattle.std.specs.Prelude.{◌≡◌, ℕ, ◌+◌, ◌-◌, ◌<◌, ◌≤◌, ◌&&◌, not, List, ◌++◌, length, drop, nat_eq, slice_range}
use Rattle.std.specs.Prelude.{if◌then◌else◌}
use Rattle.std.specs.List.{starts_with}
use Rattle.httparse.specs.Ascii.{crlf_bytes}
use Rattle.http_messages.specs.declared.block.Block.{Block}
use Rattle.http_messages.specs.declared.block.Block.TheVariants.{End, TooLong, More}

-- own rule: a block of more bytes is refused (RFC 6585, section 5)
abbrev pub max_block_len : ℕ
max_block_len = 16384

-- CR LF CR LF, the end of the last field line and the empty line (RFC 9112, section 2.1)
abbrev pub block_end_mark : List ℕ
block_end_mark = crlf_bytes ++ crlf_bytes

-- a CRLF before the block is skipped (RFC 9112, section 2.2), unless another one follows it at once (own rule)
abbrev pub skipped_len : List ℕ → ℕ
skipped_len bytes =
    if starts_with nat_eq bytes crlf_bytes && not (starts_with nat_eq bytes block_end_mark) then 2 else 0

-- the bytes from the beginning of the block on
abbrev pub from_block : List ℕ → List ℕ
from_block bytes = drop (skipped_len bytes) bytes

-- the first n bytes end with CR LF CR LF
abbrev pub EndsAt : List ℕ → ℕ → Type 0
EndsAt text n = slice_range text (n - 4) n ≡ block_end_mark

-- none of the first n bytes ends a block
abbrev pub HasNoEndUpTo : List ℕ → ℕ → Type 0
HasNoEndUpTo text n = (k : ℕ) → k ≤ n → ¬ (EndsAt text k)

-- the text begins with a block of n bytes
pub record BeginsBlock (text : List ℕ) (n : ℕ) : Type 0 where
  pub ends : EndsAt text n
  pub first : (k : ℕ) → k < n → ¬ (EndsAt text k)
  pub short : n ≤ max_block_len

-- the skipped bytes and the block are the first n bytes
abbrev pub IsBlockEnd : List ℕ → ℕ → Type 0
IsBlockEnd bytes n = (len : ℕ) × BeginsBlock (from_block bytes) len × (n ≡ skipped_len bytes + len)

-- the bytes are a block, with the CRLF before it that is skipped
abbrev pub IsWholeBlock : List ℕ → Type 0
IsWholeBlock bytes = IsBlockEnd bytes (length bytes)

-- the bytes begin with a whole block
abbrev pub HoldsBlock : List ℕ → Type 0
HoldsBlock bytes = (n : ℕ) × IsBlockEnd bytes n

-- the bytes hold no end of a block, and no more bytes are waited for
pub record IsTooLong (bytes : List ℕ) : Type 0 where
  pub full : max_block_len ≤ length (from_block bytes)
  pub unended : HasNoEndUpTo (from_block bytes) max_block_len

-- the bytes hold no end of a block so far
pub record IsUnended (bytes : List ℕ) : Type 0 where
  pub room : length (from_block bytes) < max_block_len
  pub unended : HasNoEndUpTo (from_block bytes) max_block_len

-- what stands at the front of the bytes
abbrev pub IsBlock : List ℕ → Block → Type 0
IsBlock bytes (End n) = IsBlockEnd bytes n
IsBlock bytes TooLong = IsTooLong bytes
IsBlock bytes More = IsUnended bytes
