-- What more bytes at the end leave as it was.
use Rattle.std.proofs.Common.{◌≡◌, ℕ, ◌+◌, ◌-◌, ◌≤◌, List, ◌++◌, length, drop, sym, ap, ◌∙◌, subst, arith}
use Rattle.std.proofs.lemmas.Grind.{common_steps}
use Rattle.std.specs.Prelude.{slice_range, nat_eq}
use Rattle.std.specs.List.{starts_with}
use Rattle.httparse.specs.Ascii.{crlf_bytes}
use Rattle.http_messages.specs.Block.{EndsAt, BeginsBlock, IsBlockEnd, IsTooLong, block_end_mark, skipped_len}
use Rattle.http_messages.specs.Block.{from_block, max_block_len}
use Rattle.http_messages.specs.Head.{RequestParts, IsHead, IsHeadFault}
use Rattle.http_messages.specs.Message.{BeginsHead, BeginsRequest, IsRefused}
use Rattle.http_messages.specs.Request.{Request}
use Rattle.http_messages.specs.declared.refusal.Refusal.{Refusal}
use Rattle.http_messages.specs.declared.refusal.Refusal.TheVariants.{HeadTooLarge, Head}
use Rattle.http_messages.proofs.BlockLemmas.{EndsAt-within}

-- a part stays
pub slice_range-more : (xs more : List ℕ) (k n : ℕ) → n ≤ length xs → slice_range (xs ++ more) k n ≡ slice_range xs k n
slice_range-more xs more k n within = grind (arith, common_steps)

-- a short front stays
starts_with-more : (xs more front : List ℕ) → length front ≤ length xs
    → starts_with nat_eq (xs ++ more) front ≡ starts_with nat_eq xs front
starts_with-more xs more front short = grind (arith, common_steps)

-- the skipped bytes stay, from four bytes on
pub skipped_len-more : (bytes more : List ℕ) → 4 ≤ length bytes → skipped_len (bytes ++ more) ≡ skipped_len bytes
skipped_len-more bytes more some =
    simp (
      starts_with-more bytes more crlf_bytes (omega arith),
      starts_with-more bytes more block_end_mark (omega arith),
    )

pub skipped_len-within : (bytes : List ℕ) → 4 ≤ length bytes → skipped_len bytes ≤ 2
skipped_len-within bytes some = grind (arith, common_steps)

pub from_block-more : (bytes more : List ℕ) → 4 ≤ length bytes → from_block (bytes ++ more) ≡ from_block bytes ++ more
from_block-more bytes more some =
    let low = skipped_len-within bytes some in
    ap (λ n. drop n (bytes ++ more)) (skipped_len-more bytes more some) ∙ grind (arith, common_steps, low)

-- an end stays, and none is made before the old end
pub EndsAt-more : (text more : List ℕ) (n : ℕ) → EndsAt text n → EndsAt (text ++ more) n
EndsAt-more text more n e = slice_range-more text more (n - 4) n (EndsAt-within text n e).1 ∙ e

pub EndsAt-front : (text more : List ℕ) (n : ℕ) → n ≤ length text → EndsAt (text ++ more) n → EndsAt text n
EndsAt-front text more n within e = sym (slice_range-more text more (n - 4) n within) ∙ e

-- a block stays
pub BeginsBlock-more : (text more : List ℕ) (n : ℕ) → BeginsBlock text n → BeginsBlock (text ++ more) n
BeginsBlock-more text more n b =
    let within = EndsAt-within text n b.ends in
    record {
      ends = EndsAt-more text more n b.ends;
      first = λ k low ends. b.first k low (EndsAt-front text more k (omega (arith, within.1, low)) ends);
      short = b.short;
    }

-- a block and the bytes before it lie in the bytes
pub IsBlockEnd-within : (bytes : List ℕ) (n : ℕ) → IsBlockEnd bytes n
    → (4 ≤ length bytes) × (skipped_len bytes ≤ n) × (n ≤ length bytes)
IsBlockEnd-within bytes n b =
    let within = EndsAt-within (from_block bytes) b.0 b.1.ends in
    let size : length (from_block bytes) ≡ length bytes - skipped_len bytes = grind (arith, common_steps) in (
      omega (arith, within.0, within.1, size),
      omega (arith, b.2),
      omega (arith, within.0, within.1, size, b.2),
    )

pub IsBlockEnd-more : (bytes more : List ℕ) (n : ℕ) → IsBlockEnd bytes n → IsBlockEnd (bytes ++ more) n
IsBlockEnd-more bytes more n b =
    let four = (IsBlockEnd-within bytes n b).0 in (
      b.0,
      subst (λ text. BeginsBlock text b.0) (sym (from_block-more bytes more four))
          (BeginsBlock-more (from_block bytes) more b.0 b.1),
      b.2 ∙ ap (λ k. k + b.0) (sym (skipped_len-more bytes more four)),
    )

-- the block's bytes stay
pub block-more : (bytes more : List ℕ) (n : ℕ) → IsBlockEnd bytes n
    → slice_range (bytes ++ more) (skipped_len (bytes ++ more)) n ≡ slice_range bytes (skipped_len bytes) n
block-more bytes more n b =
    let within = IsBlockEnd-within bytes n b in
    ap (λ k. slice_range (bytes ++ more) k n) (skipped_len-more bytes more within.0)
    ∙ slice_range-more bytes more (skipped_len bytes) n within.2

-- what is too long stays too long
pub IsTooLong-more : (bytes more : List ℕ) → IsTooLong bytes → IsTooLong (bytes ++ more)
IsTooLong-more bytes more t =
    let size : length (from_block bytes) ≡ length bytes - skipped_len bytes = grind (arith, common_steps) in
    let four : 4 ≤ length bytes = omega (arith, t.full, size) in
    let same = from_block-more bytes more four in
    let bigger : length (from_block bytes) ≤ length (from_block bytes ++ more) = grind (arith, common_steps) in
    record {
      full = subst (λ text. max_block_len ≤ length text) (sym same) (omega (arith, t.full, bigger));
      unended =
          λ k low ends. t.unended k low (EndsAt-front (from_block bytes) more k (omega (arith, low, t.full))
          (subst (λ text. EndsAt text k) same ends));
    }

-- a head stays
pub BeginsHead-more : (bytes more : List ℕ) (parts : RequestParts) (n : ℕ) → BeginsHead bytes parts n
    → BeginsHead (bytes ++ more) parts n
BeginsHead-more bytes more parts n h = record {
  block = IsBlockEnd-more bytes more n h.block;
  head = subst (λ block. IsHead block parts) (sym (block-more bytes more n h.block)) h.head;
}

-- a request stays
pub BeginsRequest-more : (bytes more : List ℕ) (request : Request) (n : ℕ) → BeginsRequest bytes request n
    → BeginsRequest (bytes ++ more) request n
BeginsRequest-more bytes more request n b = record {
  head_len = b.head_len;
  head = BeginsHead-more bytes more request.head b.head_len b.head;
  length_is = b.length_is;
  whole = grind (arith, common_steps, b.whole);
  body = b.body ∙ sym (slice_range-more bytes more b.head_len n b.whole);
}

-- a refusal stays
pub IsRefused-more : (bytes more : List ℕ) (refusal : Refusal) → IsRefused bytes refusal
    → IsRefused (bytes ++ more) refusal
IsRefused-more bytes more HeadTooLarge r = IsTooLong-more bytes more r
IsRefused-more bytes more (Head fault) r = (
  r.0,
  IsBlockEnd-more bytes more r.0 r.1,
  r.2,
  subst (λ block. IsHeadFault block fault) (sym (block-more bytes more r.0 r.1)) r.3,
)
