-- What begins some bytes begins the first of them, as far as it reaches.
use Rattle.std.proofs.Common.{◌≡◌, ℕ, ◌+◌, ◌-◌, ◌≤◌, List, ◌++◌, length, take, drop, sym, ap, ◌∙◌, subst, arith}
use Rattle.std.proofs.lemmas.Grind.{common_steps}
use Rattle.std.proofs.lemmas.List.{take-append-drop}
use Rattle.std.specs.Prelude.{slice_range}
use Rattle.http_messages.specs.Block.{BeginsBlock, IsBlockEnd, from_block, skipped_len}
use Rattle.http_messages.specs.Head.{RequestParts, IsHead}
use Rattle.http_messages.specs.Message.{BeginsHead, BeginsRequest, SpellsRequest}
use Rattle.http_messages.specs.Request.{Request}
use Rattle.http_messages.proofs.BlockLemmas.{EndsAt-within}
use Rattle.http_messages.proofs.MoreBytes.{EndsAt-more, EndsAt-front, skipped_len-more, from_block-more, block-more}

-- a block that ends in the first bytes is theirs
BeginsBlock-front : (text more : List ℕ) (n : ℕ) → n ≤ length text → BeginsBlock (text ++ more) n → BeginsBlock text n
BeginsBlock-front text more n within b = record {
  ends = EndsAt-front text more n within b.ends;
  first = λ k low ends. b.first k low (EndsAt-more text more k ends);
  short = b.short;
}

IsBlockEnd-front : (bytes more : List ℕ) (n : ℕ) → n ≤ length bytes → IsBlockEnd (bytes ++ more) n → IsBlockEnd bytes n
IsBlockEnd-front bytes more n within b =
    let ends = EndsAt-within (from_block (bytes ++ more)) b.0 b.1.ends in
    let four : 4 ≤ length bytes = omega (arith, within, ends.0, b.2) in
    let skipped = skipped_len-more bytes more four in
    let size : length (from_block bytes) ≡ length bytes - skipped_len bytes = grind (arith, common_steps) in (
      b.0,
      BeginsBlock-front (from_block bytes) more b.0 (omega (arith, within, size, skipped, b.2))
          (subst (λ text. BeginsBlock text b.0) (from_block-more bytes more four) b.1),
      b.2 ∙ ap (λ k. k + b.0) skipped,
    )

BeginsHead-front : (bytes more : List ℕ) (parts : RequestParts) (n : ℕ) → n ≤ length bytes
    → BeginsHead (bytes ++ more) parts n → BeginsHead bytes parts n
BeginsHead-front bytes more parts n within h =
    let block = IsBlockEnd-front bytes more n within h.block in
    record {
      block = block;
      head = subst (λ text. IsHead text parts) (block-more bytes more n block) h.head;
    }

-- and so is a request
BeginsRequest-front : (bytes more : List ℕ) (request : Request) (n : ℕ) → n ≤ length bytes
    → BeginsRequest (bytes ++ more) request n → BeginsRequest bytes request n
BeginsRequest-front bytes more request n within b = record {
  head_len = b.head_len;
  head = BeginsHead-front bytes more request.head b.head_len (omega (arith, within, b.length_is)) b.head;
  length_is = b.length_is;
  whole = within;
  body = b.body ∙ (let same : slice_range (bytes ++ more) b.head_len n ≡ slice_range bytes b.head_len n =
      grind (arith, common_steps, within) in same);
}

-- the bytes of a request at the front are its spelling
pub BeginsRequest-spells : (bytes : List ℕ) (request : Request) (n : ℕ) → BeginsRequest bytes request n
    → SpellsRequest (take n bytes) request
BeginsRequest-spells bytes request n b =
    let size : length (take n bytes) ≡ n = let within = b.whole in grind (arith, common_steps, within) in
    let whole = subst (λ all. BeginsRequest all request n) (sym (take-append-drop n bytes)) b in
    subst (BeginsRequest (take n bytes) request) (sym size)
    (BeginsRequest-front (take n bytes) (drop n bytes) request n (omega (arith, size)) whole)
