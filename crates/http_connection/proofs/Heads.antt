-- A head at the front of the bytes, and what follows from it.
use Rattle.std.proofs.Common.{◌≡◌, ℕ, ◌+◌, ◌<◌, ◌≤◌, Bool, true, false, List, ◌++◌, length, None, refl}
use Rattle.std.proofs.Common.{sym, ap, ap₂, ◌∙◌, subst, arith, nat_lt, ◌&&◌, append_assoc}
use Rattle.std.specs.Prelude.{slice_range}
use Rattle.std.proofs.lemmas.Bool.Decides.{nat_tests}
use Rattle.std.proofs.lemmas.Grind.{common_steps}
use Rattle.http_messages.specs.Block.{IsUnended, HasNoEndUpTo, from_block}
use Rattle.http_messages.specs.Head.{RequestParts, framing_fault, body_length, max_body_len}
use Rattle.http_messages.specs.Message.{BeginsHead, BeginsRequest, IsRefused, IsRest, Asks, awaits}
use Rattle.http_messages.specs.Spans.{parts_at, IsHeadAt}
use Rattle.http_messages.specs.declared.refusal.Refusal.{Refusal}
use Rattle.http_messages.specs.declared.refusal.Refusal.TheVariants.{HeadTooLarge, Head}
use Rattle.http_messages.proofs.MoreBytes.{slice_range-more, skipped_len-more, skipped_len-within, IsBlockEnd-within}
use Rattle.http_messages.proofs.MoreBytes.{BeginsHead-more}
use Rattle.http_messages.proofs.Unique.{BeginsHead-unique, IsRefused-excludes}
use Rattle.http_connection.specs.Parsed.{parsed_end, parsed_request, awaits_of, IsHeadOf, IsPlaced}
use Rattle.http_connection.specs.declared.parsed.Parsed.{Parsed}

-- the parts of the head
abbrev pub head_parts : List ℕ → Parsed → RequestParts
head_parts bytes p = parts_at (slice_range bytes p.start p.end) p.spans

pub body_length-bound : (p : RequestParts) → framing_fault p ≡ None → body_length p ≤ max_body_len
body_length-bound p sound = grind (arith, nat_tests, sound)

-- a head that begins the bytes lies in them
pub IsPlaced-head : (bytes : List ℕ) (p : Parsed) → IsHeadOf bytes p → IsPlaced bytes p
IsPlaced-head bytes p h =
    let block = h.begins.block in
    let within = IsBlockEnd-within bytes p.end block in
    let skipped = skipped_len-within bytes within.0 in
    let body = body_length-bound (head_parts bytes p) h.at.1.sound in
    record {
      ordered = omega (arith, h.start, within.1);
      within = within.2;
      bound = omega (arith, block.1.short, block.2, skipped, body, h.at.1.body_len);
      at = h.at;
    }

-- more bytes leave the head as it was
pub IsPlaced-more : (bytes more : List ℕ) (p : Parsed) → IsPlaced bytes p → IsPlaced (bytes ++ more) p
IsPlaced-more bytes more p h =
    let same : slice_range bytes p.start p.end ≡ slice_range (bytes ++ more) p.start p.end =
    sym (slice_range-more bytes more p.start p.end h.within) in
    let within = h.within in
    record {
      ordered = h.ordered;
      within = grind (arith, common_steps, within);
      bound = h.bound;
      at = subst (λ block. IsHeadAt block p.spans p.framing) same h.at;
    }

pub IsHeadOf-more : (bytes more : List ℕ) (p : Parsed) → IsHeadOf bytes p → IsHeadOf (bytes ++ more) p
IsHeadOf-more bytes more p h =
    let same : slice_range bytes p.start p.end ≡ slice_range (bytes ++ more) p.start p.end =
    sym (slice_range-more bytes more p.start p.end (IsPlaced-head bytes p h).within) in
    let four = (IsBlockEnd-within bytes p.end h.begins.block).0 in
    record {
      start = h.start ∙ sym (skipped_len-more bytes more four);
      begins = subst (λ block. BeginsHead (bytes ++ more) (parts_at block p.spans) p.end) same
          (BeginsHead-more bytes more (head_parts bytes p) p.end h.begins);
      at = subst (λ block. IsHeadAt block p.spans p.framing) same h.at;
    }

-- with its whole body it is a request
pub BeginsRequest-whole : (bytes : List ℕ) (p : Parsed) → IsHeadOf bytes p → parsed_end p ≤ length bytes
    → BeginsRequest bytes (parsed_request bytes p) (parsed_end p)
BeginsRequest-whole bytes p h whole = record {
  head_len = p.end;
  head = h.begins;
  length_is = ap (λ len. p.end + len) h.at.1.body_len;
  whole = whole;
  body = refl;
}

-- without it, less
pub IsRest-cut : (bytes : List ℕ) (p : Parsed) → IsHeadOf bytes p → length bytes < parsed_end p → IsRest bytes
IsRest-cut bytes p h cut = record {
  none = λ request n begins.
      let same = BeginsHead-unique bytes (head_parts bytes p) request.head p.end begins.head_len h.begins begins.head in
      let len = ap body_length same.0 in
      omega (arith, begins.length_is, begins.whole, same.1, len, h.at.1.body_len, cut);
  refused = λ refusal refused. IsRefused-excludes bytes (head_parts bytes p) p.end refusal h.begins refused;
}

pub Asks-of : (bytes : List ℕ) (parts : RequestParts) (n : ℕ) (asks : Bool) → BeginsHead bytes parts n
    → asks ≡ awaits parts → Asks bytes asks
Asks-of bytes parts n true h is = (parts, n, h, sym is)
Asks-of bytes parts n false h is = λ other m begins.
    let same = BeginsHead-unique bytes parts other n m h begins in
    ap awaits (sym same.0) ∙ sym is

-- the bytes ask for an interim response where the head does
pub Asks-head : (bytes : List ℕ) (p : Parsed) → IsHeadOf bytes p → Asks bytes (awaits_of p)
Asks-head bytes p h =
    Asks-of bytes (head_parts bytes p) p.end (awaits_of p) h.begins
    (ap₂ (λ e n. e && nat_lt 0 n) h.at.1.expects h.at.1.body_len)

-- bytes without a block ask for nothing, and are no request
pub Asks-unended : (bytes : List ℕ) → IsUnended bytes → Asks bytes false
Asks-unended bytes u = λ parts n head. absurd (u.unended head.block.0 head.block.1.short head.block.1.ends)

not_refused : (bytes : List ℕ) (refusal : Refusal) → IsUnended bytes → ¬ (IsRefused bytes refusal)
not_refused bytes HeadTooLarge u r = omega (arith, r.full, u.room)
not_refused bytes (Head fault) u r = u.unended r.1.0 r.1.1.short r.1.1.ends

pub IsRest-unended : (bytes : List ℕ) → IsUnended bytes → IsRest bytes
IsRest-unended bytes u = record {
  none = λ request n begins. u.unended begins.head.block.0 begins.head.block.1.short begins.head.block.1.ends;
  refused = λ refusal. not_refused bytes refusal u;
}

-- what has no end so far has none in what follows
pub unended-more : (bytes more : List ℕ) (searched : ℕ)
    → ((rest : List ℕ) → HasNoEndUpTo (from_block (bytes ++ rest)) searched) → (rest : List ℕ)
    → HasNoEndUpTo (from_block ((bytes ++ more) ++ rest)) searched
unended-more bytes more searched known rest =
    subst (λ all. HasNoEndUpTo (from_block all) searched) (sym (append_assoc bytes more rest)) (known (more ++ rest))
