-- A request that closes, cut anywhere: no arrival, or it alone.
use Rattle.std.proofs.Common.{◌≡◌, ◌≢◌, ℕ, ◌+◌, ◌-◌, ◌<◌, ◌≤◌, true, false, List, [], ◌∷◌, ◌++◌, length, take, drop}
use Rattle.std.proofs.Common.{get_or, refl, sym, ap, ◌∙◌, subst, inl, inr, arith, length-append}
use Rattle.std.specs.Prelude.{slice_range, nat_eq}
use Rattle.std.proofs.Math.Seq.{take-append-add}
use Rattle.std.proofs.lemmas.Bool.{cases_lt}
use Rattle.std.proofs.lemmas.Bool.Decides.{nat_tests}
use Rattle.std.proofs.lemmas.Grind.{common_steps}
use Rattle.std.proofs.lemmas.List.{get_or-take, take-append-drop}
use Rattle.http_messages.specs.Block.{EndsAt, BeginsBlock, IsBlockEnd, IsTooLong, skipped_len, from_block}
use Rattle.http_messages.specs.Head.{RequestParts, IsHead, body_length, closes}
use Rattle.http_messages.specs.Message.{BeginsHead, SpellsRequest, IsRefused, Arrival, Read, Ending, Closed, Rest}
use Rattle.http_messages.specs.Message.{HasArrivals, awaits}
use Rattle.http_messages.specs.Posting.{HoldsAlone}
use Rattle.http_messages.specs.Request.{Request}
use Rattle.http_messages.specs.declared.refusal.Refusal.{Refusal}
use Rattle.http_messages.specs.declared.refusal.Refusal.TheVariants.{HeadTooLarge, Head}
use Rattle.http_messages.proofs.BlockLemmas.{EndsAt-within}
use Rattle.http_messages.proofs.MoreBytes.{EndsAt-more, BeginsBlock-more, IsBlockEnd-within}
use Rattle.http_messages.proofs.Unique.{BeginsHead-unique, IsRefused-excludes, HasArrivals-unique}

-- no CRLF is skipped before a text that begins with another byte
pub skipped_len-none : (bytes : List ℕ) → get_or bytes 0 0 ≢ 13 → skipped_len bytes ≡ 0
skipped_len-none [] other = refl
skipped_len-none (b ∷ bytes) other = let is : nat_eq 13 b ≡ false = grind (arith, nat_tests, other) in rw is refl

-- a block without such a start is the block of the bytes that it begins
pub IsBlockEnd-of_block : (block more : List ℕ) → get_or block 0 0 ≢ 13 → BeginsBlock block (length block)
    → IsBlockEnd (block ++ more) (length block)
IsBlockEnd-of_block block more other b =
    let within = EndsAt-within block (length block) b.ends in
    let first : get_or (block ++ more) 0 0 ≡ get_or block 0 0 = grind (arith, common_steps, within) in
    let skipped = skipped_len-none (block ++ more) (λ e. other (sym first ∙ e)) in (
      length block,
      subst (λ k. BeginsBlock (drop k (block ++ more)) (length block)) (sym skipped)
          (BeginsBlock-more block more (length block) b),
      omega (arith, skipped),
    )

pub block-of_block : (block more : List ℕ) → get_or block 0 0 ≢ 13 → BeginsBlock block (length block)
    → slice_range (block ++ more) (skipped_len (block ++ more)) (length block) ≡ block
block-of_block block more other b =
    let within = EndsAt-within block (length block) b.ends in
    let first : get_or (block ++ more) 0 0 ≡ get_or block 0 0 = grind (arith, common_steps, within) in
    let skipped = skipped_len-none (block ++ more) (λ e. other (sym first ∙ e)) in
    ap (λ k. slice_range (block ++ more) k (length block)) skipped ∙ grind (arith, common_steps)

-- and its front is none
pub IsBlockEnd-of_front : (block : List ℕ) (n m : ℕ) → get_or block 0 0 ≢ 13 → BeginsBlock block (length block)
    → n < length block → ¬ (IsBlockEnd (take n block) m)
IsBlockEnd-of_front block n m other b short e =
    let within = IsBlockEnd-within (take n block) m e in
    let size : length (take n block) ≡ n = grind (arith, common_steps) in
    let first : get_or (take n block) 0 0 ≡ get_or block 0 0 =
    get_or-take n block 0 0 (omega (arith, size, within.0)) in
    let skipped = skipped_len-none (take n block) (λ same. other (sym first ∙ same)) in
    let ends : EndsAt (take n block) e.0 = subst (λ k. EndsAt (drop k (take n block)) e.0) skipped e.1.ends in
    let whole : EndsAt block e.0 =
    subst (λ text. EndsAt text e.0) (take-append-drop n block)
    (EndsAt-more (take n block) (drop n block) e.0 ends) in
    b.first e.0 (omega (arith, (EndsAt-within (take n block) e.0 ends).1, size)) whole

pub IsTooLong-of_front : (block : List ℕ) (n : ℕ) → BeginsBlock block (length block) → n < length block
    → ¬ (IsTooLong (take n block))
IsTooLong-of_front block n b short t =
    let size : length (from_block (take n block)) ≤ n = grind (arith, common_steps) in
    omega (arith, size, t.full, b.short)

-- the fronts of two joined texts
cut-short : (xs ys : List ℕ) (n : ℕ) → n < length xs → take n (xs ++ ys) ≡ take n xs
cut-short xs ys n short = grind (arith, common_steps)

cut-part : (xs ys : List ℕ) (n : ℕ) → length xs ≤ n → take n (xs ++ ys) ≡ xs ++ take (n - length xs) ys
cut-part xs ys n past = let place : n ≡ length xs + (n - length xs) = omega arith in
    ap (λ k. take k (xs ++ ys)) place ∙ take-append-add xs ys (n - length xs)

part-less : (xs ys : List ℕ) (n : ℕ) → length xs ≤ n → n < length xs + length ys
    → length (take (n - length xs) ys) < length ys
part-less xs ys n past part = grind (arith, common_steps)

cut-whole : (xs ys : List ℕ) (n : ℕ) → length xs + length ys ≤ n → take n (xs ++ ys) ≡ xs ++ ys
cut-whole xs ys n all = grind (arith, common_steps)

module _ (block : List ℕ) (parts : RequestParts) (body : List ℕ) (b : BeginsBlock block (length block))
    (h : IsHead block parts) (size : body_length parts ≡ length body) where
  begins-head : (more : List ℕ) → BeginsHead (block ++ more) parts (length block)
  begins-head more = record {
    block = IsBlockEnd-of_block block more h.reads.lines.start b;
    head = subst (λ text. IsHead text parts) (sym (block-of_block block more h.reads.lines.start b)) h;
  }

  abbrev request : Request
  request = record { head = parts; body = body }

  -- the head and the body are the request
  pub SpellsRequest-of_block : SpellsRequest (block ++ body) request
  SpellsRequest-of_block = record {
    head_len = length block;
    head = begins-head body;
    length_is = length-append block body ∙ ap (λ n. length block + n) (sym size);
    whole = omega arith;
    body = grind (arith, common_steps);
  }

  -- the front of a head is a rest
  rest-before : (n : ℕ) → n < length block → HasArrivals (take n block) [] (Rest false)
  rest-before n short =
      let none = λ (m : ℕ). IsBlockEnd-of_front block n m h.reads.lines.start b short in (
        false,
        record {
          none = λ r m g. none g.head_len g.head.block;
          refused = refused;
        },
        λ q m g. absurd (none m g.block),
        refl,
      )
    where
      refused : (refusal : Refusal) → ¬ (IsRefused (take n block) refusal)
      refused HeadTooLarge t = IsTooLong-of_front block n b short t
      refused (Head fault) r = IsBlockEnd-of_front block n r.0 h.reads.lines.start b short r.1

  -- and so are the head and the front of the body, where no interim response is asked for
  rest-after : (more : List ℕ) → awaits parts ≡ false → length more < length body
      → HasArrivals (block ++ more) [] (Rest false)
  rest-after more silent short = (
    false,
    record {
      none = λ r m g.
          let same =
          BeginsHead-unique (block ++ more) r.head parts g.head_len (length block) g.head (begins-head more) in
          let needs : body_length r.head ≡ length body = ap body_length same.0 ∙ size in
          omega (arith, g.whole, g.length_is, same.1, needs, length-append block more);
      refused = λ refusal. IsRefused-excludes (block ++ more) parts (length block) refusal (begins-head more);
    },
    λ q m g. ap awaits (BeginsHead-unique (block ++ more) q parts m (length block) g (begins-head more)).0 ∙ silent,
    refl,
  )

  whole-arrivals : closes parts ≡ true → HasArrivals (block ++ body) (Read request ∷ []) Closed
  whole-arrivals last = (length (block ++ body), SpellsRequest-of_block, (λ _. (refl, refl)), λ not. cc)

  -- a front of the request holds nothing, or all of it
  pub HoldsAlone-of_front : (n : ℕ) (arrivals : List Arrival) (ending : Ending) → awaits parts ≡ false
      → closes parts ≡ true
      → HasArrivals (take n (block ++ body)) arrivals ending → HoldsAlone request arrivals ending
  HoldsAlone-of_front n arrivals ending silent last k = elim (cases_lt n (length block)) [
    | inl short ↦
        let cut = cut-short block body n short in
        let same =
        HasArrivals-unique (take n block) arrivals [] ending (Rest false)
        (subst (λ t. HasArrivals t arrivals ending) cut k) (rest-before n short) in
        inl (same.0, same.1)
    | inr past ↦ elim (cases_lt n (length block + length body)) [
      | inl part ↦
          let cut = cut-part block body n past in
          let less = part-less block body n past part in
          let same =
          HasArrivals-unique (block ++ take (n - length block) body) arrivals [] ending (Rest false)
          (subst (λ t. HasArrivals t arrivals ending) cut k)
          (rest-after (take (n - length block) body) silent less) in
          inl (same.0, same.1)
      | inr all ↦
          let cut = cut-whole block body n all in
          let same =
          HasArrivals-unique (block ++ body) arrivals (Read request ∷ []) ending Closed
          (subst (λ t. HasArrivals t arrivals ending) cut k) (whole-arrivals last) in
          inr (same.0, same.1)
    ]
  ]
