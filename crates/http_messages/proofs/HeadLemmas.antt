-- The parts of a head and the spans that cover them.
use Rattle.std.proofs.Common.{◌≡◌, ℕ, ◌+◌, ◌-◌, ◌≤◌, Bool, true, false, List, [], length, take, drop, map, sym, ap, ◌∙◌}
use Rattle.std.proofs.Common.{subst, arith}
use Rattle.std.specs.Prelude.{nat_eq, nat_lt, not, slice_range, Some, None, if◌then◌else◌}
use Rattle.std.specs.List.{ends_with}
use Rattle.std.proofs.lemmas.Grind.{common_steps}
use Rattle.std.proofs.lemmas.List.{drop-take}
use Rattle.std.proofs.lemmas.Slice.Eq.{bytes_eq-Decides}
use Rattle.httparse.specs.declared.spans.HeaderSpan.{HeaderSpan}
use Rattle.httparse.specs.declared.spans.RequestSpans.{RequestSpans}
use Rattle.httparse.specs.declared.spans.Span.{Span}
use Rattle.httparse.specs.Grammar.{Field}
use Rattle.httparse.specs.Spans.{span_bytes, header_bytes, name_and_value, IsWithin, IsRequestWithin, IsRequestOf}
use Rattle.http_messages.specs.Head.{RequestParts, HasPlainLines, ReadsHead, IsHeadFault, before_query, written_path}
use Rattle.http_messages.specs.Head.{framing_fault, has_host_fault, has_coding, agree, lengths, lacks_length}
use Rattle.http_messages.specs.Head.{body_length, max_body_len}
use Rattle.http_messages.specs.declared.head.HeadSpans.{HeadSpans}
use Rattle.http_messages.specs.Spans.{parts_at, IsHeadWithin}
use Rattle.http_uri.specs.Uri.{Spells, uri_path}
use Rattle.http_messages.specs.Target.{IsPathOf}
use Rattle.http_messages.specs.declared.head.HeadFault.{HeadFault}
use Rattle.http_messages.specs.declared.head.HeadFault.TheVariants.{Malformed, Host, Coding, Length, NoLength, TooLarge}
use Rattle.http_messages.specs.declared.head.HeadFault.TheVariants.{Memory}

-- a front of a part stands where the part does
front-of_part : (xs : List ℕ) (a b c : ℕ) → take (length (take a (take b (take c xs)))) xs ≡ take a (take b (take c xs))
front-of_part xs a b c = grind (arith, common_steps)

-- what is left of a target before its query stands where the target does
pub before_query-at : (block : List ℕ) (start end : ℕ)
    → take (length (before_query (slice_range block start end))) (drop start block)
    ≡ before_query (slice_range block start end)
before_query-at block start end = front-of_part (drop start block) _ _ (end - start)

-- it has no more bytes than the part
front-short : (xs : List ℕ) (a b c : ℕ) → length (take a (take b (take c xs))) ≤ c
front-short xs a b c = grind (arith, common_steps)

-- and it ends where the target does, or before
pub before_query-end : (block text shown : List ℕ) (target : Span) → IsWithin (length block) target
    → text ≡ span_bytes block target → shown ≡ before_query text → target.start + length shown ≤ target.end
before_query-end block text shown target within covers is =
    let short : length shown ≤ target.end - target.start =
    rw (is, covers) (front-short (drop target.start block) _ _ (target.end - target.start)) in
    omega (arith, within.0, short)

-- the end of a front, by its place
pub end-at : (block shown : List ℕ) (start len : ℕ) → take (length shown) (drop start block) ≡ shown
    → len ≤ length shown
    → slice_range block (start + length shown - len) (start + length shown) ≡ drop (length shown - len) shown
end-at block shown start len front short =
    let n = length shown in
    let whole : (n - len) + len ≡ n = omega arith in
    let cut = drop-take (n - len) len (drop start block) in
    let size : (start + n) - (start + n - len) ≡ len = omega arith in
    let place : start + (n - len) ≡ start + n - len = omega arith in
    rw (size) (sym (ap (λ k. take len (drop k block)) place) ∙ grind (arith, common_steps, cut, front, whole))

-- what a target without its query ends with is the path that it writes
pub written_path-at : (target shown path : List ℕ) (r : Bool) (len : ℕ) → shown ≡ before_query target
    → r ≡ ends_with nat_eq shown path → len ≡ (if r then length path else 0)
    → drop (length shown - len) shown ≡ written_path target path
written_path-at target shown path true len s e l =
    let same : path ≡ drop (length shown - length path) shown =
    (bytes_eq-Decides path (drop (length shown - length path) shown)).0 (sym e) in
    let test : ends_with nat_eq (before_query target) path ≡ true = ap (λ t. ends_with nat_eq t path) (sym s) ∙ sym e in
    rw (l, test) (sym same)
written_path-at target shown path false len s e l =
    let test : ends_with nat_eq (before_query target) path ≡ false =
    ap (λ t. ends_with nat_eq t path) (sym s) ∙ sym e in
    rw (l, test) (grind (arith, common_steps))

-- fields that no more spans cover than there may be are no more either
pub fields-few : (block : List ℕ) (spans : List HeaderSpan) (fields : List Field) → length spans ≤ 64
    → map (header_bytes block) spans ≡ map name_and_value fields → length fields ≤ 64
fields-few block spans fields few same = grind (arith, common_steps, ap length same)

-- the spans are those of a parsed head, with that of its path
pub record AreSpansOf (r : RequestSpans) (headers : List HeaderSpan) (path : Span) (spans : HeadSpans) : Type 0 where
  pub method : spans.method ≡ r.method
  pub path_is : spans.path ≡ path
  pub minor : spans.minor ≡ r.version
  pub fields : spans.fields.items ≡ take r.headers headers

module _ (block : List ℕ) (headers : List HeaderSpan) (r : RequestSpans) (path : Span) (spans : HeadSpans)
    (room : length headers ≡ 64) (whole : r.len ≡ length block) (are : AreSpansOf r headers path spans) where
  few : IsRequestWithin block headers r → length spans.fields.items ≤ 64
  few within = grind (arith, common_steps, ap length are.fields, within.section.count_fits)

  -- they lie in the block
  pub IsHeadWithin-parsed : IsRequestWithin block headers r → IsWithin (length block) path → IsHeadWithin block spans
  IsHeadWithin-parsed within place = record {
    method = rw (are.method, ← whole) within.method;
    path = rw are.path_is place;
    few = few within;
    fields = rw (are.fields, ← whole) within.section.headers_fit;
  }

  -- and cover a head that the block is
  pub ReadsHead-parsed : HasPlainLines block → IsRequestWithin block headers r → IsRequestOf block headers r
      → IsPathOf (span_bytes block r.path) (span_bytes block path)
      → ReadsHead block (parts_at block spans)
  ReadsHead-parsed lines within read target =
      let at = read.1 in
      let rest : drop r.len block ≡ [] = grind (arith, common_steps) in
      let covered : map (header_bytes block) spans.fields.items ≡ map name_and_value read.0.fields =
      rw are.fields at.fields in
      record {
        lines = lines;
        head = read.0;
        reads = rw rest at at.reads;
        few = fields-few block spans.fields.items read.0.fields (few within) covered;
        target = target.0;
        spells = subst (λ text. Spells text target.0) at.path target.1;
        method = rw are.method at.method;
        path = rw are.path_is (subst (λ text. span_bytes block path ≡ written_path text (uri_path target.0)) at.path
            target.2);
        minor = are.minor ∙ at.version;
        fields = covered;
      }

-- no head that is read has the fault of one that isn't
framing-sound : (host coding agreed lacking large : Bool)
    → ¬ ((if host then Some Host else (if coding then Some Coding
    else (if not agreed then Some Length else (if lacking then Some NoLength
    else (if large then Some TooLarge else None))))) ≡ Some Malformed)
framing-sound true coding agreed lacking large e = cc
framing-sound false true agreed lacking large e = cc
framing-sound false false false lacking large e = cc
framing-sound false false true true large e = cc
framing-sound false false true false true e = cc
framing-sound false false true false false e = cc

-- the first fault of a head that is read is the block's
pub head_fault_of_framing : (block : List ℕ) (parts : RequestParts) (fault : HeadFault) → ReadsHead block parts
    → framing_fault parts ≡ Some fault → IsHeadFault block fault
head_fault_of_framing block parts Malformed reads e =
    absurd (framing-sound (has_host_fault parts) (has_coding parts) (agree (lengths parts)) (lacks_length parts)
    (nat_lt max_body_len (body_length parts)) e)
head_fault_of_framing block parts Host reads e = (parts, reads, e)
head_fault_of_framing block parts Coding reads e = (parts, reads, e)
head_fault_of_framing block parts Length reads e = (parts, reads, e)
head_fault_of_framing block parts NoLength reads e = (parts, reads, e)
head_fault_of_framing block parts TooLarge reads e = (parts, reads, e)
head_fault_of_framing block parts Memory reads e = tt
