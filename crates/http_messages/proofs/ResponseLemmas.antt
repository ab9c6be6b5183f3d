-- The head of a response and the spans that cover it.
use Rattle.std.proofs.Common.{◌≡◌, ◌≤◌, ℕ, List, [], length, take, drop, map, arith}
use Rattle.std.proofs.lemmas.Grind.{common_steps}
use Rattle.httparse.specs.declared.spans.HeaderSpan.{HeaderSpan}
use Rattle.httparse.specs.declared.spans.ResponseSpans.{ResponseSpans}
use Rattle.httparse.specs.Spans.{header_bytes, IsResponseWithin, IsResponseOf}
use Rattle.http_messages.specs.Head.{HasPlainLines}
use Rattle.http_messages.specs.Response.{ResponseParts, ReadsResponseHead}
use Rattle.http_messages.proofs.HeadLemmas.{fields-few}

-- the parts that they cover
abbrev pub response_parts : List ℕ → List HeaderSpan → ResponseSpans → ResponseParts
response_parts block headers r = record { status = r.code; fields = map (header_bytes block) (take r.headers headers) }

-- a whole block is a head with these parts
pub ReadsResponseHead-parsed : (block : List ℕ) (headers : List HeaderSpan) (r : ResponseSpans) → length headers ≡ 64
    → r.len ≡ length block
    → HasPlainLines block → IsResponseWithin block headers r → IsResponseOf block headers r
    → ReadsResponseHead block (response_parts block headers r)
ReadsResponseHead-parsed block headers r room whole lines within read =
    let at = read.1 in
    let rest : drop r.len block ≡ [] = grind (arith, common_steps) in
    let short : length (take r.headers headers) ≤ 64 = grind (arith, common_steps, room, within.section.count_fits) in
    record {
      lines = lines;
      head = read.0;
      reads = rw rest at at.reads;
      few = fields-few block (take r.headers headers) read.0.fields short at.fields;
      status = at.code;
      fields = at.fields;
    }
