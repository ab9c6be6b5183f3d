-- What the offsets of a head say of its block.
use Rattle.std.specs.Prelude.{◌≡◌, ℕ, ◌≤◌, None, List, length, map, All}
use Rattle.httparse.specs.Spans.{span_bytes, header_bytes, IsWithin, IsHeaderWithin}
use Rattle.http_messages.specs.declared.head.HeadSpans.{HeadSpans}
use Rattle.http_messages.specs.declared.head.Framing.{Framing}
use Rattle.http_messages.specs.Head.{RequestParts, closes, expects, body_length, framing_fault}

-- the parts that the spans cover
abbrev pub parts_at : List ℕ → HeadSpans → RequestParts
parts_at block spans = record {
  method = span_bytes block spans.method;
  path = span_bytes block spans.path;
  minor = spans.minor;
  fields = map (header_bytes block) spans.fields.items;
}

-- the spans lie in the block
pub record IsHeadWithin (block : List ℕ) (spans : HeadSpans) : Type 0 where
  pub method : IsWithin (length block) spans.method
  pub path : IsWithin (length block) spans.path
  pub few : length spans.fields.items ≤ 64
  pub fields : All (IsHeaderWithin (length block)) spans.fields.items

-- what the head says of the rest of its message
pub record IsFramingOf (parts : RequestParts) (framing : Framing) : Type 0 where
  pub sound : framing_fault parts ≡ None
  pub body_len : framing.body_len ≡ body_length parts
  pub expects : framing.expects ≡ expects parts
  pub closes : framing.closes ≡ closes parts

-- the spans lie in the block, and the framing is that of the parts that they cover
abbrev pub IsHeadAt : List ℕ → HeadSpans → Framing → Type 0
IsHeadAt block spans framing = IsHeadWithin block spans × IsFramingOf (parts_at block spans) framing
