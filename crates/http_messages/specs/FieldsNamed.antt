-- The values that an iterator over fields gives.
use Rattle.std.specs.Prelude.{ℕ, List, map}
use Rattle.httparse.specs.Spans.{header_bytes}
use Rattle.http_messages.specs.declared.fields.FieldsNamed.{FieldsNamed}
use Rattle.http_messages.specs.Head.{values_named}

-- the values that are still to come
abbrev pub values_left : FieldsNamed → List (List ℕ)
values_left f = values_named f.name.now (map (header_bytes f.block.now) f.spans.now)
