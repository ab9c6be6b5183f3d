-- The parts that an iterator over the parts of fields gives.
use Rattle.std.specs.Prelude.{ℕ, List, ◌++◌, map, option_copied}
use Rattle.std.specs.List.{flat_map}
use Rattle.httparse.specs.Ascii.{comma}
use Rattle.httparse.specs.Grammar.{trim_ows}
use Rattle.http_messages.specs.declared.parts.Parts.{Parts}
use Rattle.http_messages.specs.FieldsNamed.{values_left}
use Rattle.http_messages.specs.Head.{comma_parts}
use Rattle.http_messages.specs.Parts.{later_parts}

-- the parts that are still to come: those of the value that was begun, and those of the later values
abbrev pub parts_left : Parts → List (List ℕ)
parts_left p = map trim_ows (later_parts comma (option_copied p.rest)) ++ flat_map comma_parts (values_left p.values)
