-- The line that reports a finding to programs.
use Rattle.std.specs.Prelude.{ℕ, List, ◌++◌, codes, Option, Some, None}
use Rattle.std.specs.Fmt.{decimal}
use Rattle.std.specs.Str.Lossy.{utf8_lossy}
use Rattle.serde_json.specs.Data.{string}
use Rattle.serde_json.specs.Written.{compact_text}
use Rattle.report_places.specs.declared.position.Position.{Position}
use Rattle.xbrl_report.specs.CodeNumber.{text_of}
use Rattle.xbrl_report.specs.Pair.{Pair}

-- a text as JSON
abbrev pub json_text : List ℕ → List ℕ
json_text text = compact_text (string text)

-- the text of a value as JSON, null if there is none
abbrev pub value_text : Option (List ℕ) → List ℕ
value_text None = codes "null"
value_text (Some text) = json_text (utf8_lossy text)

-- the first members of a JSON object, with these texts at their names, in byte order
abbrev pub front_part : List ℕ → Position → List ℕ → List ℕ
front_part code position file =
    codes "{\"code\":" ++ code ++ codes ",\"column\":" ++ decimal position.column
    ++ codes ",\"file\":" ++ file ++ codes ",\"line\":" ++ decimal position.line

-- the other members
abbrev pub back_part : List ℕ → List ℕ → List ℕ → List ℕ
back_part words place value =
    codes ",\"message\":" ++ words ++ codes ",\"place\":" ++ place ++ codes ",\"value\":" ++ value ++ codes "}\n"

abbrev pub object_line : List ℕ → Position → Pair → Option (List ℕ) → List ℕ → List ℕ
object_line file position pair value words =
    front_part (json_text (text_of pair.code)) position (json_text file)
    ++ back_part (json_text (utf8_lossy words)) (json_text pair.place) (value_text value)
