-- The line that shows a fact.
use Rattle.std.specs.Prelude.{ℕ, ℤ, List, ◌++◌, codes, Option, Some, None}
use Rattle.serde_json.specs.Data.{Data, null, number, string}
use Rattle.serde_json.specs.Find.{of_integer}
use Rattle.serde_json.specs.Written.{compact_text}
use Rattle.xbrl_report.specs.FactRecord.{FactRecord}

-- the value, null where there is none
abbrev pub value_data : Option (List ℕ) → Data
value_data None = null
value_data (Some text) = string text

-- the decimals, null where there are none
abbrev pub decimals_data : Option ℤ → Data
decimals_data None = null
decimals_data (Some z) = number (of_integer z)

-- the JSON object with these texts at its names, in byte order
abbrev pub line_of : List ℕ → List ℕ → List ℕ → List ℕ → List ℕ → List ℕ
line_of concept decimals dimensions id value =
    codes "{\"concept\":" ++ concept
    ++ codes ",\"decimals\":" ++ decimals
    ++ codes ",\"dimensions\":" ++ dimensions
    ++ codes ",\"id\":" ++ id
    ++ codes ",\"value\":" ++ value
    ++ codes "}"

-- A fact's parts as compact JSON. Its dimensions are the text of an object already, which stands there as it is.
unfoldable pub fact_line : FactRecord → List ℕ
fact_line f =
    line_of (compact_text (string f.concept)) (compact_text (decimals_data f.decimals)) f.dimensions
    (compact_text (string f.id)) (compact_text (value_data f.value))
