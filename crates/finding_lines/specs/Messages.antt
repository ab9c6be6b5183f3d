-- The sentence of a finding.
use Rattle.std.specs.Prelude.{ℕ, ◌==◌, List, [], ◌∷◌, ◌++◌, length, drop, nat_lt, if◌then◌else◌, codes, Option, Some}
use Rattle.std.specs.Prelude.{None}
use Rattle.std.specs.List.{after_last}
use Rattle.report_places.specs.Shown.{scalar, value_text}
use Rattle.report_places.specs.declared.place.ValuePlace.{ValuePlace}
use Rattle.xbrl_report.specs.Pair.{Pair}
use Rattle.xbrl_report.specs.declared.code.Code.{Code}
use Rattle.xbrl_report.specs.declared.code.Code.TheVariants.{NotJson, NotObject, DocumentInfo, DocumentType, Namespaces}
use Rattle.xbrl_report.specs.declared.code.Code.TheVariants.{NamespaceUri, Taxonomy, Facts, Fact, Value, Decimals}
use Rattle.xbrl_report.specs.declared.code.Code.TheVariants.{Dimensions, ConceptMissing, EntityMissing, DimensionValue}
use Rattle.xbrl_report.specs.declared.code.Code.TheVariants.{Name, UnboundPrefix, NotTheFiler, Period, PeriodOrder}
use Rattle.xbrl_report.specs.declared.code.Code.TheVariants.{UnitForm, Number, Language, UnknownDimension, TooMany}
use Rattle.xbrl_report.specs.declared.code.Code.TheVariants.{NotReplaceable}

-- what is wrong with what the sentence is about, which stands before it
abbrev pub phrase : Code → List ℕ
phrase NotJson = codes "is not valid JSON"
phrase NotObject = codes "is not an object"
phrase DocumentInfo = codes "is not an object"
phrase DocumentType = codes "is not https://xbrl.org/2021/xbrl-json"
phrase Namespaces = codes "is not an object"
phrase NamespaceUri = codes "is not a string"
phrase Taxonomy = codes "is not a string in a list of taxonomies, or not such a list"
phrase Facts = codes "is not an object"
phrase Fact = codes "is not an object"
phrase Value = codes "is neither a string nor null"
phrase Decimals = codes "is not a whole number of 64 bits"
phrase Dimensions = codes "is not an object"
phrase ConceptMissing = codes "has no concept"
phrase EntityMissing = codes "has no entity"
phrase DimensionValue = codes "is not a string"
phrase Name = codes "or the name of its dimension has the wrong form"
phrase UnboundPrefix = codes "or the name of its dimension has a prefix that is not bound"
phrase NotTheFiler = codes "is not the filer"
phrase Period = codes "is not a period"
phrase PeriodOrder = codes "does not begin before it ends"
phrase UnitForm = codes "is not a unit"
phrase Number = codes "is not a number"
phrase Language = codes "is not a language"
phrase UnknownDimension = codes "is not a known dimension"
phrase TooMany = codes "has more findings than are shown"
phrase NotReplaceable = codes "may not replace that filing"

-- what stands behind a value that is shown in part
abbrev pub dots : List ℕ → List ℕ → List ℕ
dots shown whole = if nat_lt (length shown) (length whole) then codes "..." else []

abbrev pub bracket_words : List ℕ → List ℕ
bracket_words [] = codes "the object"
bracket_words (b ∷ bytes) = if b == 91 then codes "the array" else codes "the object"

abbrev subject_of : Option (List ℕ) → Option (List ℕ) → List ℕ → List ℕ
subject_of (Some shown) (Some whole) bytes = shown ++ dots shown whole
subject_of _ _ bytes = bracket_words bytes

-- the value with which the bytes begin: 60 characters of a string, a number or a literal as they are in the text, or
-- words
abbrev pub subject : List ℕ → List ℕ
subject bytes = subject_of (value_text bytes) (scalar bytes) bytes

-- the name of a member, behind the last slash of the pointer to it (RFC 6901, section 3: in a name `~1` stands for a
-- slash, and `~0` for a tilde)
abbrev pub last_name : List ℕ → List ℕ
last_name pointer = after_last (λ b. b == 47) pointer

-- what a finding at the end of this pointer is about: the value there, or the name of a dimension that is not known
abbrev pub about : Code → List ℕ → List ℕ → List ℕ
about UnknownDimension pointer bytes = codes "\"" ++ last_name pointer ++ codes "\""
about other pointer bytes = subject bytes

abbrev pub message : List ℕ → ValuePlace → Pair → List ℕ
message body place finding =
    if place.is_there then about finding.code finding.place (drop place.offset body) ++ codes " " ++ phrase finding.code
    else codes "the member is missing"

-- the string, number or literal at a place, as it is in the body
abbrev pub value : List ℕ → ValuePlace → Option (List ℕ)
value body place = if place.is_there then scalar (drop place.offset body) else None
