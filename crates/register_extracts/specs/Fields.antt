-- Records of facts: CSV (RFC 4180, section 2), and JSON (RFC 8259) on lines. Which fields there are is an own rule.
use Rattle.std.specs.Prelude.{ℕ, ◌==◌, List, [], ◌∷◌, ◌++◌, codes, Option, Some, None}
use Rattle.std.specs.Prelude.{if◌then◌else◌}
use Rattle.std.specs.List.{flat_map}
use Rattle.std.specs.Fmt.{decimal, signed_decimal}
use Rattle.serde_json.specs.Data.{Data, string}
use Rattle.serde_json.specs.Read.{read}
use Rattle.serde_json.specs.Written.{compact_text}
use Rattle.xbrl_report.specs.FactRecord.{FactRecord}
use Rattle.register_store.specs.Moments.{milliseconds_of}
use Rattle.register_extracts.specs.Text.{moment_text}
use Rattle.register_extracts.specs.Dimensions.{dimension, other_dimensions}
use Rattle.register_extracts.specs.declared.facts.aspects.Aspects.{Aspects as HeldAspects}
use Rattle.register_extracts.specs.declared.facts.record.FactForm.{FactForm}
use Rattle.register_extracts.specs.declared.facts.record.FactForm.TheVariants.{Csv, JsonLines}
use Rattle.register_extracts.specs.declared.facts.record.Fields.{Fields as Held}
use Rattle.register_extracts.specs.declared.facts.record.FilingHead.{FilingHead}

-- ---- what a record says

-- what a record says of the filing of a fact: its number, who filed it, under which key, which filing replaces it, and
-- when it was received, in milliseconds since 1970-01-01T00:00:00Z
pub record Head : Type 0 where
  pub number : ℕ
  pub filer : List ℕ
  pub key : List ℕ
  pub replaced_by : Option ℕ
  pub received : Option ℕ

-- ---- how a field is written

-- a quote within quotes is written twice
abbrev pub doubled : ℕ → List ℕ
doubled b = if b == 34 then 34 ∷ 34 ∷ [] else b ∷ []

-- a text in quotes
abbrev pub quoted : List ℕ → List ℕ
quoted text = codes "\"" ++ flat_map doubled text ++ codes "\""

-- In CSV a text is in quotes, so that an empty text is another field than no value, which is empty without quotes.
abbrev pub text_field : FactForm → List ℕ → List ℕ
text_field Csv text = quoted text
text_field JsonLines text = compact_text (string text)

abbrev pub absent : FactForm → List ℕ
absent Csv = []
absent JsonLines = codes "null"

-- a value, written by this function, if there is one
abbrev pub field_or_absent : {X : Type 0} → FactForm → (X → List ℕ) → Option X → List ℕ
field_or_absent form written None = absent form
field_or_absent form written (Some x) = written x

-- a moment: its text, in UTC
abbrev pub moment_field : FactForm → ℕ → List ℕ
moment_field form moment = text_field form (moment_text moment)

-- a JSON object: as the text of one in CSV, and as itself in a line of JSON
abbrev pub object_field : FactForm → Data → List ℕ
object_field Csv d = quoted (compact_text d)
object_field JsonLines d = compact_text d

-- the fields of a fact that its dimensions have, as they are written
pub record Aspects : Type 0 where
  pub entity : List ℕ
  pub period : List ℕ
  pub unit : List ℕ
  pub language : List ℕ
  pub note_id : List ℕ
  pub dimensions : List ℕ

-- the text of the dimension of this name, if there is one
abbrev pub dimension_field : FactForm → Option Data → List ℕ → List ℕ
dimension_field form tree name = field_or_absent form (text_field form) (dimension tree name)

abbrev pub aspects : FactForm → Option Data → Aspects
aspects form tree = record {
  entity = dimension_field form tree (codes "entity");
  period = dimension_field form tree (codes "period");
  unit = dimension_field form tree (codes "unit");
  language = dimension_field form tree (codes "language");
  note_id = dimension_field form tree (codes "noteId");
  dimensions = field_or_absent form (object_field form) (other_dimensions tree);
}

-- the fields, as they are written
pub record Fields : Type 0 where
  pub number : List ℕ
  pub filer : List ℕ
  pub key : List ℕ
  pub id : List ℕ
  pub concept : List ℕ
  pub aspects : Aspects
  pub value : List ℕ
  pub decimals : List ℕ
  pub replaced_by : List ℕ
  pub received : List ℕ

abbrev pub fields : FactForm → Head → FactRecord → Fields
fields form head fact = record {
  number = decimal head.number;
  filer = text_field form head.filer;
  key = text_field form head.key;
  id = text_field form fact.id;
  concept = text_field form fact.concept;
  aspects = aspects form (read fact.dimensions);
  value = field_or_absent form (text_field form) fact.value;
  decimals = field_or_absent form signed_decimal fact.decimals;
  replaced_by = field_or_absent form decimal head.replaced_by;
  received = field_or_absent form (moment_field form) head.received;
}

-- ---- the lines

-- fields with commas between them, and CR LF at the end
unfoldable pub csv_record : Fields → List ℕ
csv_record f =
    f.number ++ codes "," ++ f.filer ++ codes "," ++ f.key ++ codes "," ++ f.id ++ codes "," ++ f.concept
    ++ codes "," ++ f.aspects.entity ++ codes "," ++ f.aspects.period ++ codes "," ++ f.aspects.unit
    ++ codes "," ++ f.aspects.language ++ codes "," ++ f.aspects.note_id ++ codes "," ++ f.aspects.dimensions
    ++ codes "," ++ f.value ++ codes "," ++ f.decimals ++ codes "," ++ f.replaced_by ++ codes "," ++ f.received
    ++ codes "\r\n"

-- an object with members of these names, in this order, and LF at the end
unfoldable pub json_line : Fields → List ℕ
json_line f =
    codes "{\"number\":" ++ f.number ++ codes ",\"filer\":" ++ f.filer ++ codes ",\"key\":" ++ f.key
    ++ codes ",\"id\":" ++ f.id ++ codes ",\"concept\":" ++ f.concept
    ++ codes ",\"entity\":" ++ f.aspects.entity ++ codes ",\"period\":" ++ f.aspects.period
    ++ codes ",\"unit\":" ++ f.aspects.unit ++ codes ",\"language\":" ++ f.aspects.language
    ++ codes ",\"note_id\":" ++ f.aspects.note_id ++ codes ",\"dimensions\":" ++ f.aspects.dimensions
    ++ codes ",\"value\":" ++ f.value
    ++ codes ",\"decimals\":" ++ f.decimals ++ codes ",\"replaced_by\":" ++ f.replaced_by
    ++ codes ",\"received\":" ++ f.received ++ codes "}\n"

abbrev pub record_of : FactForm → Fields → List ℕ
record_of Csv f = csv_record f
record_of JsonLines f = json_line f

-- the record of a fact
abbrev pub record_text : FactForm → Head → FactRecord → List ℕ
record_text form head fact = record_of form (fields form head fact)

-- CSV has the names of the fields first
abbrev pub first_line : FactForm → List ℕ
first_line Csv =
    codes "number,filer,key,id,concept,entity,period,unit,language,note_id,dimensions,value,decimals,replaced_by,"
    ++ codes "received\r\n"
first_line JsonLines = []

-- ---- as code holds it

abbrev pub view_head : FilingHead → Head
view_head h = record {
  number = h.number;
  filer = h.filer.now;
  key = h.key.now;
  replaced_by = h.replaced_by;
  received = milliseconds_of h.received;
}

abbrev pub view_aspects : HeldAspects → Aspects
view_aspects a = record {
  entity = a.entity.items;
  period = a.period.items;
  unit = a.unit.items;
  language = a.language.items;
  note_id = a.note_id.items;
  dimensions = a.dimensions.items;
}

abbrev pub view_fields : Held → Fields
view_fields f = record {
  number = f.number.items;
  filer = f.filer.items;
  key = f.key.items;
  id = f.id.items;
  concept = f.concept.items;
  aspects = view_aspects f.aspects;
  value = f.value.items;
  decimals = f.decimals.items;
  replaced_by = f.replaced_by.items;
  received = f.received.items;
}
