-- The lines that report findings.
use Rattle.std.specs.Prelude.{◌≡◌, ℕ, List, map, codes, false, if◌then◌else◌, Option, Some, None, Vec, IsUtf8}
use Rattle.std.specs.Global.{Global}
use Rattle.std.specs.List.{flat_map, zip}
use Rattle.serde_json.specs.Data.{Data}
use Rattle.serde_json.specs.Read.{read}
use Rattle.report_places.specs.Place.{Answers}
use Rattle.report_places.specs.declared.place.ValuePlace.{ValuePlace}
use Rattle.report_places.specs.declared.position.Position.{Position}
use Rattle.xbrl_report.specs.Pair.{Pair}
use Rattle.finding_lines.specs.Messages.{message, value}
use Rattle.finding_lines.specs.Objects.{object_line}
use Rattle.finding_lines.specs.Sentences.{sentence}
use Rattle.finding_lines.specs.declared.form.Form.{Form}
use Rattle.finding_lines.specs.declared.form.Form.TheVariants.{Sentences, Objects}
use Rattle.finding_lines.specs.declared.syntax_fault.SyntaxFault.{SyntaxFault}

-- the line of a finding at a position, with the value there, if there is one, and these words
abbrev pub line_with : Form → List ℕ → Position → Pair → Option (List ℕ) → List ℕ → List ℕ
line_with Sentences file position pair value words = sentence file position pair words
line_with Objects file position pair value words = object_line file position pair value words

-- the line of a finding in a body, with its place there
abbrev pub line : Form → List ℕ → List ℕ → Pair × ValuePlace → List ℕ
line form file body told =
    line_with form file told.1.position told.0 (value body told.1) (message body told.1 told.0)

abbrev pub fault_words : SyntaxFault → List ℕ
fault_words fault = if fault.is_cut then codes "the body ends too soon" else codes "the body is not valid JSON"

-- the line of a finding in a body that is no JSON text
abbrev pub fault_line : Form → List ℕ → SyntaxFault → Pair → List ℕ
fault_line form file fault pair = line_with form file fault.position pair None (fault_words fault)

abbrev pub at_the_start : SyntaxFault
at_the_start = record { position = record { line = 1; column = 1 }; is_cut = false }

-- the lines by the places that are found in a body, if they are found
abbrev pub lines_at : Form → List ℕ → List ℕ → List Pair → Option (Vec ValuePlace Global) → List ℕ
lines_at form file body findings (Some places) = flat_map (line form file body) (zip findings places.items)
lines_at form file body findings None = flat_map (fault_line form file at_the_start) findings

pub record TellsByPlaces (form : Form) (file body : List ℕ) (findings : List Pair) (written : List ℕ) : Type 0 where
  pub places : Option (Vec ValuePlace Global)
  pub answered : Answers body (map (λ finding. finding.place) findings) places
  pub lines : written ≡ lines_at form file body findings places

-- A body has a fault if and only if the reader does not read it. No clause of the reader says where the fault is.
abbrev pub IsFaultIn : List ℕ → Option SyntaxFault → Type 0
IsFaultIn body None = (value : Data) × (read body ≡ Some value)
IsFaultIn body (Some fault) = IsUtf8 body → read body ≡ None

abbrev pub TellsWith : Option SyntaxFault → Form → List ℕ → List ℕ → List Pair → List ℕ → Type 0
TellsWith None form file body findings written = TellsByPlaces form file body findings written
TellsWith (Some fault) form file body findings written = written ≡ flat_map (fault_line form file fault) findings

-- A text has the lines of the findings in a body: each at its place if the body is read, else where its fault is.
pub record TellsOf (form : Form) (file body : List ℕ) (findings : List Pair) (written : List ℕ) : Type 0 where
  pub fault : Option SyntaxFault
  pub found : IsFaultIn body fault
  pub lines : TellsWith fault form file body findings written
