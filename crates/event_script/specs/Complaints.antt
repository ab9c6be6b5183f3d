-- What is wrong with a line that says no event; own rules.
use Rattle.std.specs.Prelude.{ℕ, Bool, false, ◌||◌, List, [], ◌∷◌, codes, bytes_eq, Option, Some, None, is_some}
use Rattle.std.specs.Prelude.{if◌then◌else◌, unwrap_or}
use Rattle.event_script.specs.declared.complaint.Complaint.{Complaint as Told}
use Rattle.event_script.specs.declared.complaint.ScriptPart.{ScriptPart}
use Rattle.event_script.specs.declared.complaint.ScriptPart.TheVariants as kind
use Rattle.event_script.specs.declared.complaint.Wrong.{Wrong}
use Rattle.event_script.specs.declared.complaint.Wrong.TheVariants.{NoEvent, Not, Missing, TooMany}
use Rattle.event_script.specs.Words.{has_space, first_word, behind_first_word, number, filing_number, arrival_number}
use Rattle.event_script.specs.Words.{amount}

-- what is wrong, and the word that could not be read
pub record Complaint : Type 0 where
  pub wrong : Wrong
  pub word : List ℕ

abbrev pub view_complaint : Told → Complaint
view_complaint told = record { wrong = told.wrong; word = told.word.now }

-- ---- what has to stand at a place

-- whether a word is of this kind; no report or text is, since one is looked at only where all else is right
abbrev pub fits : ScriptPart → List ℕ → Bool
fits kind.Number word = is_some (number word)
fits kind.FilingNumber word = is_some (filing_number word)
fits kind.Amount word = is_some (amount word)
fits kind.Arrival word = is_some (arrival_number word)
fits kind.Stop word = bytes_eq word (codes "before") || bytes_eq word (codes "after")
fits kind.End word = bytes_eq word (codes "server") || bytes_eq word (codes "outbox")
fits kind.Report word = false
fits kind.Text word = false

-- what stands behind the first word and a space
abbrev pub behind_word : List ℕ → Option (List ℕ)
behind_word words = if has_space words then Some (behind_first_word words) else None

-- the word at the front, and what stands behind it; a report and a text go up to the end of the line
abbrev pub word_of : ScriptPart → List ℕ → List ℕ
word_of kind.Report words = words
word_of kind.Text words = words
word_of _ words = first_word words

abbrev pub rest_of : ScriptPart → List ℕ → Option (List ℕ)
rest_of kind.Report words = None
rest_of kind.Text words = None
rest_of _ words = behind_word words

-- ---- lines

-- what an event of this name has behind it; for a restart it goes by the word that follows
abbrev pub form_of : List ℕ → List ℕ → Option (List ScriptPart)
form_of name next =
    if bytes_eq name (codes "put") then Some (kind.Number ∷ kind.Report ∷ [])
    else (if bytes_eq name (codes "amend") then Some (kind.Number ∷ kind.FilingNumber ∷ kind.Report ∷ [])
    else (if bytes_eq name (codes "send") then Some (kind.Number ∷ kind.Number ∷ [])
    else (if bytes_eq name (codes "stranger") then Some (kind.Text ∷ [])
    else (if bytes_eq name (codes "deliver") then Some (kind.Number ∷ kind.Amount ∷ kind.Stop ∷ kind.Arrival ∷ [])
    else (if bytes_eq name (codes "hand") then Some (kind.Number ∷ kind.Amount ∷ kind.Stop ∷ [])
    else (if bytes_eq name (codes "restart")
    then (if bytes_eq next (codes "server") then Some (kind.End ∷ []) else Some (kind.End ∷ kind.Number ∷ []))
    else None))))))

-- the first word that is not what has to stand there, or that one is missing, or one too many
abbrev pub complaint_in : List ScriptPart → Option (List ℕ) → Option Complaint
complaint_in [] None = None
complaint_in [] (Some words) = Some (record { wrong = TooMany; word = first_word words })
complaint_in (kind ∷ form) None = Some (record { wrong = Missing kind; word = [] })
complaint_in (kind ∷ form) (Some words) =
    if fits kind (word_of kind words) then complaint_in form (rest_of kind words)
    else Some (record { wrong = Not kind; word = word_of kind words })

-- of a line that has this form, if its first word names an event
abbrev pub complaint_by : Option (List ScriptPart) → List ℕ → Option Complaint
complaint_by None line = Some (record { wrong = NoEvent; word = first_word line })
complaint_by (Some form) line = complaint_in form (behind_word line)

unfoldable pub complaint_of : List ℕ → Option Complaint
complaint_of line = complaint_by (form_of (first_word line) (first_word (unwrap_or (behind_word line) []))) line
