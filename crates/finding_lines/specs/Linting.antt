-- What is printed of reports; own rules. `out` and `out'` are what the output has before and after, if it is known.
use Rattle.std.specs.Prelude.{◌≡◌, ◌⊎◌, ◌||◌, ℕ, max, Bool, true, false, List, [], ◌∷◌, ◌++◌, map, Option, Result, Ok}
use Rattle.std.specs.Prelude.{Err, IfOk, IfErr, OnOk, if◌then◌else◌}
use Rattle.std.specs.Io.KnownBytes.{Appends}
use Rattle.std.specs.Result.{result_map_both}
use Rattle.key_string.specs.Filer.{is_filer}
use Rattle.command_line.specs.declared.fault.CommandFault.{CommandFault}
use Rattle.command_line.specs.declared.fault.CommandFault.TheVariants.{Filer, Output, Report}
use Rattle.command_line.specs.Status.{status_of}
use Rattle.finding_lines.specs.Lines.{TellsOf}
use Rattle.finding_lines.specs.declared.form.Form.{Form}
use Rattle.xbrl_report.specs.Findings.{findings}
use Rattle.xbrl_report.specs.Pair.{Pair}
use Rattle.finding_lines.specs.declared.linting.Linted.{Linted}

-- ---- one report

abbrev pub has_any : List Pair → Bool
has_any [] = false
has_any (first ∷ more) = true

-- the lines of these findings in a body are printed; without findings nothing is
abbrev pub PrintsFindings : Form → List ℕ → List ℕ → List Pair → Option (List ℕ) → Option (List ℕ) → Type 0
PrintsFindings form file body [] out out' = out' ≡ out
PrintsFindings form file body (first ∷ more) out out' =
    (text : List ℕ) × TellsOf form file body (first ∷ more) text × Appends out out' text

-- What `lint` prints of a report: a line for each of its findings. It answers whether there is one.
pub record FindsIn (form : Form) (filer file body : List ℕ) (out out' : Option (List ℕ))
    (result : Result Bool CommandFault) : Type 0 where
  pub printed : OnOk result (PrintsFindings form file body (findings filer body) out out')
  pub found : IfOk result (λ is_found. is_found ≡ has_any (findings filer body))
  -- unless the output failed, nothing was printed
  pub quiet : IfErr result (λ fault. (fault ≡ Output) ⊎ (out' ≡ out))

-- ---- the reports in files

-- A file that was looked at: its name, and the body that was read there, or why none was. No clause says which.
abbrev pub Look : Type 0
Look = List ℕ × Result (List ℕ) CommandFault

abbrev pub names_of : List Look → List (List ℕ)
names_of looks = map (λ look. look.0) looks

-- why the report in a file of this name was not read; the fault has the name
abbrev pub IsUnread : List ℕ → CommandFault → Type 0
IsUnread name (Report file why) = file.now ≡ name
IsUnread name _ = ⊥

-- the lines of the findings of a body that was read in a file are printed; if none was read, nothing is
abbrev pub PrintsRead : Form → List ℕ → List ℕ → Result (List ℕ) CommandFault → Option (List ℕ) → Option (List ℕ)
    → Type 0
PrintsRead form filer name (Ok body) out out' = PrintsFindings form name body (findings filer body) out out'
PrintsRead form filer name (Err why) out out' = IsUnread name why × (out' ≡ out)

abbrev pub is_found : List ℕ → Result (List ℕ) CommandFault → Bool
is_found filer (Ok body) = has_any (findings filer body)
is_found filer (Err why) = false

abbrev pub fault_of : Result (List ℕ) CommandFault → List CommandFault
fault_of (Ok body) = []
fault_of (Err why) = why ∷ []

-- the lines of the findings of each of these were printed, in order
abbrev pub PrintsEach : Form → List ℕ → List Look → Option (List ℕ) → Option (List ℕ) → Type 0
PrintsEach form filer [] out out' = out' ≡ out
PrintsEach form filer (look ∷ looks) out out' =
    (so_far : Option (List ℕ)) × PrintsRead form filer look.0 look.1 out so_far
    × PrintsEach form filer looks so_far out'

-- whether a body that was read has a finding
abbrev pub have_any : List ℕ → List Look → Bool
have_any filer [] = false
have_any filer (look ∷ looks) = is_found filer look.1 || have_any filer looks

-- why the others were not read, in order
abbrev pub unread_of : List Look → List CommandFault
unread_of [] = []
unread_of (look ∷ looks) = fault_of look.1 ++ unread_of looks

-- A body was read, or none was; its findings are printed, and that is noted. Or the output or memory failed, and in the
-- latter case nothing was printed.
abbrev pub LintsFile : Form → List ℕ → List ℕ → Option (List ℕ) → Option (List ℕ) → Linted → Linted
    → Result (Unit {0}) CommandFault → Type 0
LintsFile form filer name out out' old new (Ok done) =
    (read : Result (List ℕ) CommandFault) × PrintsRead form filer name read out out'
    × (new.is_found ≡ (old.is_found || is_found filer read))
    × (new.unread.items ≡ old.unread.items ++ fault_of read)
LintsFile form filer name out out' old new (Err fault) = (fault ≡ Output) ⊎ (out' ≡ out)

-- The findings of each file that could be read were printed, and the answer says whether there is one, and why the
-- others were not read; or those of the first files were, and of the next one nothing, unless the output failed.
abbrev pub LintsFiles : Form → List ℕ → List (List ℕ) → Option (List ℕ) → Option (List ℕ)
    → Result Linted CommandFault → Type 0
LintsFiles form filer names out out' (Ok linted) =
    (looks : List Look) × (names_of looks ≡ names) × PrintsEach form filer looks out out'
    × (linted.is_found ≡ have_any filer looks) × (linted.unread.items ≡ unread_of looks)
LintsFiles form filer names out out' (Err fault) =
    (fault ≡ Output)
    ⊎ ((looks : List Look) × (next : List ℕ) × (rest : List (List ℕ)) × (names ≡ names_of looks ++ next ∷ rest)
    × PrintsEach form filer looks out out')

-- ---- the status

-- the greatest of some statuses
abbrev pub greatest : List ℕ → ℕ
greatest [] = 0
greatest (status ∷ statuses) = max status (greatest statuses)

-- 1 if there is a finding; but the status of a report that was not read, if that is greater
abbrev pub lint_status : Bool → List CommandFault → ℕ
lint_status found unread = max (if found then 1 else 0) (greatest (map status_of unread))

-- ---- the whole task

-- what is answered: the status, or the fault of the output or of memory
abbrev pub answer_of : Result Linted CommandFault → Result ℕ CommandFault
answer_of = result_map_both (λ linted. lint_status linted.is_found linted.unread.items) (λ fault. fault)

-- The code is no filer's, and nothing is done; or the files are looked at, and what came of that is answered.
abbrev pub LintsReports : Form → List ℕ → List (List ℕ) → Option (List ℕ) → Option (List ℕ) → Result ℕ CommandFault
    → Type 0
LintsReports form filer names out out' result =
    ((is_filer filer ≡ false) × (result ≡ Err Filer) × (out' ≡ out))
    ⊎ ((is_filer filer ≡ true) × (linted : Result Linted CommandFault)
    × LintsFiles form filer names out out' linted × (result ≡ answer_of linted))
