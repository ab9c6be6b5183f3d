-- What is printed of the reply to a question about an entry; own rules.
use Rattle.std.specs.Prelude.{◌≡◌, ℕ, ◌==◌, Bool, true, false, ◌&&◌, ◌||◌, not, List, [], ◌∷◌, ◌++◌, codes, Option}
use Rattle.std.specs.Prelude.{Some, None, is_some}
use Rattle.std.specs.Fmt.{decimal}
use Rattle.std.specs.Io.KnownBytes.{Appends}
use Rattle.std.specs.Str.Lossy.{utf8_lossy}
use Rattle.memchr.specs.Find.{FindsNeedle}
use Rattle.http_messages.specs.Reply.{ReplyParts, phrase}
use Rattle.finding_lines.specs.Lines.{TellsOf}
use Rattle.finding_lines.specs.Objects.{json_text}
use Rattle.finding_lines.specs.declared.form.Form.{Form}
use Rattle.finding_lines.specs.declared.form.Form.TheVariants.{Sentences, Objects}
use Rattle.xbrl_report.specs.Amendment.{amendment_findings}
use Rattle.xbrl_report.specs.Pair.{Pair}
use Rattle.filing_model.specs.Outbox.{Entry}
use Rattle.terminal_text.specs.OneLine.{one_line}

-- ---- its findings

-- whether the content has this JSON string, given with its quotes, anywhere
abbrev pub HasString : List ℕ → List ℕ → Bool → Type 0
HasString content string has = (place : Option ℕ) × FindsNeedle content string 0 place × (has ≡ is_some place)

-- whether the reply refuses a report for what was found in it
abbrev pub Refuses : ReplyParts → Bool → Type 0
Refuses reply refused =
    (named : Bool) × HasString reply.content (codes "\"refused\"") named
    × (refused ≡ (named && ((reply.status == 422) || (reply.status == 400))))

-- whether the report may replace its filing, by the content of a reply: the one finding that the report alone doesn't
-- show
abbrev pub MayReplace : Option ℕ → List ℕ → Bool → Type 0
MayReplace None content free = free ≡ true
MayReplace (Some number) content free =
    (named : Bool) × HasString content (codes "\"not-replaceable\"") named × (free ≡ not named)

-- a line for each of these findings in a body
abbrev pub AreLines : Form → List ℕ → List ℕ → List Pair → List ℕ → Type 0
AreLines form name body [] text = text ≡ []
AreLines form name body (first ∷ more) text = TellsOf form name body (first ∷ more) text

-- what stands for the name of a file in the lines of findings
abbrev pub entry_name : ℕ → List ℕ
entry_name id = codes "entry-" ++ decimal id

-- the lines of all findings of the report of an entry if it was refused, and otherwise none
abbrev pub HasFindingsIf : Bool → Form → List ℕ → ℕ × Entry → List ℕ → List ℕ → Type 0
HasFindingsIf false form filer (id, entry) content text = text ≡ []
HasFindingsIf true form filer (id, entry) content text =
    (free : Bool) × MayReplace entry.target content free
    × AreLines form (entry_name id) entry.body (amendment_findings filer entry.body free) text

abbrev pub HasFindings : Form → List ℕ → ℕ × Entry → ReplyParts → List ℕ → Type 0
HasFindings form filer entry reply text =
    (refused : Bool) × Refuses reply refused × HasFindingsIf refused form filer entry reply.content text

-- ---- all of it

abbrev pub phrase_part : Option (List ℕ) → List ℕ
phrase_part None = []
phrase_part (Some words) = codes " " ++ words

-- entry ID: STATUS PHRASE, and the content on the next line
abbrev pub sentence_head : ℕ → ℕ → List ℕ → List ℕ
sentence_head id status content =
    (codes "entry " ++ decimal id ++ codes ": " ++ decimal status ++ phrase_part (phrase status) ++ codes "\n")
    ++ one_line content ++ codes "\n"

-- a JSON object with these members, in byte order of their names
abbrev pub object_head : ℕ → ℕ → List ℕ → List ℕ
object_head id status content =
    codes "{\"content\":" ++ json_text content ++ (codes ",\"entry\":" ++ decimal id ++ codes ",\"status\":"
    ++ decimal status) ++ codes "}\n"

abbrev pub head_text : Form → ℕ → ReplyParts → List ℕ
head_text Sentences id reply = sentence_head id reply.status (utf8_lossy reply.content)
head_text Objects id reply = object_head id reply.status (utf8_lossy reply.content)

-- the status, the content, and a line for each finding, with its place in the body of the entry
abbrev pub IsAnswerText : Form → List ℕ → ℕ × Entry → ReplyParts → List ℕ → Type 0
IsAnswerText form filer entry reply text =
    (findings : List ℕ) × HasFindings form filer entry reply findings
    × (text ≡ head_text form entry.0 reply ++ findings)

abbrev pub PrintsAnswer : Form → List ℕ → ℕ × Entry → ReplyParts → Option (List ℕ) → Option (List ℕ) → Type 0
PrintsAnswer form filer entry reply out out' =
    (text : List ℕ) × IsAnswerText form filer entry reply text × Appends out out' text
