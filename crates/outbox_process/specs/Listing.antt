-- Whether a register lists a filing: the request that asks for it, and what the reply says; own rules.
use Rattle.std.specs.Prelude.{◌≡◌, ◌⊎◌, ℕ, ◌==◌, ◌&&◌, Bool, true, false, List, [], ◌∷◌, ◌++◌, codes, nat_eq}
use Rattle.std.specs.Prelude.{Option, Some, None, is_none, is_some, option_map, option_and_then, unwrap_or}
use Rattle.std.specs.Prelude.{Result, Ok, Err, if◌then◌else◌}
use Rattle.std.specs.Fmt.{decimal}
use Rattle.serde_json.specs.Data.{Data}
use Rattle.serde_json.specs.Find.{get, at, as_array, as_number, as_u64}
use Rattle.xbrl_report.specs.Findings.{findings, tree}
use Rattle.xbrl_report.specs.Pair.{Pair}
use Rattle.xbrl_report.specs.ReportParts.{fact_count}
use Rattle.http_messages.specs.Reply.{ReplyParts}
use Rattle.filing_model.specs.Outbox.{Entry}
use Rattle.outbox_process.specs.declared.fault.Why.{Why}
use Rattle.outbox_process.specs.declared.fault.Why.TheVariants.{NotListed, NoList, Memory}
use Rattle.outbox_process.specs.declared.tasks.listing.Listed.{Listed}
use Rattle.outbox_process.specs.declared.tasks.listing.Listed.TheVariants.{Yes, No, Unsaid}
use Rattle.outbox_process.specs.declared.tasks.listing.Sought.{Sought}

-- ---- the request

-- The request whose reply lists the filing of a number alone, if it is this filer's: its request-line has the filing in
-- the path (RFC 9112, section 3). The connection is closed after the reply. This order of lines is an own rule.
abbrev pub list_request : List ℕ → ℕ → List ℕ
list_request filer number =
    codes "GET /filings/" ++ filer ++ (codes "/" ++ decimal number)
    ++ codes " HTTP/1.1\r\nHost: localhost\r\nConnection: close\r\n\r\n"

-- ---- the filing

-- how many facts are listed of a body with these findings: its own if it is valid; of another one nothing is known
abbrev pub facts_if : List Pair → ℕ → Option ℕ
facts_if [] count = Some count
facts_if (first ∷ more) count = None

-- what a list says of an entry of this filer, if it is the filing of this number
abbrev pub filing_of : List ℕ → ℕ → Entry → Sought
filing_of filer number entry =
    record {
      number = number;
      facts = facts_if (findings filer entry.body) (fact_count entry.body);
      replaces = entry.target;
    }

-- ---- the reply

-- whether the member of this name is this number
abbrev pub has_number : List ℕ → ℕ → Data → Bool
has_number name number d =
    unwrap_or (option_map (λ found. nat_eq found number)
    (option_and_then as_u64 (option_and_then as_number (get name d)))) false

-- whether a filing in a list has so many facts, if that is known
abbrev pub has_facts : Option ℕ → Data → Bool
has_facts None filing = true
has_facts (Some facts) filing = has_number (codes "facts") facts filing

-- whether a filing in a list replaces this one, or none
abbrev pub has_replaced : Option ℕ → Data → Bool
has_replaced None filing = is_none (get (codes "replaces") filing)
has_replaced (Some number) filing = has_number (codes "replaces") number filing

-- whether a filing in a list is the one that is sought
abbrev pub is_sought : Sought → Data → Bool
is_sought it filing =
    has_number (codes "number") it.number filing && (has_facts it.facts filing && has_replaced it.replaces filing)

-- the same of the first filing of a list, if it has one
abbrev pub begins_with : Sought → Data → Listed
begins_with it list = if unwrap_or (option_map (is_sought it) (at 0 list)) false then Yes else No

-- what a list says
abbrev pub listed_in : Sought → Option Data → Listed
listed_in it None = Unsaid
listed_in it (Some list) = if is_some (as_array list) then begins_with it list else Unsaid

-- what the JSON value of a content says, if it is JSON
abbrev pub listed_by : Sought → Option Data → Listed
listed_by it None = Unsaid
listed_by it (Some d) = listed_in it (get (codes "filings") d)

-- what a reply says of the filing that is sought: a list with 200 begins with it, or does not; or the reply has no list
abbrev pub said_of : Sought → ReplyParts → Listed
said_of it reply = if reply.status == 200 then listed_by it (tree reply.content) else Unsaid

-- ---- what is made of it

-- the filing as which the entry of this id is confirmed is listed; or it is not, or that is not said, and this is why
abbrev pub answer_listed : ℕ → ℕ → ℕ → Listed → Result (Unit {0}) Why
answer_listed id number status Yes = Ok tt
answer_listed id number status No = Err (NotListed id number)
answer_listed id number status Unsaid = Err (NoList id number status)

-- what is answered is what the reply says of the entry of this id and filer; or memory ran out
abbrev pub IsFound : List ℕ → ℕ → ℕ → Entry → ReplyParts → Result (Unit {0}) Why → Type 0
IsFound filer id number entry reply result =
    (result ≡ answer_listed id number reply.status (said_of (filing_of filer number entry) reply))
    ⊎ (result ≡ Err Memory)
