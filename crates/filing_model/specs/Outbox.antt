-- The reports that a filer has to send, and what a reply says of each.
use Rattle.std.specs.Prelude.{◌≡◌, ℕ, ◌^◌, ◌≤◌, ◌==◌, Bool, true, false, ◌&&◌, ◌||◌, List, ◌++◌, length, codes, nat_le}
use Rattle.std.specs.Prelude.{nat_lt, bytes_eq, Option, Some, None, option_map, option_and_then, unwrap_or}
use Rattle.std.specs.Prelude.{if◌then◌else◌}
use Rattle.std.specs.Fmt.{decimal}
use Rattle.serde_json.specs.Data.{Data}
use Rattle.serde_json.specs.Find.{get, as_str, as_number, as_u64}
use Rattle.key_string.specs.Key.{IsKey}
use Rattle.key_string.specs.Filer.{is_filer}
use Rattle.xbrl_report.specs.Findings.{tree}
use Rattle.http_messages.specs.Head.{max_body_len}
use Rattle.http_messages.specs.Posting.{IsTarget, render_post}
use Rattle.http_messages.specs.Reply.{ReplyParts}
use Rattle.filing_model.specs.Request.{Request}

-- what is known of a report: nothing yet; its number in the register; that it was refused; or that its key was used for
-- another body
pub data State : Type 0 where
  Open : State
  Confirmed : ℕ → State
  Refused : State
  Clashed : State

-- open, confirmed N, refused, clashed
abbrev pub state_words : State → List ℕ
state_words Open = codes "open"
state_words (Confirmed number) = codes "confirmed " ++ decimal number
state_words Refused = codes "refused"
state_words Clashed = codes "clashed"

-- ---- what a reply says

-- whether the member of this name is this word
abbrev pub has_word : List ℕ → List ℕ → Data → Bool
has_word name word d = unwrap_or (option_map (λ text. bytes_eq text word) (option_and_then as_str (get name d))) false

-- whether the member `status` is this word
abbrev pub has_status : List ℕ → Data → Bool
has_status word d = has_word (codes "status") word d

-- whether it is refused for this reason: problem details have it in `reason`, and earlier contents in `status`
abbrev pub refuses : List ℕ → Data → Bool
refuses word d = has_status word d || has_word (codes "reason") word d

-- the member `number`, if it is a whole number that is not below zero
abbrev pub number_told : Data → Option ℕ
number_told d = option_and_then as_u64 (option_and_then as_number (get (codes "number") d))

-- a number of the register is from 1 to 2^63 - 1
abbrev pub confirmed_by : Option ℕ → State
confirmed_by None = Open
confirmed_by (Some n) = if nat_le 1 n && nat_lt n (2 ^ 63) then Confirmed n else Open

-- what the status and the JSON value of a content say of a report
abbrev pub state_by : ℕ → Data → State
state_by status d =
    if (status == 201) && has_status (codes "registered") d then confirmed_by (number_told d)
    else (if ((status == 422) || (status == 400)) && refuses (codes "refused") d then Refused
    else (if (status == 422) && refuses (codes "key-reused") d then Clashed else Open))

-- what the status and a content say of a report, if the content may be no JSON
abbrev pub state_told : ℕ → Option Data → State
state_told status None = Open
state_told status (Some d) = state_by status d

-- Open moves by what the reply says; any other state stays
unfoldable pub moved : State → ReplyParts → State
moved Open reply = state_told reply.status (tree reply.content)
moved (Confirmed n) reply = Confirmed n
moved Refused reply = Refused
moved Clashed reply = Clashed

-- ---- entries

-- a report under its key, and what is known of it
pub record Entry : Type 0 where
  pub key : List ℕ
  pub target : Option ℕ
  pub body : List ℕ
  pub state : State

-- the request that an entry of this filer makes
abbrev pub request_of : List ℕ → Entry → Request
request_of filer entry = record { filer = filer; key = entry.key; target = entry.target; body = entry.body }

-- the bytes that are sent for a request
abbrev pub bytes_of : Request → List ℕ
bytes_of r = render_post r.filer r.target r.key r.body

-- a request that may be sent
pub record IsSendable (r : Request) : Type 0 where
  pub filer : is_filer r.filer ≡ true
  pub key : IsKey r.key
  pub target : IsTarget r.target
  pub body : length r.body ≤ max_body_len
