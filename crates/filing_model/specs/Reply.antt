-- The replies to answers and lists: their statuses, and their contents as compact JSON texts.
use Rattle.std.specs.Prelude.{ℕ, List, [], ◌∷◌, map, codes, nat_eq, if◌then◌else◌, Option, Some, None, unwrap_or}
use Rattle.serde_json.specs.Data.{Data, number, string, array, object, unsigned, Members, no_members, member}
use Rattle.serde_json.specs.Written.{compact_text}
use Rattle.serde_json.specs.View.{items_of}
use Rattle.xbrl_report.specs.Pair.{Pair}
use Rattle.xbrl_report.specs.CodeNumber.{number_of, text_of}
use Rattle.http_messages.specs.declared.reply.Kind.{Kind}
use Rattle.http_messages.specs.declared.reply.Kind.TheVariants.{Json}
use Rattle.http_messages.specs.Reply.{ReplyParts, phrase}
use Rattle.filing_model.specs.declared.served.Style.{Style}
use Rattle.filing_model.specs.declared.served.Style.TheVariants.{Old, Problem}
use Rattle.filing_model.specs.Answer.{Answer}
use Rattle.filing_model.specs.Listing.{Listing}

-- the member that says in a word how it went
abbrev pub status_member : List ℕ → Members
status_member word = member (codes "status") (string word) no_members

-- a finding: its code's word, and its place as a JSON Pointer (RFC 6901)
abbrev pub finding_data : Pair → Data
finding_data f =
    object (member (codes "code") (string (text_of f.code)) (member (codes "place") (string f.place) no_members))

-- findings, in order
abbrev pub findings_data : List Pair → Data
findings_data findings = array (items_of (map finding_data findings))

-- 400 for a body that is no JSON, whose one finding has code 1, and otherwise 422
abbrev pub refused_status : List Pair → ℕ
refused_status [] = 422
refused_status (f ∷ fs) = if nat_eq (number_of f.code) 1 then 400 else 422

-- the status of an answer (RFC 9110, section 15)
abbrev pub answer_status : Answer → ℕ
answer_status (Answer.Registered n repeat) = 201
answer_status (Answer.Refused findings repeat) = refused_status findings
answer_status Answer.KeyReused = 422

-- The members of problem details (RFC 9457, section 3.1), in order of their names. The title is the status's phrase
-- (section 4.2.1), and `reason` is an extension (section 3.2).
abbrev pub problem_members : ℕ → List ℕ → Members
problem_members status reason =
    member (codes "reason") (string reason)
    (member (codes "status") (number (unsigned status))
    (member (codes "title") (string (unwrap_or (phrase status) []))
    (member (codes "type") (string (codes "about:blank")) no_members)))

-- the members that say why something is refused, in this style
abbrev pub refusal_members : Style → ℕ → List ℕ → Members
refusal_members Old status word = status_member word
refusal_members Problem status word = problem_members status word

-- the kind of a content with these members
abbrev pub refusal_kind : Style → Kind
refusal_kind Old = Json
refusal_kind Problem = Kind.Problem

-- the content of an answer; a repeat has no other
abbrev pub answer_data : Style → Answer → Data
answer_data style (Answer.Registered n repeat) =
    object (member (codes "number") (number (unsigned n)) (status_member (codes "registered")))
answer_data style (Answer.Refused findings repeat) =
    object (member (codes "findings") (findings_data findings)
    (refusal_members style (refused_status findings) (codes "refused")))
answer_data style Answer.KeyReused = object (refusal_members style 422 (codes "key-reused"))

-- the kind of the content of an answer
abbrev pub answer_kind : Style → Answer → Kind
answer_kind style (Answer.Registered n repeat) = Json
answer_kind style (Answer.Refused findings repeat) = refusal_kind style
answer_kind style Answer.KeyReused = refusal_kind style

-- the reply to an answer, in this style
unfoldable pub reply_as : Style → Answer → ReplyParts
reply_as style a =
    record { status = answer_status a; content = compact_text (answer_data style a); kind = answer_kind style a }

-- the reply to an answer, for every key that was not kept before there were problem details
abbrev pub reply_of : Answer → ReplyParts
reply_of a = reply_as Problem a

-- a member with a number, if there is one, before others
abbrev pub number_member : List ℕ → Option ℕ → Members → Members
number_member name None more = more
number_member name (Some n) more = member name (number (unsigned n)) more

-- a filing in a list
abbrev pub listing_data : Listing → Data
listing_data l =
    object (member (codes "facts") (number (unsigned l.facts)) (member (codes "number") (number (unsigned l.number))
    (number_member (codes "replaced_by") l.replaced_by (number_member (codes "replaces") l.replaces no_members))))

-- filings, in order
abbrev pub listings_data : List Listing → Data
listings_data ls = array (items_of (map listing_data ls))

-- the content of a list
abbrev pub list_data : List Listing → Data
list_data ls = object (member (codes "filings") (listings_data ls) no_members)

-- the reply that lists filings
unfoldable pub list_reply : List Listing → ReplyParts
list_reply ls = record { status = 200; content = compact_text (list_data ls); kind = Json }

-- the refusal for this reason, as problem details
abbrev pub word_reply : ℕ → List ℕ → ReplyParts
word_reply status word =
    record { status = status; content = compact_text (object (problem_members status word)); kind = Kind.Problem }

-- the reply to a request that could not be decided now (RFC 9110, section 15.6.4)
abbrev pub unavailable : ReplyParts
unavailable = word_reply 503 (codes "unavailable")
