-- Why no reply is read in some bytes.
use Rattle.std.specs.Prelude.{◌≡◌, ◌⊎◌, ℕ, false, not, List, length, drop, slice_range, codes, nat_lt, ◌==◌, Result, Ok}
use Rattle.std.specs.Prelude.{Err, if◌then◌else◌}
use Rattle.http_messages.specs.declared.refusal.ConnFault.{ConnFault}
use Rattle.http_messages.specs.declared.refusal.ConnFault.TheVariants as conn
use Rattle.http_messages.specs.declared.refusal.ReplyFault.{ReplyFault}
use Rattle.http_messages.specs.declared.refusal.ReplyFault.TheVariants.{Cut, Malformed, NoLength, TooLarge, Read}
use Rattle.http_messages.specs.declared.refusal.ReplyFault.TheVariants.{ReadLimit, Memory}
use Rattle.http_messages.specs.Block.{skipped_len, IsBlockEnd, IsTooLong}
use Rattle.http_messages.specs.Head.{values_named, parts_named, agree, agreed_number}
use Rattle.http_messages.specs.Reply.{ReplyParts}
use Rattle.http_messages.specs.Response.{ResponseParts, ReadsResponseHead, BeginsResponseHead, BeginsInterims}
use Rattle.http_messages.specs.Response.{GivesReply, is_interim, max_content_len}

-- what a failed read means for a reply; no write is made for one
abbrev pub fault_of_read : ConnFault → ReplyFault
fault_of_read conn.Read = Read
fault_of_read (conn.Write sent) = Read
fault_of_read conn.ReadLimit = ReadLimit
fault_of_read conn.Memory = Memory

-- The declared length of a final response's content (RFC 9112, section 6.3), or why the content isn't read: the first
-- that holds. That a Transfer-Encoding is refused, a missing length, and a length beyond the client's limit, is an own
-- rule.
abbrev pub content_length : List (List ℕ × List ℕ) → Result ℕ ReplyFault
content_length fields =
    let declared = parts_named (codes "content-length") fields in
    if nat_lt 0 (length (values_named (codes "transfer-encoding") fields)) then Err Malformed
    else (if not (agree declared) then Err Malformed
    else (if length (values_named (codes "content-length") fields) == 0 then Err NoLength
    else (if nat_lt max_content_len (agreed_number declared) then Err TooLarge else Ok (agreed_number declared))))

-- no block of these bytes is the head of a response
abbrev pub IsNoResponse : List ℕ → Type 0
IsNoResponse block = (parts : ResponseParts) → ¬ (ReadsResponseHead block parts)

-- the bytes begin with a block that is no head of a response
abbrev pub BeginsBadHead : List ℕ → Type 0
BeginsBadHead bytes = (n : ℕ) × IsBlockEnd bytes n × IsNoResponse (slice_range bytes (skipped_len bytes) n)

-- the bytes begin with the head of a final response whose content isn't read for this fault
abbrev pub DeclaresFault : ReplyFault → List ℕ → Type 0
DeclaresFault fault bytes =
    (parts : ResponseParts) × (n : ℕ) × BeginsResponseHead bytes parts n × (is_interim parts.status ≡ false)
    × (content_length parts.fields ≡ Err fault)

-- this holds of what follows the interim responses at the front
abbrev pub AfterInterims : (List ℕ → Type 0) → List ℕ → Type 0
AfterInterims P bytes = (n : ℕ) × BeginsInterims bytes n × P (drop n bytes)

-- the bytes show that no reply is read in them, whatever follows
abbrev pub IsRefusedReply : List ℕ → ReplyFault → Type 0
IsRefusedReply bytes Malformed = AfterInterims (λ rest. BeginsBadHead rest ⊎ DeclaresFault Malformed rest) bytes
IsRefusedReply bytes NoLength = AfterInterims (DeclaresFault NoLength) bytes
IsRefusedReply bytes TooLarge = AfterInterims (λ rest. IsTooLong rest ⊎ DeclaresFault TooLarge rest) bytes
IsRefusedReply bytes Cut = ⊥
IsRefusedReply bytes Read = ⊥
IsRefusedReply bytes ReadLimit = ⊥
IsRefusedReply bytes Memory = ⊥

-- the bytes are less than a whole reply, and nothing is wrong with them yet
pub record IsCutReply (bytes : List ℕ) : Type 0 where
  pub none : (reply : ReplyParts) → ¬ (GivesReply bytes reply)
  pub refused : (fault : ReplyFault) → ¬ (IsRefusedReply bytes fault)
