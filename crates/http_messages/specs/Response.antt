-- Reading a reply: interim responses, and then the final one with its content (RFC 9110 and RFC 9112).
use Rattle.std.specs.Prelude.{◌≡◌, ◌≢◌, ℕ, ◌+◌, ◌<◌, ◌≤◌, IsSome, Bool, true, false, List, [], length, take, drop}
use Rattle.std.specs.Prelude.{slice_range, codes, nat_le, ◌&&◌, map, ◌∷◌, if◌then◌else◌}
use Rattle.httparse.specs.Ascii.{semicolon}
use Rattle.httparse.specs.Grammar.{ResponseHead, ReadsResponse, status_code, trim_ows}
use Rattle.httparse.specs.Spans.{name_and_value}
use Rattle.http_uri.specs.ByteClasses.{split_once_front}
use Rattle.http_messages.specs.Block.{skipped_len, IsBlockEnd}
use Rattle.http_messages.specs.Head.{HasPlainLines, max_fields, same_name, values_named, parts_named, agree}
use Rattle.http_messages.specs.Head.{agreed_number}
use Rattle.http_messages.specs.Reply.{ReplyParts, phrase, media_type}
use Rattle.http_messages.specs.declared.reply.Kind.{Kind}
use Rattle.http_messages.specs.declared.reply.Kind.TheVariants.{Json, Problem}

-- own rule: the most bytes of a reply's content that a client reads
abbrev pub max_content_len : ℕ
max_content_len = 8388608

-- the status of a reply's head, and its fields without the white space around their values
pub record ResponseParts : Type 0 where
  pub status : ℕ
  pub fields : List (List ℕ × List ℕ)

-- the block is a response head with these parts (RFC 9112, sections 4 and 5), as `httparse` reads it by default
pub record ReadsResponseHead (block : List ℕ) (parts : ResponseParts) : Type 0 where
  pub lines : HasPlainLines block
  pub head : ResponseHead
  pub reads : ReadsResponse block head []
  pub few : length head.fields ≤ max_fields
  pub status : parts.status ≡ status_code head
  pub fields : parts.fields ≡ map name_and_value head.fields

-- the bytes begin with this head, and it ends after n bytes
pub record BeginsResponseHead (bytes : List ℕ) (parts : ResponseParts) (n : ℕ) : Type 0 where
  pub block : IsBlockEnd bytes n
  pub head : ReadsResponseHead (slice_range bytes (skipped_len bytes) n) parts

-- an interim response (RFC 9110, section 15.2)
abbrev pub is_interim : ℕ → Bool
is_interim status = nat_le 100 status && nat_le status 199

-- the bytes begin with the heads of interim responses, and these end after n bytes
pub data BeginsInterims : List ℕ → ℕ → Type 0 where
  none : {bytes : List ℕ} → BeginsInterims bytes 0
  more : {bytes : List ℕ} {parts : ResponseParts} {n m : ℕ}
      → BeginsResponseHead bytes parts n → is_interim parts.status ≡ true → BeginsInterims (drop n bytes) m
      → BeginsInterims bytes (n + m)

-- the head is final and declares its content, which has no transfer coding and is within the client's limit (RFC 9112,
-- section 6.3)
pub record DeclaresContent (parts : ResponseParts) (len : ℕ) : Type 0 where
  pub final : is_interim parts.status ≡ false
  pub uncoded : values_named (codes "transfer-encoding") parts.fields ≡ []
  pub declared : values_named (codes "content-length") parts.fields ≢ []
  pub agreed : agree (parts_named (codes "content-length") parts.fields) ≡ true
  pub length_is : len ≡ agreed_number (parts_named (codes "content-length") parts.fields)
  pub short : len ≤ max_content_len

-- the media type that a value of Content-Type names: what stands before its parameters (RFC 9110, section 8.3.1)
abbrev pub named_type : List ℕ → List ℕ
named_type value = trim_ows (split_once_front semicolon value)

-- one line names the media type of problem details, without case (RFC 9110, section 8.3.1); own rule: anything else is
-- read as JSON
abbrev pub kind_by : List (List ℕ) → Kind
kind_by [] = Json
kind_by (value ∷ []) = if same_name (named_type value) (media_type Problem) then Problem else Json
kind_by (value ∷ another ∷ values) = Json

-- what the fields of a head say of the content
abbrev pub kind_of : List (List ℕ × List ℕ) → Kind
kind_of fields = kind_by (values_named (codes "content-type") fields)

-- the bytes begin with this reply, and it ends after n bytes
pub record BeginsReply (bytes : List ℕ) (reply : ReplyParts) (n : ℕ) : Type 0 where
  pub skipped : ℕ
  pub interims : BeginsInterims bytes skipped
  pub parts : ResponseParts
  pub head_len : ℕ
  pub head : BeginsResponseHead (drop skipped bytes) parts head_len
  pub declares : DeclaresContent parts (length reply.content)
  pub status : reply.status ≡ parts.status
  pub kind : reply.kind ≡ kind_of parts.fields
  pub length_is : n ≡ skipped + head_len + length reply.content
  pub whole : n ≤ length bytes
  pub content : reply.content ≡ slice_range bytes (skipped + head_len) n

-- the bytes are the spelling of this reply
abbrev pub SpellsReply : List ℕ → ReplyParts → Type 0
SpellsReply bytes reply = BeginsReply bytes reply (length bytes)

-- some of these bytes, from the first on, spell the reply
abbrev pub GivesReply : List ℕ → ReplyParts → Type 0
GivesReply bytes reply = (n : ℕ) × SpellsReply (take n bytes) reply

-- a final reply of a known status, with content within the client's limit
pub record IsReadable (reply : ReplyParts) : Type 0 where
  pub named : IsSome (phrase reply.status)
  pub final : reply.status ≢ 100
  pub some : 0 < length reply.content
  pub short : length reply.content ≤ max_content_len
