-- The bytes of a reply (RFC 9112, sections 2.1 and 4).
use Rattle.std.specs.Prelude.{ℕ, Bool, List, [], ◌∷◌, ◌++◌, length, codes, Option, Some, None, unwrap_or, nat_lt, ◌==◌}
use Rattle.std.specs.Prelude.{if◌then◌else◌}
use Rattle.std.specs.Fmt.{decimal}
use Rattle.http_messages.specs.declared.reply.Kind.{Kind}
use Rattle.http_messages.specs.declared.reply.Kind.TheVariants.{Json, Problem}

-- a status, a content and what the content is
pub record ReplyParts : Type 0 where
  pub status : ℕ
  pub content : List ℕ
  pub kind : Kind

-- the media type of a content (RFC 8259, section 11; RFC 9457, section 3)
abbrev pub media_type : Kind → List ℕ
media_type Json = codes "application/json"
media_type Problem = codes "application/problem+json"

-- the phrases of the statuses that the intake answers with (RFC 9110, section 15; for 431 RFC 6585, section 5)
abbrev pub phrases : List (ℕ × List ℕ)
phrases =
    (100, codes "Continue") ∷ (200, codes "OK") ∷ (201, codes "Created") ∷ (400, codes "Bad Request")
    ∷ (404, codes "Not Found") ∷ (405, codes "Method Not Allowed") ∷ (411, codes "Length Required")
    ∷ (413, codes "Content Too Large") ∷ (415, codes "Unsupported Media Type")
    ∷ (422, codes "Unprocessable Content") ∷ (431, codes "Request Header Fields Too Large")
    ∷ (501, codes "Not Implemented") ∷ (503, codes "Service Unavailable") ∷ []

abbrev pub phrase_in : List (ℕ × List ℕ) → ℕ → Option (List ℕ)
phrase_in [] status = None
phrase_in (entry ∷ entries) status = if entry.0 == status then Some entry.1 else phrase_in entries status

-- the phrase of a status
unfoldable pub phrase : ℕ → Option (List ℕ)
phrase = phrase_in phrases

-- a line of a head
abbrev pub line : List ℕ → List ℕ
line text = text ++ codes "\r\n"

-- the text if the test holds, and else nothing
abbrev pub only_if : Bool → List ℕ → List ℕ
only_if test text = if test then text else []

-- status-line (RFC 9112, section 4)
unfoldable pub status_line : ℕ → List ℕ
status_line status = line (codes "HTTP/1.1 " ++ decimal status ++ codes " " ++ unwrap_or (phrase status) [])

-- Content-Length (RFC 9110, section 8.6)
unfoldable pub length_line : ℕ → List ℕ
length_line len = line (codes "Content-Length: " ++ decimal len)

-- The head of a reply, which ends with an empty line. Content-Type is of RFC 9110, section 8.3; Allow, which goes with
-- 405, of sections 10.2.1 and 15.5.6; `close` of RFC 9112, section 9.6. Own rules: this order of lines, no
-- Content-Length if there is no content, and no Date, since the intake has no clock.
unfoldable pub render_head : ReplyParts → Bool → List ℕ
render_head reply close =
    status_line reply.status ++ line (codes "Content-Type: " ++ media_type reply.kind)
    ++ only_if (nat_lt 0 (length reply.content)) (length_line (length reply.content))
    ++ only_if (reply.status == 405) (line (codes "Allow: GET, POST"))
    ++ only_if close (line (codes "Connection: close"))
    ++ codes "\r\n"

-- the bytes of a reply
unfoldable pub render : ReplyParts → Bool → List ℕ
render reply close = render_head reply close ++ reply.content
