-- The request by which a filer files a report (RFC 9110 and RFC 9112).
use Rattle.std.specs.Prelude.{◌≡◌, ℕ, ◌<◌, ◌≤◌, ◌^◌, ◌⊎◌, false, List, [], ◌∷◌, ◌++◌, length, codes, Option, Some, None}
use Rattle.std.specs.Fmt.{decimal}
use Rattle.key_string.specs.Key.{spelling}
use Rattle.http_messages.specs.Head.{RequestParts}
use Rattle.http_messages.specs.Message.{Arrival, Read, Ending, Closed, Rest}
use Rattle.http_messages.specs.Reply.{line, length_line}
use Rattle.http_messages.specs.Request.{Request}

-- the number of the filing that is to be replaced, if there is one; own rule: it is above 0, and a table's integer
-- holds it
abbrev pub IsTarget : Option ℕ → Type 0
IsTarget None = Unit {0}
IsTarget (Some n) = (1 ≤ n) × (n < 2 ^ 63)

-- what stands behind the filer's code in a path: nothing, or a slash and the number of the filing that is to be
-- replaced
abbrev pub target_path : Option ℕ → List ℕ
target_path None = []
target_path (Some n) = codes "/" ++ decimal n

-- what stands behind `/filings/`
abbrev pub resource_of : List ℕ → Option ℕ → List ℕ
resource_of filer target = filer ++ target_path target

-- request-line (RFC 9112, section 3): the resource is in the path
unfoldable pub post_line : List ℕ → List ℕ
post_line resource = line (codes "POST /filings/" ++ resource ++ codes " HTTP/1.1")

-- the key as a String (RFC 8941, section 3.3.3)
unfoldable pub key_line : List ℕ → List ℕ
key_line key = line (codes "Idempotency-Key: " ++ spelling key)

-- The head of the request: the resource in the path, the key as a String, and the length of the report. The connection
-- is closed after the reply. This order of lines is an own rule.
unfoldable pub render_post_head : List ℕ → List ℕ → ℕ → List ℕ
render_post_head resource key len =
    post_line resource
    ++ line (codes "Host: localhost")
    ++ key_line key
    ++ line (codes "Content-Type: application/json")
    ++ length_line len
    ++ line (codes "Connection: close")
    ++ codes "\r\n"

-- the bytes of the request
unfoldable pub render_post : List ℕ → Option ℕ → List ℕ → List ℕ → List ℕ
render_post filer target key body = render_post_head (resource_of filer target) key (length body) ++ body

-- the parts of this head
abbrev pub post_parts : List ℕ → List ℕ → ℕ → RequestParts
post_parts resource key len = record {
  method = codes "POST";
  path = codes "/filings/" ++ resource;
  minor = 1;
  fields =
      (codes "Host", codes "localhost")
      ∷ (codes "Idempotency-Key", spelling key)
      ∷ (codes "Content-Type", codes "application/json")
      ∷ (codes "Content-Length", decimal len)
      ∷ (codes "Connection", codes "close")
      ∷ [];
}

-- the request
abbrev pub post_request : List ℕ → Option ℕ → List ℕ → List ℕ → Request
post_request filer target key body =
    record { head = post_parts (resource_of filer target) key (length body); body = body }

-- no resource yet, and no interim response is asked for; or this request alone, after which the connection closes
abbrev pub HoldsAlone : Request → List Arrival → Ending → Type 0
HoldsAlone request arrivals ending =
    ((arrivals ≡ []) × (ending ≡ Rest false)) ⊎ ((arrivals ≡ Read request ∷ []) × (ending ≡ Closed))
