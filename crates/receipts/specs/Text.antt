-- The text of a receipt.
use Rattle.std.specs.Prelude.{ℕ, List, ◌++◌, length, codes, Option, Some, None}
use Rattle.std.specs.Fmt.{decimal}
use Rattle.std.specs.Str.Lossy.{utf8_lossy}
use Rattle.hex.specs.Hex.{encode_lower}
use Rattle.sha2.specs.Sha256.{sha256}
use Rattle.serde_json.specs.Data.{string}
use Rattle.serde_json.specs.Written.{compact_text}
use Rattle.http_messages.specs.Reply.{ReplyParts}
use Rattle.filing_model.specs.Request.{Request}

-- a text as JSON
abbrev pub json_text : List ℕ → List ℕ
json_text text = compact_text (string text)

-- the SHA-256 digest of a body in hexadecimal digits
unfoldable pub digest_text : List ℕ → List ℕ
digest_text body = encode_lower (sha256 body)

-- the number of the filing that the report replaces, if it replaces one
abbrev pub target_text : Option ℕ → List ℕ
target_text None = codes "null"
target_text (Some n) = decimal n

-- the members of a receipt, in byte order of their names, up to the key
abbrev pub front_part : ℕ → Request → List ℕ → List ℕ
front_part id sent content =
    codes "{\"content\":" ++ json_text (utf8_lossy content) ++ codes ",\"entry\":" ++ decimal id
    ++ codes ",\"filer\":" ++ json_text sent.filer ++ codes ",\"key\":" ++ json_text sent.key

-- the members from the length of the report to the port
abbrev pub middle_part : ℕ → List ℕ → ℕ → List ℕ
middle_part len moment port =
    codes ",\"length\":" ++ decimal len ++ codes ",\"moment\":" ++ json_text moment ++ codes ",\"port\":"
    ++ decimal port

-- the members from the digest on
abbrev pub back_part : List ℕ → ℕ → Option ℕ → List ℕ
back_part body status target =
    codes ",\"sha256\":\"" ++ digest_text body ++ codes "\",\"status\":" ++ decimal status
    ++ codes ",\"target\":" ++ target_text target ++ codes "}\n"

-- a receipt: a JSON object on a line
abbrev pub receipt_text : ℕ → Request → ReplyParts → List ℕ → ℕ → List ℕ
receipt_text id sent reply moment port =
    (front_part id sent reply.content ++ middle_part (length sent.body) moment port)
    ++ back_part sent.body reply.status sent.target
