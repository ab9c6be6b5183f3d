-- The digest of a register: what it is computed of, and how.
use Rattle.std.specs.Prelude.{◌≡◌, ℕ, suc, List, [], ◌∷◌, ◌++◌, map, take, zip, length, codes, Option, Some, None}
use Rattle.std.specs.Fmt.{decimal}
use Rattle.hex.specs.Hex.{encode_lower}
use Rattle.sha2.specs.Sha256.{sha256}
use Rattle.filing_model.specs.Request.{Request}
use Rattle.filing_model.specs.Register.{Kept, kept}
use Rattle.register_rows.specs.Register.{number_of}

-- what the digest is computed of, of a kept request: the request, its number if it was registered, and the moment of
-- its receipt if that is known
pub record Row : Type 0 where
  pub request : Request
  pub number : Option ℕ
  pub moment : Option ℕ

-- the row of a kept request that was received at this moment, if that is known
abbrev pub row_of : Kept → Option ℕ → Row
row_of k moment = record { request = k.request; number = number_of k.outcome; moment = moment }

-- the rows of kept requests, each with its moment, in order
abbrev pub rows_with : List Kept → List (Option ℕ) → List Row
rows_with ks moments = map (λ p. row_of p.0 p.1) (zip ks moments)

-- the rows of the requests that a register keeps, each with its moment, in order
abbrev pub rows_of : List Request → List (Option ℕ) → List Row
rows_of requests moments = rows_with (kept requests) moments

-- a text, and the line feed that ends it
unfoldable pub line : List ℕ → List ℕ
line text = text ++ 10 ∷ []

-- a number in decimal, or `-`
abbrev pub number_text : Option ℕ → List ℕ
number_text None = codes "-"
number_text (Some n) = decimal n

-- the SHA-256 digest of a body in hexadecimal digits
unfoldable pub body_text : List ℕ → List ℕ
body_text body = encode_lower (sha256 body)

-- these texts, each on a line
unfoldable pub lines : List (List ℕ) → List ℕ
lines [] = []
lines (text ∷ texts) = line text ++ lines texts

-- what stands on the lines of the request at this place, counted from 1
abbrev pub fields : ℕ → Row → List (List ℕ)
fields seq r =
    decimal seq ∷ r.request.filer ∷ r.request.key ∷ number_text r.request.target ∷ number_text r.number
    ∷ number_text r.moment ∷ body_text r.request.body ∷ []

-- the text of the row of the request at this place: seven lines
abbrev pub row_text : ℕ → Row → List ℕ
row_text seq r = lines (fields seq r)

-- the digest of no request
unfoldable pub first_digest : List ℕ
first_digest = sha256 []

-- the digest with one request more, at this place
unfoldable pub next_digest : List ℕ → ℕ → Row → List ℕ
next_digest before seq r = sha256 (before ++ row_text seq r)

-- the digest with these requests more, of which the first is at this place
unfoldable pub digest_after : List ℕ → ℕ → List Row → List ℕ
digest_after before seq [] = before
digest_after before seq (r ∷ rows) = digest_after (next_digest before seq r) (suc seq) rows

-- the digest of these requests, from the first on
abbrev pub digest_of : List Row → List ℕ
digest_of rows = digest_after first_digest 1 rows

-- the digest of the first kept requests, so many, with their moments
abbrev pub digest_until : ℕ → List Request → List (Option ℕ) → List ℕ
digest_until count requests moments = digest_of (take count (rows_of requests moments))

-- a running digest of these requests: so many, and their digest
pub record IsDigestOf (count : ℕ) (digest : List ℕ) (rows : List Row) : Type 0 where
  pub count_is : count ≡ length rows
  pub digest_is : digest ≡ digest_of rows
