-- The name of a receipt, and which receipt a file has; own rules.
use Rattle.std.specs.Prelude.{ℕ, ◌==◌, Bool, false, ◌&&◌, List, ◌++◌, take, codes, Option, Some, None, option_map}
use Rattle.std.specs.Prelude.{option_and_then, unwrap_or}
use Rattle.std.specs.Fmt.{decimal}
use Rattle.hex.specs.Hex.{encode_lower}
use Rattle.sha2.specs.Sha256.{sha256}
use Rattle.serde_json.specs.Data.{Data}
use Rattle.serde_json.specs.Find.{get, as_number, as_u64}
use Rattle.filing_model.specs.Outbox.{has_word}
use Rattle.filing_model.specs.Request.{Request}

-- the first eight hexadecimal digits of the SHA-256 digest of a key
unfoldable pub key_digits : List ℕ → List ℕ
key_digits key = encode_lower (take 4 (sha256 key))

-- FILER-ID-DIGITS.json
abbrev pub receipt_name : ℕ → Request → List ℕ
receipt_name id sent =
    sent.filer ++ codes "-" ++ decimal id ++ codes "-" ++ key_digits sent.key ++ codes ".json"

-- the member `entry`, if it is a whole number that is not below zero
abbrev pub entry_told : Data → Option ℕ
entry_told d = option_and_then as_u64 (option_and_then as_number (get (codes "entry") d))

-- an object says the filer, the key and the id of an entry
abbrev pub tells_of : ℕ → Request → Data → Bool
tells_of id sent d =
    has_word (codes "filer") sent.filer d && has_word (codes "key") sent.key d
    && unwrap_or (option_map (λ told. told == id) (entry_told d)) false

-- a text that is this JSON, or none, is a receipt of the entry
abbrev pub is_receipt_of : ℕ → Request → Option Data → Bool
is_receipt_of id sent None = false
is_receipt_of id sent (Some d) = tells_of id sent d
