-- What holds of the digests of any two registers.
use Rattle.std.specs.Prelude.{◌≡◌, ◌≢◌, ◌⊎◌, ◌<◌, ◌^◌, ℕ, suc, List, [], ◌∷◌, ◌++◌, length, Option, Some, None, true}
use Rattle.key_string.specs.Filer.{is_filer}
use Rattle.key_string.specs.Key.{IsKey}
use Rattle.sha2.specs.Sha256.{sha256}
use Rattle.std.specs.List.{AllByRecursion}
use Rattle.filing_model.specs.Request.{Request, firsts}
use Rattle.register_rows.specs.Register.{IsCompleted}
use Rattle.register_extracts.specs.Digest.{Row, row_text, first_digest, next_digest}

-- the text is one of these
abbrev pub IsOneOf : List ℕ → List (List ℕ) → Type 0
IsOneOf x [] = ⊥
IsOneOf x (y ∷ ys) = (x ≡ y) ⊎ IsOneOf x ys

-- Of one of these texts and another one of those SHA-256 makes one digest: such a pair is not known. The lists say
-- where it is to be found, since somewhere among all texts there are such pairs.
abbrev pub Collide : List (List ℕ) → List (List ℕ) → Type 0
Collide xs ys = (x y : List ℕ) × IsOneOf x xs × IsOneOf y ys × (x ≢ y) × (sha256 x ≡ sha256 y)

-- the bodies of rows
abbrev pub bodies : List Row → List (List ℕ)
bodies [] = []
bodies (r ∷ rows) = r.request.body ∷ bodies rows

-- the texts of which SHA-256 is taken for the digest with these requests more
unfoldable pub hashed_after : List ℕ → ℕ → List Row → List (List ℕ)
hashed_after before seq [] = []
hashed_after before seq (r ∷ rows) =
    (before ++ row_text seq r) ∷ r.request.body ∷ hashed_after (next_digest before seq r) (suc seq) rows

-- the texts of which SHA-256 is taken for the digest of these requests
abbrev pub hashed : List Row → List (List ℕ)
hashed rows = [] ∷ hashed_after first_digest 1 rows

-- a number, if there is one, fits 64 bits
abbrev pub FitsIfAny : Option ℕ → Type 0
FitsIfAny None = Unit {0}
FitsIfAny (Some n) = n < 2 ^ 64

-- a row as a register has it
pub record IsSound (r : Row) : Type 0 where
  pub filer : is_filer r.request.filer ≡ true
  pub key : IsKey r.request.key
  pub target : FitsIfAny r.request.target
  pub number : FitsIfAny r.number
  pub moment : FitsIfAny r.moment

-- the texts of rows, of which the first is at this place
abbrev pub texts_from : ℕ → List Row → List (List ℕ)
texts_from seq [] = []
texts_from seq (r ∷ rows) = row_text seq r ∷ texts_from (suc seq) rows

-- the texts of rows, one after another
abbrev pub joined_from : ℕ → List Row → List ℕ
joined_from seq [] = []
joined_from seq (r ∷ rows) = row_text seq r ++ joined_from (suc seq) rows

-- the requests that a register keeps, each with its moment, if that is known: each was completed, and is the first of
-- its filer and key
pub record IsRegister (requests : List Request) (moments : List (Option ℕ)) : Type 0 where
  pub distinct : firsts requests ≡ requests
  pub completed : AllByRecursion IsCompleted requests
  pub few : length requests < 2 ^ 63
  pub one_each : length moments ≡ length requests
  pub within : AllByRecursion FitsIfAny moments
