-- The entries of an outbox as a list, numbered from 1.
use Rattle.std.specs.Prelude.{◌≡◌, ℕ, suc, ◌≤◌, ◌<◌, ◌^◌, true, false, List, [], ◌∷◌, bytes_eq, Option, option_and_then}
use Rattle.std.specs.List.{AllByRecursion}
use Rattle.key_string.specs.Filer.{is_filer}
use Rattle.filing_model.specs.Numbered.{numbered as element}
use Rattle.filing_model.specs.Outbox.{Entry, State, Confirmed, IsSendable, request_of}

-- what a filer has to send
pub record Contents : Type 0 where
  pub filer : List ℕ
  pub entries : List Entry

abbrev pub contents_of : List ℕ → List Entry → Contents
contents_of filer entries = record { filer = filer; entries = entries }

-- a filer with nothing to send
abbrev pub empty : List ℕ → Contents
empty filer = record { filer = filer; entries = [] }

-- the entries with their ids, the first of which is this one
abbrev pub numbered_from : ℕ → List Entry → List (ℕ × Entry)
numbered_from id [] = []
numbered_from id (e ∷ es) = (id, e) ∷ numbered_from (suc id) es

abbrev pub numbered : List Entry → List (ℕ × Entry)
numbered = numbered_from 1

-- the entry of an id, if there is one
abbrev pub entry_at : List Entry → ℕ → Option Entry
entry_at = element

-- the filing that the entry of an id is to replace, if it is to replace one
abbrev pub target_at : List Entry → ℕ → Option ℕ
target_at entries id = option_and_then (λ e. e.target) (entry_at entries id)

-- a number of the register is from 1 to 2^63 - 1
abbrev pub FitsNumber : State → Type 0
FitsNumber (Confirmed number) = (1 ≤ number) × (number < 2 ^ 63)
FitsNumber _ = Unit {0}

-- no two entries have one key
abbrev pub AreDistinct : List Entry → Type 0
AreDistinct [] = Unit {0}
AreDistinct (e ∷ es) = AllByRecursion (λ b. bytes_eq b.key e.key ≡ false) es × AreDistinct es

-- contents as an outbox may have them
pub record IsOutbox (it : Contents) : Type 0 where
  pub filer : is_filer it.filer ≡ true
  pub sendable : AllByRecursion (λ e. IsSendable (request_of it.filer e)) it.entries
  pub numbers : AllByRecursion (λ e. FitsNumber e.state) it.entries
  pub distinct : AreDistinct it.entries
