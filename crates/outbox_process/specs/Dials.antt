-- What comes on the connections that are made and what becomes of them, as far as that is known; own rules.
use Rattle.std.specs.Prelude.{◌≡◌, ℕ, Bool, List, [], ◌∷◌, ◌++◌, Option, Some, None, Result, Ok, Err}
use Rattle.http_wire.specs.Wire.{Wire}
use Rattle.filing_model.specs.declared.state.State.{State}
use Rattle.filer_client.specs.declared.fault.ExchangeFault.{ExchangeFault}

-- what became of a connection that is over: for which entry it was made, what the exchange answered, and what was
-- written
pub record Output : Type 0 where
  pub id : ℕ
  pub came : Result State ExchangeFault
  pub bytes : List ℕ

-- What contracts see of a network: the bytes of each connection that is made from here on, and what became of each that
-- is over, if that is known; and whether the network gives up.
pub record Traffic : Type 0 where
  pub coming : Option (List (List ℕ))
  pub over : Option (List Output)
  pub gives_up : Bool

-- the first of the known connections is taken, and has these bytes
abbrev pub Takes : Option (List (List ℕ)) → Option (List (List ℕ)) → Option (List ℕ) → Type 0
Takes None after bytes = Unit {0}
Takes (Some []) after bytes = ⊥
Takes (Some (first ∷ more)) after bytes = (after ≡ Some more) × (bytes ≡ Some first)

-- nothing is written yet on a new connection, if the network records what becomes of each
abbrev pub IsUnwritten : Option (List Output) → Option (List ℕ) → Type 0
IsUnwritten None written = Unit {0}
IsUnwritten (Some outputs) written = written ≡ Some []

-- A connection was made, of which nothing is read or written; or none was made, and nothing changed. The first argument
-- is what contracts see of the two halves of a connection.
abbrev pub Connects : {R W E : Type 0} → (R → W → Wire) → Traffic → Traffic → Result (R × W) E → Type 0
Connects shows old new (Ok (reader, writer)) =
    (new.over ≡ old.over) × Takes old.coming new.coming (shows reader writer).left
    × IsUnwritten old.over (shows reader writer).written
Connects shows old new (Err error) = new ≡ old

-- if the outputs are known now, they were known before, and these were added behind them
abbrev pub Grows : Option (List Output) → Option (List Output) → List Output → Type 0
Grows before None more = Unit {0}
Grows before (Some outputs) more = (earlier : List Output) × (before ≡ Some earlier) × (outputs ≡ earlier ++ more)

-- if the outputs are known now, that of one connection was added: it was made for the entry of this id, its exchange
-- answered this, and this was written on it
abbrev pub Adds : Option (List Output) → Option (List Output) → ℕ → Result State ExchangeFault → Option (List ℕ)
    → Type 0
Adds before None id came written = Unit {0}
Adds before (Some outputs) id came None = ⊥
Adds before (Some outputs) id came (Some bytes) =
    Grows before (Some outputs) (record { id = id; came = came; bytes = bytes } ∷ [])
