-- An entry is sent, on a connection of its own, and its state is printed; own rules.
use Rattle.std.specs.Prelude.{◌≡◌, ◌⊎◌, ℕ, List, [], ◌∷◌, Option, Some, None, option_map, Result, Ok, Err}
use Rattle.std.specs.Io.KnownBytes.{Appends}
use Rattle.sqlite.specs.Store.{Ghosts}
use Rattle.sqlite.specs.State.{HasCleanDisk}
use Rattle.http_wire.specs.Wire.{Wire}
use Rattle.filing_model.specs.Outbox.{Entry, Open, moved}
use Rattle.filing_model.specs.Views.{view_state}
use Rattle.filing_model.specs.declared.state.State.{State}
use Rattle.outbox_tables.specs.Entries.{entry_at}
use Rattle.outbox_core.specs.Entries.{first_open, set_state}
use Rattle.outbox_core.specs.OutboxParts.{OutboxParts, shows, HasEntries, ForEntries}
use Rattle.filer_client.specs.declared.fault.ExchangeFault.{ExchangeFault}
use Rattle.filer_client.specs.Exchange.{Hears, IsFault, IsOpenRequest, IsSettled, WritesBefore}
use Rattle.outbox_process.specs.declared.fault.Why.{Why}
use Rattle.outbox_process.specs.declared.fault.Why.TheVariants.{Exchange}
use Rattle.outbox_process.specs.Dials.{Output, Traffic, Takes, Grows}
use Rattle.outbox_process.specs.Faults.{IsUnconnected, IsUnread, IsNotPrinted}
use Rattle.outbox_process.specs.Lines.{line_of, nothing_open}
use Rattle.outbox_process.specs.Looking.{AreAny, IsNotFound, DoesNothing}

-- ---- one entry that is tried

-- one connection was made, on which these bytes were to come, and this became of it
abbrev pub IsOneConnection : Traffic → Traffic → Option (List ℕ) → Output → Type 0
IsOneConnection old new left output = Takes old.coming new.coming left × Grows old.over new.over (output ∷ [])

-- the entry of this id is open
abbrev pub IsOpenAt : List Entry → ℕ → Type 0
IsOpenAt entries id = option_map (λ e. e.state) (entry_at entries id) ≡ Some Open

-- Of an entry that is not open the state is answered, and no connection was made. Of an open one the whole request was
-- written, on a connection of its own, and it moves by the reply that was read there.
abbrev pub IsSentOnce : List ℕ → List Entry → ℕ → Traffic → Traffic → State → Type 0
IsSentOnce filer entries id old new to =
    (IsSettled entries id (view_state to) × (new ≡ old))
    ⊎ ((text : List ℕ) × (left left' : Option (List ℕ)) × IsOpenRequest filer entries id text
    × IsOneConnection old new left (record { id = id; came = Ok to; bytes = text })
    × Hears left left' (λ reply. view_state to ≡ moved Open reply))

-- A connection was made, a first part of the request was written on it, and it failed for the cause that the fault
-- says, by the failures of the reader and the writer.
abbrev pub IsBroken : List ℕ → List Entry → ℕ → Traffic → Traffic → ExchangeFault → Type 0
IsBroken filer entries id old new fault =
    (bytes : List ℕ) × (from to : Wire) × WritesBefore filer entries id (Some []) (Some bytes) fault
    × IsOneConnection old new from.left (record { id = id; came = Err fault; bytes = bytes })
    × IsFault from.left to.left from.read_failures to.read_failures from.write_failures to.write_failures fault

-- The entry is open, and no connection was made; or one was made, and the exchange on it was broken off.
abbrev pub IsBrokenOff : List ℕ → List Entry → ℕ → Traffic → Traffic → Why → Type 0
IsBrokenOff filer entries id old new why =
    IsOpenAt entries id
    × ((IsUnconnected why × (new ≡ old))
    ⊎ ((fault : ExchangeFault) × (why ≡ Exchange id fault) × IsBroken filer entries id old new fault))

-- the entry was sent, or its exchange was broken off
abbrev pub IsTried : List ℕ → List Entry → ℕ → Traffic → Traffic → Result State Why → Type 0
IsTried filer entries id old new (Ok to) = IsSentOnce filer entries id old new to
IsTried filer entries id old new (Err why) = IsBrokenOff filer entries id old new why

-- the entries after one of them was tried
abbrev pub entries_after : {E : Type 0} → List Entry → ℕ → Result State E → List Entry
entries_after entries id (Ok to) = set_state entries id (view_state to)
entries_after entries id (Err fault) = entries

-- If `Are` holds of the entries before, the entry of an id was tried, and this came of it.
pub record Tries {S : Type 0} (g : Ghosts S) (Are : List Entry
    → Type 0) (id : ℕ) (old new : Traffic) (box box' : OutboxParts S) (came : Result State Why) : Type 0 where
  pub tried : ForEntries g box box' (λ entries. Are entries
      → IsTried box.filer entries id old new came × HasEntries g box' (entries_after entries id came))
  pub filer : box'.filer ≡ box.filer
  pub clean : HasCleanDisk (shows g box') → HasCleanDisk (shows g box)

-- ---- what is printed and answered

-- what came of an entry was printed and is answered; or it could not be printed
abbrev pub IsTold : ℕ → Result State Why → Option (List ℕ) → Option (List ℕ) → Result State Why → Type 0
IsTold id came out out' result =
    ((result ≡ came) × Appends out out' (line_of id came))
    ⊎ ((why : Why) × (result ≡ Err why) × IsNotPrinted why)

-- The entry of an id was tried, and what came of it was printed.
pub record Sends {S : Type 0} (g : Ghosts S) (Are : List Entry
    → Type 0) (id : ℕ) (old new : Traffic) (box box' : OutboxParts S) (out out' : Option (List ℕ))
    (result : Result State Why) : Type 0 where
  pub came : Result State Why
  pub tries : Tries g Are id old new box box' came
  pub told : IsTold id came out out' result

-- the entry of an id was sent, if it is open; or it was not found, and nothing was done
abbrev pub SendsEntry : {S : Type 0} → Ghosts S → ℕ → Traffic → Traffic → OutboxParts S → OutboxParts S
    → Option (List ℕ) → Option (List ℕ) → Result State Why → Type 0
SendsEntry g id old new box box' out out' result =
    Sends g AreAny id old new box box' out out' result
    ⊎ ((why : Why) × (result ≡ Err why) × IsNotFound g box box' id why
    × DoesNothing g old new box box' out out')

-- the answer of an entry that was found
abbrev pub answer_of_some : Result State Why → Result (Option State) Why
answer_of_some (Ok state) = Ok (Some state)
answer_of_some (Err why) = Err why

-- the open entry with the least id was sent
pub record SendsFirst {S : Type 0} (g : Ghosts S) (old new : Traffic) (box box' : OutboxParts S)
    (out out' : Option (List ℕ)) (result : Result (Option State) Why) : Type 0 where
  pub id : ℕ
  pub first : ForEntries g box box' (λ entries. option_map (λ e. e.0) (first_open entries) ≡ Some id)
  pub sent : Result State Why
  pub sends : Sends g AreAny id old new box box' out out' sent
  pub answered : result ≡ answer_of_some sent

-- no entry is open, and that was printed, or it could not be
pub record SendsNone {S : Type 0} (g : Ghosts S) (old new : Traffic) (box box' : OutboxParts S)
    (out out' : Option (List ℕ)) (result : Result (Option State) Why) : Type 0 where
  pub none : ForEntries g box box' (λ entries. (first_open entries ≡ None) × HasEntries g box' entries)
  pub filer : box'.filer ≡ box.filer
  pub traffic : new ≡ old
  pub told : ((result ≡ Ok None) × Appends out out' nothing_open)
      ⊎ ((why : Why) × (result ≡ Err why) × IsNotPrinted why)

-- an open entry was sent, or no entry is open; or no entry was read, and nothing was done
abbrev pub SendsNext : {S : Type 0} → Ghosts S → Traffic → Traffic → OutboxParts S → OutboxParts S → Option (List ℕ)
    → Option (List ℕ) → Result (Option State) Why → Type 0
SendsNext g old new box box' out out' result =
    SendsFirst g old new box box' out out' result
    ⊎ (SendsNone g old new box box' out out' result
    ⊎ ((why : Why) × (result ≡ Err why) × IsUnread why × DoesNothing g old new box box' out out'))
