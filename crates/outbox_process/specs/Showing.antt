-- Entries are shown; own rules.
use Rattle.std.specs.Prelude.{◌≡◌, ◌⊎◌, ℕ, List, map, take, flat_map, Option, Some, Result, Err, OnOk, IfErr}
use Rattle.std.specs.Io.KnownBytes.{Appends}
use Rattle.sqlite.specs.Store.{Ghosts}
use Rattle.sqlite.specs.State.{HasCleanDisk}
use Rattle.filing_model.specs.Outbox.{Entry}
use Rattle.filing_model.specs.declared.state.State.{State as Stored}
use Rattle.outbox_tables.specs.Entries.{entry_at, numbered}
use Rattle.outbox_core.specs.OutboxParts.{OutboxParts, shows, HasEntries, ForEntries}
use Rattle.outbox_core.specs.Reading.{view_pair, id_and_state}
use Rattle.outbox_process.specs.declared.fault.Why.{Why}
use Rattle.outbox_process.specs.Faults.{IsUnread, IsNotPrinted}
use Rattle.outbox_process.specs.Lines.{state_line, long_line}
use Rattle.outbox_process.specs.Looking.{IsNotFound}

-- The state of each entry was printed, in the order of the ids. A fault says that none was read, and then nothing was
-- printed, or that the text could not be printed.
pub record ShowsStates {S X : Type 0} (g : Ghosts S) (box box' : OutboxParts S) (out out' : Option (List ℕ))
    (result : Result X Why) : Type 0 where
  pub shown : ForEntries g box box' (λ entries. OnOk result (Appends out out' (flat_map state_line (numbered entries))))
  pub fault : IfErr result (λ why. (IsUnread why × (out' ≡ out)) ⊎ IsNotPrinted why)
  pub kept : ForEntries g box box' (HasEntries g box')
  pub filer : box'.filer ≡ box.filer

-- The entry of an id was found, and this was printed of it, or could not be; or it was not found, and nothing was
-- printed.
abbrev pub IsShown : {S X : Type 0} → Ghosts S → (ℕ × Entry
    → List ℕ) → ℕ → OutboxParts S → OutboxParts S → Option (List ℕ) → Option (List ℕ) → Result X Why → Type 0
IsShown g text_of id box box' out out' result =
    ((entry : Entry) × ForEntries g box box' (λ entries. entry_at entries id ≡ Some entry)
    × OnOk result (Appends out out' (text_of (id, entry))) × IfErr result IsNotPrinted)
    ⊎ ((why : Why) × (result ≡ Err why) × IsNotFound g box box' id why × (out' ≡ out))

-- the bytes of its report
abbrev pub body_of : ℕ × Entry → List ℕ
body_of (id, entry) = entry.body

pub record ShowsEntry {S X : Type 0} (g : Ghosts S) (text_of : ℕ × Entry
    → List ℕ) (id : ℕ) (box box' : OutboxParts S) (out out' : Option (List ℕ))
    (result : Result X Why) : Type 0 where
  pub shown : IsShown g text_of id box box' out out' result
  pub kept : ForEntries g box box' (HasEntries g box')
  pub filer : box'.filer ≡ box.filer
  pub clean : HasCleanDisk (shows g box') → HasCleanDisk (shows g box)

-- these are the ids and the states of the entries
abbrev pub AreTold : List (ℕ × Stored) → List Entry → Type 0
AreTold told entries = map view_pair told ≡ map id_and_state (numbered entries)

-- If `Are` holds of the entries before, the long line of each was printed, in the order of the ids. A fault says that
-- an entry was not read, and then the lines of the first ones were printed, or that a line could not be printed.
pub record ShowsEach {S X : Type 0} (g : Ghosts S) (Are : List Entry
    → Type 0) (box box' : OutboxParts S) (out out' : Option (List ℕ)) (result : Result X Why) : Type 0 where
  pub shown : ForEntries g box box' (λ entries. Are entries
      → OnOk result (Appends out out' (flat_map long_line (numbered entries))))
  pub fault :
      ForEntries g box box' (λ entries. Are entries → IfErr result (λ fault.
      (IsUnread fault × ((count : ℕ) × Appends out out' (flat_map long_line (take count (numbered entries)))))
      ⊎ IsNotPrinted fault))
  pub kept : ForEntries g box box' (HasEntries g box')
  pub filer : box'.filer ≡ box.filer
  pub clean : HasCleanDisk (shows g box') → HasCleanDisk (shows g box)
