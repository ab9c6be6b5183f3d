-- A look for an entry that found none, and did nothing.
use Rattle.std.specs.Prelude.{◌≡◌, ◌⊎◌, ℕ, List, Option, None}
use Rattle.sqlite.specs.Store.{Ghosts}
use Rattle.filing_model.specs.Outbox.{Entry}
use Rattle.outbox_tables.specs.Entries.{entry_at}
use Rattle.outbox_core.specs.OutboxParts.{OutboxParts, HasEntries, ForEntries}
use Rattle.outbox_process.specs.declared.fault.Why.{Why}
use Rattle.outbox_process.specs.declared.fault.Why.TheVariants.{NoEntry}
use Rattle.outbox_process.specs.Dials.{Traffic}
use Rattle.outbox_process.specs.Faults.{IsUnread}

-- any entries
abbrev pub AreAny : List Entry → Type 0
AreAny entries = Unit {0}

-- no entry was read, or no entry has the id
abbrev pub IsNotFound : {S : Type 0} → Ghosts S → OutboxParts S → OutboxParts S → ℕ → Why → Type 0
IsNotFound g box box' id why =
    IsUnread why ⊎ ((why ≡ NoEntry id) × ForEntries g box box' (λ entries. entry_at entries id ≡ None))

-- the entries and their filer are unchanged, no connection was made, and nothing was printed
pub record DoesNothing {S : Type 0} (g : Ghosts S) (old new : Traffic) (box box' : OutboxParts S)
    (out out' : Option (List ℕ)) : Type 0 where
  pub entries : ForEntries g box box' (HasEntries g box')
  pub filer : box'.filer ≡ box.filer
  pub traffic : new ≡ old
  pub output : out' ≡ out
