-- Entries are read, and nothing else is done.
use Rattle.std.specs.Prelude.{◌≡◌}
use Rattle.sqlite.specs.Store.{Ghosts}
use Rattle.sqlite.specs.State.{HasCleanDisk}
use Rattle.outbox_core.specs.OutboxParts.{OutboxParts, shows, HasEntries, ForEntries}

-- The entries and their filer are unchanged.
pub record KeepsEntries {S : Type 0} (g : Ghosts S) (old new : OutboxParts S) : Type 0 where
  pub entries : ForEntries g old new (HasEntries g new)
  pub filer : new.filer ≡ old.filer
  pub clean : HasCleanDisk (shows g new) → HasCleanDisk (shows g old)
