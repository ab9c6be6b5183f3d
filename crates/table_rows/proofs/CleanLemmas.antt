-- Over disks that give back what was written, each connection is clean.
use Rattle.std.proofs.Common.{◌≡◌, true, refl}
use Rattle.sqlite_disk.specs.declared.Disk.{Ghosts}
use Rattle.sqlite_store.specs.declared.store.FileStore.{FileStore}
use Rattle.sqlite_pool.specs.Pool.{state}
use Rattle.sqlite_trees.specs.View.{doubt}
use Rattle.sqlite_wal.specs.Reads.{AreClean}
use Rattle.sqlite.specs.Held.{Held}
use Rattle.sqlite.specs.State.{HasCleanDisk}
use Rattle.sqlite.specs.Files.{file_state}

pub are_clean : {D : Type 0} (g : Ghosts D) → ((d : D) → g.is_clean d ≡ true) → (log db : D) → AreClean g log db
are_clean g honest log db = rw (honest log, honest db) refl

pub always_clean : {D : Type 0} {g : Ghosts D} → ((d : D) → g.is_clean d ≡ true) → (c : Held (FileStore D g))
    → HasCleanDisk (file_state c)
unfolding state doubt
always_clean {D} {g} honest c =
    rw (honest c.store.pool.backing.pager.log.log, honest c.store.pool.backing.pager.log.db) refl
