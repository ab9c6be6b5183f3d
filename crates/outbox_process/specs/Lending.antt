-- What the process ends as that lends its outbox.
use Rattle.std.specs.Prelude.{Option, Some}
use Rattle.std.specs.Borrow.{LendsIf, Fml, RattleType, MutBor}
use Rattle.sqlite_disk.specs.declared.Disk as disk
use Rattle.sqlite_store.specs.declared.store.FileStore.{FileStore}
use Rattle.sqlite_store.specs.contracts.store.FileStore as file
use Rattle.sqlite.specs.Files.{over_files}
use Rattle.outbox_core.specs.OutboxParts.{OutboxParts}
use Rattle.outbox_core.specs.contracts.outbox.Outbox as outbox
use Rattle.outbox_process.specs.declared.process.OutboxProcess.{OutboxProcess}
use Rattle.outbox_process.specs.contracts.process.OutboxProcess as process

-- once the borrow ends, the outbox is the last one behind it, and nothing else has changed; a process that is closed
-- stays as it is
abbrev pub LendsOutbox : (D P : RattleType) (g : disk.Ghosts D.Denot) → MutBor (OutboxProcess D.Denot P.Denot g)
    → Option (MutBor (OutboxParts (FileStore D.Denot g))) → Fml
LendsOutbox D P g self result =
    LendsIf (process.the_row D P g) (outbox.the_row (file.the_row D g) over_files) self result
    (λ last. record self.now { outbox = Some last }) self.now
