-- What the process ends as that lends its intake.
use Rattle.std.specs.Prelude.{Option, Some}
use Rattle.std.specs.Borrow.{LendsIf, Fml, RattleType, MutBor}
use Rattle.sqlite_disk.specs.declared.Disk as disk
use Rattle.sqlite_store.specs.declared.store.FileStore.{FileStore}
use Rattle.sqlite_store.specs.contracts.store.FileStore as file
use Rattle.sqlite.specs.Files.{over_files}
use Rattle.intake_core.specs.declared.intake.Intake.{Intake}
use Rattle.intake_core.specs.contracts.intake.Intake as intake
use Rattle.intake_process.specs.declared.process.IntakeProcess.{IntakeProcess}
use Rattle.intake_process.specs.contracts.process.IntakeProcess as process

-- once the borrow ends, the intake is the last one behind it, and nothing else has changed; a process that is closed
-- stays as it is
abbrev pub LendsIntake : (D P : RattleType) (g : disk.Ghosts D.Denot) → MutBor (IntakeProcess D.Denot P.Denot g)
    → Option (MutBor (Intake (FileStore D.Denot g))) → Fml
LendsIntake D P g self result =
    LendsIf (process.the_row D P g) (intake.the_row (file.the_row D g) over_files) self result
    (λ last. record self.now { intake = Some last }) self.now
