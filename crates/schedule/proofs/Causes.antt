-- What no end that is not opened or closed is told as.
use Rattle.std.proofs.Common.{◌≡◌, ◌≢◌, ◌∙◌, Bool, Option, Some, None, refl, sym, ap, inl, inr, true, true≢false}
use Rattle.std.specs.Prelude.{IfSome}
use Rattle.sqlite_disk.specs.declared.Disk.{Ghosts}
use Rattle.sqlite_disk.specs.declared.Files.{Files}
use Rattle.sqlite_store.specs.declared.store.FileStore.{FileStore}
use Rattle.sqlite.specs.declared.error.Error.{Error}
use Rattle.command_line.specs.declared.fault.DatabaseFault.{DatabaseFault}
use Rattle.command_line.specs.declared.fault.DatabaseFault.TheVariants as database
use Rattle.table_rows.specs.declared.fault.StoreFault.{StoreFault}
use Rattle.table_rows.specs.declared.fault.StoreFault.TheVariants as store
use Rattle.register_tables.specs.declared.fault.OpenFault.TheVariants as found
use Rattle.register_extracts.specs.declared.fault.Why.{Why as RegisterWhy}
use Rattle.register_extracts.specs.declared.fault.Why.TheVariants as register
use Rattle.intake_process.specs.Process as intake
use Rattle.outbox_tables.specs.declared.fault.OutboxFault.{OutboxFault}
use Rattle.outbox_tables.specs.declared.fault.OutboxFault.TheVariants as tables
use Rattle.outbox_core.specs.OutboxParts.{OutboxParts}
use Rattle.database_places.specs.Closing.{IsNotClosed}
use Rattle.database_places.specs.Places as place
use Rattle.outbox_process.specs.Process.{IsNotOpened}
use Rattle.outbox_process.specs.declared.beginning.Beginning.TheVariants.{Found}
use Rattle.outbox_process.specs.declared.fault.Why.{Why}
use Rattle.outbox_process.specs.declared.fault.Why.TheVariants as outbox
use Rattle.schedule.specs.Causes.{register_cause, outbox_cause, closing_cause, close_cause}
use Rattle.schedule.specs.OutboxEnd.{IsNotClosedIn}
use Rattle.schedule.specs.declared.ends.fault.EndFault.TheVariants as cause

pub of_closing : (fault : StoreFault) → closing_cause fault ≢ cause.Store
of_closing store.Memory e = cc
of_closing store.Store e = cc

-- a register that had to be there is not told as one that was not made
pub of_register : {D : Type 0} (g : Ghosts D) (old new : Option (Option (Files D))) (was_taken : Bool)
    (fault : RegisterWhy) → intake.IsNotOpened g true old new was_taken fault → register_cause fault ≢ cause.Store
of_register g old new was_taken (register.Files database.Memory) is e = cc
of_register g old new was_taken (register.Create fault) is e = true≢false is.3.0
of_register g old new was_taken (register.Open found.Memory) is e = cc
of_register g old new was_taken _ is e = cc

of_files : (fault : DatabaseFault) → outbox_cause (outbox.Files fault) ≢ cause.Store
of_files database.Memory e = cc
of_files _ e = cc

of_found : (fault : OutboxFault) → outbox_cause (outbox.Open fault) ≢ cause.Store
of_found tables.Memory e = cc
of_found _ e = cc

-- the same of an outbox
pub of_outbox : {D : Type 0} (g : Ghosts D) (old new : Option (Option (Files D))) (was_taken : Bool) (fault : Why)
    → IsNotOpened g Found old new was_taken fault → outbox_cause fault ≢ cause.Store
of_outbox g old new was_taken fault is e = elim is [
  | inl files ↦ of_files files.0 (sym (ap outbox_cause files.1) ∙ e)
  | inr refused ↦ of_found refused.3.0 (sym (ap outbox_cause refused.3.1) ∙ e)
]

-- an error of a close says why the outbox, which was open, was not closed
pub not_closed : {D : Type 0} {g : Ghosts D} (old : Option (OutboxParts (FileStore D g)))
    (there new : Option (Option (Files D))) (error : Error) → (old ≡ None → ⊥)
    → IfSome old (λ outbox. (files : Files D) × place.Leaves there new files × IsNotClosed outbox.conn files error)
    → IsNotClosedIn old there new (close_cause error)
not_closed (Some outbox) there new error closed left = (left.0, error, left.1, left.2, refl)
not_closed None there new error closed left = absurd (closed refl)
