-- The causes by which an end reports the refusals below it. Lack of memory is reported as `Memory`, and nothing else
-- is. An end is made, or opened again, and never migrated.
use Rattle.sqlite.specs.declared.error.Error.{Error}
use Rattle.table_rows.specs.Causes.{store_fault}
use Rattle.table_rows.specs.declared.fault.StoreFault.{StoreFault}
use Rattle.table_rows.specs.declared.fault.StoreFault.TheVariants as store
use Rattle.register_tables.specs.declared.fault.CreateFault.TheVariants as made
use Rattle.register_tables.specs.declared.fault.OpenFault.TheVariants as found
use Rattle.outbox_tables.specs.declared.fault.OutboxFault.TheVariants as tables
use Rattle.command_line.specs.declared.fault.DatabaseFault.TheVariants as database
use Rattle.register_extracts.specs.declared.fault.Why.{Why as RegisterWhy}
use Rattle.register_extracts.specs.declared.fault.Why.TheVariants as register
use Rattle.outbox_process.specs.declared.fault.Why.{Why as OutboxWhy}
use Rattle.outbox_process.specs.declared.fault.Why.TheVariants as outbox
use Rattle.schedule.specs.declared.ends.fault.EndFault.{EndFault}
use Rattle.schedule.specs.declared.ends.fault.EndFault.TheVariants as cause

-- the cause if a call on a store was refused
abbrev pub store_cause : StoreFault → EndFault
store_cause store.Memory = cause.Memory
store_cause store.Store = cause.Store

-- the cause if a register was not opened, or not made, in its place
abbrev pub register_cause : RegisterWhy → EndFault
register_cause (register.Files database.Memory) = cause.Memory
register_cause (register.Create made.Memory) = cause.Memory
register_cause (register.Create fault) = cause.Store
register_cause (register.Open found.Memory) = cause.Memory
register_cause other = cause.Reopen

-- the same of an outbox
abbrev pub outbox_cause : OutboxWhy → EndFault
outbox_cause (outbox.Files database.Memory) = cause.Memory
outbox_cause (outbox.Create tables.Memory) = cause.Memory
outbox_cause (outbox.Create fault) = cause.Store
outbox_cause (outbox.Open tables.Memory) = cause.Memory
outbox_cause other = cause.Reopen

-- the cause if a store did not give its files back
abbrev pub closing_cause : StoreFault → EndFault
closing_cause store.Memory = cause.Memory
closing_cause store.Store = cause.Reopen

-- the cause if a database was not closed
abbrev pub close_cause : Error → EndFault
close_cause error = closing_cause (store_fault error)
