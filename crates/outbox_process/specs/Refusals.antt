-- Why no outbox begins over a connection, which comes back.
use Rattle.std.specs.Prelude.{◌≡◌, ◌≢◌, ◌⊎◌, ℕ, List, Ok}
use Rattle.sqlite.specs.Store.{Ghosts}
use Rattle.sqlite.specs.Held.{Held}
use Rattle.table_rows.specs.Tables.{no_schema}
use Rattle.outbox_tables.specs.declared.fault.OutboxFault.{OutboxFault}
use Rattle.outbox_tables.specs.declared.fault.OutboxFault.TheVariants.{NotOurs}
use Rattle.outbox_core.specs.HandedOut.{HandsOutFound}
use Rattle.outbox_core.specs.OutboxParts.{OutboxParts}
use Rattle.outbox_core.specs.Refusals.{GivesBackMaking, GivesBackOpening, GivesBackMigrating}
use Rattle.outbox_process.specs.declared.beginning.Beginning.{Beginning}
use Rattle.outbox_process.specs.declared.beginning.Beginning.TheVariants.{Found, Made, Migrated}
use Rattle.outbox_process.specs.declared.fault.Why.{Why}
use Rattle.outbox_process.specs.declared.fault.Why.TheVariants.{Taken, Create, Open, IsCurrent, Migrate}

-- the rows are not those of an outbox of this version, or memory or the disk failed: the fault says which
abbrev pub RefusesFinding : {S : Type 0} → Ghosts S → Held S → Held S → Why → Type 0
RefusesFinding g conn back why =
    (fault : OutboxFault) × (why ≡ Open fault) × GivesBackOpening g conn fault back

-- something is declared; or nothing is, and the fault says why the tables were not made
abbrev pub RefusesMaking : {S : Type 0} → Ghosts S → List ℕ → Held S → Held S → Why → Type 0
RefusesMaking g filer conn back why =
    ((why ≡ Taken) × (conn.schema ≢ no_schema) × (back ≡ conn))
    ⊎ ((fault : OutboxFault) × (why ≡ Create fault) × (conn.schema ≡ no_schema)
    × GivesBackMaking g filer conn fault back)

-- the reading failed before it was known whether the database is an outbox of this version; or it is none, and the
-- fault says why the migration failed
abbrev pub FailsToMigrate : {S : Type 0} → Ghosts S → Held S → Held S → OutboxFault → Type 0
FailsToMigrate {S} g conn back fault =
    ((fault ≢ NotOurs) × GivesBackOpening g conn fault back)
    ⊎ ((mid : Held S) × GivesBackOpening g conn NotOurs mid × GivesBackMigrating g mid fault back)

-- the database is an outbox of this version, or the migration failed
abbrev pub RefusesMigrating : {S : Type 0} → Ghosts S → Held S → Held S → Why → Type 0
RefusesMigrating {S} g conn back why =
    ((why ≡ IsCurrent) × (outbox : OutboxParts S) × HandsOutFound g conn (Ok outbox) × (back ≡ outbox.conn))
    ⊎ ((fault : OutboxFault) × (why ≡ Migrate fault) × FailsToMigrate g conn back fault)

abbrev pub RefusesOutbox : {S : Type 0} → Ghosts S → Beginning → Held S → Held S → Why → Type 0
RefusesOutbox g Found conn back why = RefusesFinding g conn back why
RefusesOutbox g (Made filer) conn back why = RefusesMaking g filer.now conn back why
RefusesOutbox g Migrated conn back why = RefusesMigrating g conn back why
