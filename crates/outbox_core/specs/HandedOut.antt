-- What is promised of an outbox that a call hands out over a connection, and of the connection if the call refuses.
use Rattle.std.specs.Prelude.{◌≡◌, ◌↔◌, true, false, ℕ, List, [], Result, Ok, Err, IsTrue, IfOk, IfErr, string_bytes}
use Rattle.key_string.specs.Filer.{is_filer}
use Rattle.sqlite.specs.Store.{Ghosts}
use Rattle.sqlite.specs.Held.{Held, state}
use Rattle.sqlite.specs.State.{Survives}
use Rattle.filing_model.specs.Outbox.{Entry}
use Rattle.table_rows.specs.Giving.{OrGivesBack}
use Rattle.table_rows.specs.Tables.{no_schema}
use Rattle.table_rows.specs.Standing.{CommitsNothing}
use Rattle.table_rows.specs.Statements.{AreCommitted}
use Rattle.outbox_tables.specs.declared.fault.OutboxFault.{OutboxFault}
use Rattle.outbox_tables.specs.declared.opening.FoundOutbox.{FoundOutbox}
use Rattle.outbox_tables.specs.declared.fault.OutboxFault.TheVariants.{BadFiler, Taken}
use Rattle.outbox_tables.specs.Schema.{IsDeclared, is_taken}
use Rattle.outbox_tables.specs.Entries.{empty}
use Rattle.outbox_tables.specs.Rows.{IsOutboxOf}
use Rattle.outbox_tables.specs.Faults.{IsOfMaking, IsOfOpening}
use Rattle.outbox_core.specs.OutboxParts.{OutboxParts, shows, contents, HandsOut, HasEntries, IsDurableAs}
use Rattle.outbox_tables.specs.Promises.{ForOutbox}
use Rattle.outbox_tables.specs.Making.{making, LeavesMade}
use Rattle.outbox_tables.specs.Earlier.{ForEarlier, IsAlone, IsEarlierOf, IsMigrated, LeavesMigrated}
use Rattle.outbox_tables.specs.Audit.{SaysOutbox}
use Rattle.outbox_core.specs.Refusals.{GivesBackMaking, GivesBackOpening, GivesBackMigrating}

-- An outbox of the filer of this code was made, in one transaction; or it was refused.
pub record HandsOutMade {S : Type 0} (g : Ghosts S) (code : List ℕ) (conn : Held S)
    (result : Result (OutboxParts S) OutboxFault) : Type 0 where
  -- If the database had no tables before, the outbox has no entry.
  pub made : HandsOut g result (λ outbox. (state g conn).now.schema ≡ no_schema → HasEntries g outbox [])
  pub filer : IfOk result (λ outbox. (outbox.filer ≡ code) × (outbox.has_failed ≡ false))
  -- The answer is BadFiler if and only if the text is no filer code. It is Taken if and only if the text is a filer
  -- code and one of the names is in use.
  pub bad_filer : (result ≡ Err BadFiler) ↔ (is_filer code ≡ false)
  pub taken : (result ≡ Err Taken) ↔ ((is_filer code ≡ true) × IsTrue (is_taken (state g conn).now.schema))
  pub no_other : IfErr result IsOfMaking
  -- Whatever tables there were, the four statements, and they alone, were run in one transaction and committed.
  pub ran : HandsOut g result (λ outbox. AreCommitted g (making code) conn outbox.conn)
  -- A crash in the call leaves what one before it could leave, or the outbox with no entry; one after it, that outbox.
  pub crash : IfOk result (λ outbox. Survives (state g conn) (shows g outbox) (LeavesMade g code conn))
  pub durable : HandsOut g result (λ outbox. (state g conn).now.schema ≡ no_schema → IsDurableAs g outbox (empty code))

-- The outbox that the database holds was opened; or it was refused. Nothing was written.
pub record HandsOutFound {S : Type 0} (g : Ghosts S) (conn : Held S)
    (result : Result (OutboxParts S) OutboxFault) : Type 0 where
  -- If the tables are declared as an outbox has them, the rows are those of the outbox's entries.
  pub opened :
      HandsOut g result (λ outbox.
      IsDeclared (state g conn).now.schema → (entries : List Entry)
      × IsOutboxOf (contents outbox entries) (state g conn).now × HasEntries g outbox entries)
  -- However the tables are declared, only a database that says so is opened as an outbox.
  pub says : HandsOut g result (λ outbox. SaysOutbox g outbox.filer conn)
  pub able : IfOk result (λ outbox. outbox.has_failed ≡ false)
  -- If the database is an outbox, that outbox is opened, and a crash after the call leaves it.
  pub same : IfOk result (λ outbox. ForOutbox g conn outbox.conn (λ it. (outbox.filer ≡ it.filer)
      × HasEntries g outbox it.entries))
  pub durable : IfOk result (λ outbox. ForOutbox g conn outbox.conn (IsDurableAs g outbox))
  pub crash : IfOk result (λ outbox. CommitsNothing (state g conn) (shows g outbox))
  pub no_other : IfErr result IsOfOpening

-- The outbox that the database holds in the earlier form was brought into the present one, in one transaction, and
-- opened; or it was refused.
pub record HandsOutMigrated {S : Type 0} (g : Ghosts S) (conn : Held S)
    (result : Result (OutboxParts S) OutboxFault) : Type 0 where
  -- If the database has no other tables, the rows were in that form those of the outbox's entries.
  pub migrated :
      HandsOut g result (λ outbox.
      IsAlone (state g conn).now.schema → (entries : List Entry)
      × IsEarlierOf (contents outbox entries) (state g conn).now × HasEntries g outbox entries)
  pub only : HandsOut g result (λ outbox. ForEarlier (state g conn) (λ it. (outbox.filer ≡ it.filer)
      × HasEntries g outbox it.entries))
  pub able : IfOk result (λ outbox. outbox.has_failed ≡ false)
  -- Whatever tables there were, the filer and the count are those of the rows that were read. Then both statements, and
  -- they alone, were run in one transaction and committed.
  pub ran : HandsOut g result (λ outbox. IsMigrated g outbox.filer outbox.count conn outbox.conn)
  -- A crash in the call leaves what it could leave before, or the migrated rows; one after it, the migrated rows.
  pub crash : IfOk result (λ outbox. Survives (state g conn) (shows g outbox) (LeavesMigrated g conn))
  pub durable : HandsOut g result (λ outbox. (entries : List Entry) → HasEntries g outbox entries
      → IsDurableAs g outbox (contents outbox entries))

-- ---- an outbox is handed out, or the connection comes back

-- over this connection, the outbox that was found; or the fault and the connection
abbrev pub over : {S : Type 0} → Held S → Result FoundOutbox OutboxFault → Result (OutboxParts S) (OutboxFault × Held S)
over conn (Ok found) =
    Ok (record { conn = conn; filer = string_bytes found.filer; count = found.count; has_failed = false })
over conn (Err fault) = Err (fault, conn)

-- What `create_or_back` does: what `create` does, and a connection that comes back is as it says.
abbrev pub MakesOrGivesBack : {S : Type 0} → Ghosts S → List ℕ → Held S
    → Result (OutboxParts S) (OutboxFault × Held S) → Type 0
MakesOrGivesBack g code conn = OrGivesBack (HandsOutMade g code conn) (GivesBackMaking g code conn)

abbrev pub FindsOrGivesBack : {S : Type 0} → Ghosts S → Held S → Result (OutboxParts S) (OutboxFault × Held S) → Type 0
FindsOrGivesBack g conn = OrGivesBack (HandsOutFound g conn) (GivesBackOpening g conn)

abbrev pub MigratesOrGivesBack : {S : Type 0} → Ghosts S → Held S
    → Result (OutboxParts S) (OutboxFault × Held S) → Type 0
MigratesOrGivesBack g conn = OrGivesBack (HandsOutMigrated g conn) (GivesBackMigrating g conn)
