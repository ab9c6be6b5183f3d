-- How the tables of an outbox are made.
use Rattle.std.specs.Prelude.{◌≡◌, ◌≢◌, ◌⊎◌, ◌↔◌, ℕ, true, false, List, [], ◌∷◌, Result, Err, IsTrue, IfOk, IfErr, OnOk}
use Rattle.std.specs.Prelude.{String, string_bytes}
use Rattle.std.specs.declared.alloc.Global.{Global}
use Rattle.sqlite.specs.declared.types.Value.TheVariants.{Text}
use Rattle.sqlite.specs.Store.{Ghosts}
use Rattle.sqlite.specs.Tree.{Trees}
use Rattle.sqlite.specs.Held.{Held, state}
use Rattle.sqlite.specs.State.{HasCleanDisk, Survives}
use Rattle.sqlite.specs.declared.error.Error.{Error}
use Rattle.key_string.specs.Filer.{is_filer}
use Rattle.table_rows.specs.Tables.{no_schema}
use Rattle.table_rows.specs.Standing.{IsLasting, KeepsOnErr}
use Rattle.table_rows.specs.Statements.{Statement, plain, AreCommitted, AreUndone, AreTreesOf}
use Rattle.outbox_tables.specs.declared.schema.create.TheConstants.{CREATE_ENTRY, CREATE_META, CREATE_TARGET}
use Rattle.outbox_tables.specs.declared.schema.create.TheConstants.{INSERT_META}
use Rattle.outbox_tables.specs.declared.fault.OutboxFault.{OutboxFault}
use Rattle.outbox_tables.specs.declared.fault.OutboxFault.TheVariants.{BadFiler, Taken, Memory}
use Rattle.outbox_tables.specs.Schema.{is_taken}
use Rattle.outbox_tables.specs.Entries.{empty}
use Rattle.outbox_tables.specs.Rows.{IsOutboxOf, LeavesOutbox}
use Rattle.outbox_tables.specs.Faults.{IsOfMaking, outbox_fault}

abbrev pub create_meta : List ℕ
create_meta = CREATE_META.now

abbrev pub create_entry : List ℕ
create_entry = CREATE_ENTRY.now

abbrev pub create_target : List ℕ
create_target = CREATE_TARGET.now

abbrev pub insert_meta : List ℕ
insert_meta = INSERT_META.now

-- the statements that make the tables of an outbox of this filer, and the row of `outbox_meta`
abbrev pub making : List ℕ → List Statement
making filer =
    plain create_meta ∷ plain create_entry ∷ plain create_target ∷ (insert_meta, Text filer ∷ []) ∷ []

-- the trees are what all four make of the database, and those of the outbox with no entry if it had no tables before
abbrev pub LeavesMade : {S : Type 0} → Ghosts S → List ℕ → Held S → Trees → Type 0
LeavesMade g filer old trees =
    AreTreesOf g (making filer) old trees
    × ((state g old).now.schema ≡ no_schema → LeavesOutbox (empty filer) trees)

-- memory ran out before a statement was run; or a statement failed, or the commit
abbrev pub IsNotMade : {S : Type 0} → Ghosts S → List ℕ → OutboxFault → Held S → Held S → Type 0
IsNotMade g filer why old new =
    ((why ≡ Memory) × (old ≡ new))
    ⊎ ((error : Error) × (why ≡ outbox_fault error) × AreUndone g error (making filer) old new)

-- The tables of an outbox of this filer were made over a connection, in one transaction, and the filer's code is
-- answered; or it was refused. What is said of the rows holds if the disk is clean at the end.
pub record MakesOutbox {S : Type 0} (g : Ghosts S) (filer : List ℕ) (old new : Held S)
    (result : Result (String Global) OutboxFault) : Type 0 where
  pub autocommit : new.in_transaction ≡ false
  pub code : IfOk result (λ code. string_bytes code ≡ filer)
  -- If the database had no tables before, it is the outbox with no entry.
  pub made : HasCleanDisk (state g new) → (state g old).now.schema ≡ no_schema
      → OnOk result (IsOutboxOf (empty filer) (state g new).now)
  -- The answer is BadFiler if and only if the text is no filer code. It is Taken if and only if the text is a filer
  -- code and one of the names is in use. Neither touches the connection. Any other refusal has its cause in memory, in
  -- a statement or in the commit.
  pub bad_filer : (result ≡ Err BadFiler) ↔ (is_filer filer ≡ false)
  pub taken : (result ≡ Err Taken) ↔ ((is_filer filer ≡ true) × IsTrue (is_taken (state g old).now.schema))
  pub untouched : (result ≡ Err BadFiler) ⊎ (result ≡ Err Taken) → new ≡ old
  pub failed : HasCleanDisk (state g new)
      → IfErr result (λ fault. fault ≢ BadFiler → fault ≢ Taken → IsNotMade g filer fault old new)
  pub no_other : IfErr result IsOfMaking
  -- Whatever tables there were, the four statements are committed together, and a refusal leaves what was committed. A
  -- crash in the call leaves what one before it could leave, or what all four make; one after Ok, what all four make.
  pub ran : HasCleanDisk (state g new) → OnOk result (AreCommitted g (making filer) old new)
  pub undone : KeepsOnErr (state g old) (state g new) result
  pub crash : Survives (state g old) (state g new) (LeavesMade g filer old)
  pub durable : HasCleanDisk (state g new) → OnOk result (IsLasting (state g new))
