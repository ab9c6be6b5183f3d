-- The statements that make a register, and what a refusal of them says.
use Rattle.std.specs.Prelude.{◌≡◌, ℕ, false, List, [], ◌∷◌, Result, IsTrue, OnOk, OnErr}
use Rattle.sqlite.specs.Store.{Ghosts}
use Rattle.sqlite.specs.Held.{Held, state}
use Rattle.sqlite.specs.State.{HasCleanDisk, Survives}
use Rattle.table_rows.specs.Tables.{no_schema}
use Rattle.table_rows.specs.Standing.{IsLasting, AddsNothing}
use Rattle.table_rows.specs.Statements.{Statement, plain, AreTreesOf}
use Rattle.register_tables.specs.declared.schema.create.TheConstants.{CREATE_AMENDS, CREATE_FACT, CREATE_FILING}
use Rattle.register_tables.specs.declared.schema.create.TheConstants.{CREATE_FINDING, CREATE_KEPT, CREATE_META}
use Rattle.register_tables.specs.declared.schema.create.TheConstants.{CREATE_MIGRATED, CREATE_RECEIVED, INSERT_META}
use Rattle.register_tables.specs.declared.schema.create.TheConstants.{INSERT_NO_OLD_STYLE}
use Rattle.register_tables.specs.Registers.{IsRegisterOf}

abbrev pub create_meta : List ℕ
create_meta = CREATE_META.now

abbrev pub create_kept : List ℕ
create_kept = CREATE_KEPT.now

abbrev pub create_finding : List ℕ
create_finding = CREATE_FINDING.now

abbrev pub create_filing : List ℕ
create_filing = CREATE_FILING.now

abbrev pub create_fact : List ℕ
create_fact = CREATE_FACT.now

abbrev pub create_migrated : List ℕ
create_migrated = CREATE_MIGRATED.now

abbrev pub create_amends : List ℕ
create_amends = CREATE_AMENDS.now

abbrev pub create_received : List ℕ
create_received = CREATE_RECEIVED.now

abbrev pub insert_meta : List ℕ
insert_meta = INSERT_META.now

-- none of the requests of a new register was kept before there were problem details
abbrev pub insert_none_old_style : List ℕ
insert_none_old_style = INSERT_NO_OLD_STYLE.now

-- the statements that make the tables, and then the rows that every register has
abbrev pub making : List Statement
making =
    plain create_meta ∷ plain create_kept ∷ plain create_finding ∷ plain create_filing ∷ plain create_fact
    ∷ plain create_migrated ∷ plain create_amends ∷ plain create_received ∷ plain insert_meta
    ∷ plain insert_none_old_style ∷ []

-- What the making of a register that has no request does, in one transaction.
pub record MakesRegister {S E : Type 0} (g : Ghosts S) (old new : Held S) (result : Result (Unit {0}) E) : Type 0 where
  pub autocommit : new.in_transaction ≡ false
  -- If the database had no table before, the rows stand for no request, and they are committed.
  pub made : HasCleanDisk (state g new) → (state g old).now.schema ≡ no_schema
      → OnOk result (IsTrue (state g new).is_open × IsRegisterOf 0 [] (state g new).now
      × ((state g new).committed ≡ (state g new).now))
  pub durable : HasCleanDisk (state g new) → OnOk result (IsLasting (state g new))
  -- A refusal wrote nothing and left what was committed, whatever tables there are.
  pub neither : HasCleanDisk (state g new) → OnErr result (AddsNothing (state g old) (state g new))
  -- A crash leaves what it could leave before, or what all the statements make of the database.
  pub crash : Survives (state g old) (state g new) (AreTreesOf g making old)
