-- An intake that begins over a database.
use Rattle.std.specs.Prelude.{◌≡◌, ◌≢◌, ℕ, Bool, true, false, List, [], length, Err}
use Rattle.sqlite.specs.Store.{Ghosts}
use Rattle.sqlite.specs.Held.{Held, state}
use Rattle.filing_model.specs.Request.{Request, firsts}
use Rattle.filing_model.specs.Register.{register}
use Rattle.register_tables.specs.Registers.{IsRegisterOf}
use Rattle.register_tables.specs.Opening.{IsReadAsRegister}
use Rattle.register_store.specs.Calls.{CreatesOrGivesBack, OpensOrGivesBack}
use Rattle.register_extracts.specs.declared.fault.Why.{Why}
use Rattle.register_extracts.specs.declared.fault.Why.TheVariants as why
use Rattle.intake_core.specs.declared.intake.Intake.{Intake}
use Rattle.intake_core.specs.Held.{HoldsRequests, IsClean, limit_of, old_style_of}
use Rattle.table_rows.specs.Tables.{no_schema}
use Rattle.intake_process.specs.declared.beginning.Totals.{Totals}

-- The intake holds these requests and keeps at most `limit` keys, and this many of the requests are old-style.
pub record HoldsAs {S : Type 0} (g : Ghosts S) (limit old_style : ℕ) (requests : List Request)
    (intake : Intake S) : Type 0 where
  pub holds : HoldsRequests g intake requests
  pub limit_is : limit_of intake ≡ limit
  pub old_style_is : old_style_of intake ≡ old_style

-- how many requests are kept, and how many of them are filings
abbrev pub AreTotals : List Request → Totals → Type 0
AreTotals requests totals = (totals.kept ≡ length requests) × (totals.filings ≡ length (register requests))

-- What an intake holds that was found in a database, if the disk is clean.
pub record FindsIntake {S : Type 0} (g : Ghosts S) (conn : Held S) (limit : ℕ) (intake : Intake S)
    (totals : Totals) : Type 0 where
  pub is_one : IsClean g intake → IsReadAsRegister g conn
  -- it holds the requests that the rows stand for, which the totals count
  pub holds : IsClean g intake → (old_style : ℕ) (requests : List Request) → firsts requests ≡ requests
      → IsRegisterOf old_style requests (state g conn).now
      → HoldsAs g limit old_style requests intake × AreTotals requests totals

-- nothing was declared in the database, and if the disk is clean, the intake holds no request yet
abbrev pub MakesIntake : {S : Type 0} → Ghosts S → Held S → ℕ → Intake S → Totals → Type 0
MakesIntake g conn limit intake totals =
    ((state g conn).now.schema ≡ no_schema) × (IsClean g intake
    → HoldsAs g limit 0 [] intake × AreTotals [] totals)

-- No intake began over the register that had to be in this database, or had to be made there, and this connection came
-- back. A register is made only in a database in which nothing is declared.
abbrev pub IsNotBegun : {S : Type 0} → Ghosts S → Bool → Held S → Why → Held S → Type 0
IsNotBegun g has_to_be_there conn why.Taken back =
    (has_to_be_there ≡ false) × ((state g conn).now.schema ≢ no_schema) × (back ≡ conn)
IsNotBegun g has_to_be_there conn (why.Create fault) back =
    (has_to_be_there ≡ false) × ((state g conn).now.schema ≡ no_schema) × CreatesOrGivesBack g conn (Err (fault, back))
IsNotBegun g has_to_be_there conn (why.Open fault) back =
    (has_to_be_there ≡ true) × OpensOrGivesBack g conn (Err (fault, back))
IsNotBegun g has_to_be_there conn other back = ⊥
