-- Registers in the forms of earlier versions.
use Rattle.std.specs.Prelude.{◌≡◌, ◌⊎◌, ◌≤◌, ℕ, Bool, List, [], ◌∷◌, ◌++◌, length, Option, Some, None}
use Rattle.std.specs.List.{list_any}
use Rattle.sqlite.specs.Change.{created}
use Rattle.sqlite.specs.Effect.{Database, IsDatabase}
use Rattle.sqlite.specs.Held.{Held, state}
use Rattle.sqlite.specs.Order.{Row}
use Rattle.sqlite.specs.Schema.{Schema}
use Rattle.sqlite.specs.Store.{Ghosts}
use Rattle.sqlite.specs.Table.{Table}
use Rattle.sqlite_catalog.specs.Change.{is_used}
use Rattle.filing_model.specs.Request.{Request}
use Rattle.table_rows.specs.Rows.{TableHas}
use Rattle.table_rows.specs.Tables.{BeginsWith, no_schema}
use Rattle.register_tables.specs.declared.opening.form.Earlier.{Earlier}
use Rattle.register_tables.specs.declared.opening.form.Earlier.TheVariants.{Second, Third, Fourth}
use Rattle.register_rows.specs.Dates.{IsUndatedAt}
use Rattle.register_rows.specs.Received.{Received}
use Rattle.register_rows.specs.Register.{form_row, migrated_row}
use Rattle.register_rows.specs.Schema.{common_tables, register_tables, meta_table, migrated_table, amends_table}
use Rattle.register_rows.specs.Schema.{received_table}
use Rattle.register_tables.specs.Reads.{HasInOrder}
use Rattle.register_tables.specs.Walk.{AreAllOf, IsUnsound}

-- the number in the row of `intake_meta`
abbrev pub form_number : Earlier → ℕ
form_number Second = 2
form_number Third = 3
form_number Fourth = 4

-- the tables of a register in this form
abbrev pub tables_of : Earlier → List Table
tables_of Second = common_tables
tables_of Third = common_tables ++ migrated_table ∷ []
tables_of Fourth = common_tables ++ migrated_table ∷ amends_table ∷ []

-- the tables of a register that this form lacks
abbrev pub lacking : Earlier → List Table
lacking Second = migrated_table ∷ amends_table ∷ received_table ∷ []
lacking Third = amends_table ∷ received_table ∷ []
lacking Fourth = received_table ∷ []

-- whether the name of a table that this form lacks is in use
abbrev pub is_blocked : Schema → Earlier → Bool
is_blocked schema form = list_any (λ t. is_used schema t.name) (lacking form)

-- what is declared after these tables were made, one after another
abbrev pub made_from : Schema → List Table → Schema
made_from schema [] = schema
made_from schema (t ∷ tables) = made_from (created schema t) tables

-- the tables of this form and their indexes alone are declared, as they were made in a database that had none
abbrev pub IsAlone : Earlier → Schema → Type 0
IsAlone form schema = schema ≡ made_from no_schema (tables_of form)

-- Of so many kept requests the first `old_style` were kept before there were problem details: in the second form all,
-- and later as many as the one row of `migrated` says.
abbrev pub HasOldStyle : Earlier → Database → ℕ → ℕ → Type 0
HasOldStyle Second db old_style kept = old_style ≡ kept
HasOldStyle Third db old_style kept = TableHas db migrated_table (migrated_row old_style ∷ []) × (old_style ≤ kept)
HasOldStyle Fourth db old_style kept = TableHas db migrated_table (migrated_row old_style ∷ []) × (old_style ≤ kept)

-- These are the rows of `amends`. Before the fourth form there is no such table, and no request is to replace a filing.
abbrev pub HasTargets : Earlier → Database → List Row → Type 0
HasTargets Second db amends_are = amends_are ≡ []
HasTargets Third db amends_are = amends_are ≡ []
HasTargets Fourth db amends_are = TableHas db amends_table amends_are

-- the rows stand for these requests, in this form
pub record StandsForEarlier (form : Earlier) (db : Database) (old_style : ℕ) (F : List Request) : Type 0 where
  pub declared : BeginsWith (tables_of form) db.schema
  pub meta_is : TableHas db meta_table (form_row (form_number form) ∷ [])
  pub amends : List Row
  pub targets : HasTargets form db amends
  pub are : AreAllOf F amends db
  pub old_style_is : HasOldStyle form db old_style (length F)

-- a database, as SQLite's files have one, whose rows stand for these requests in this form
pub record IsEarlierOf (form : Earlier) (old_style : ℕ) (F : List Request) (db : Database) : Type 0 where
  pub sound : IsDatabase db
  pub rows : StandsForEarlier form db old_style F

-- Whatever form the tables alone have, and whatever requests the rows stand for in it, this holds of them.
abbrev pub ForEarlier : {S : Type 0} → Ghosts S → Held S → (Earlier → ℕ → List Request → Type 0) → Type 0
ForEarlier g conn Holds =
    (form : Earlier) (old_style : ℕ) (F : List Request) → IsAlone form (state g conn).now.schema
    → IsEarlierOf form old_style F (state g conn).now → Holds form old_style F

-- ---- any form: an earlier one, or the present one

abbrev pub number_of_form : Option Earlier → ℕ
number_of_form (Some form) = form_number form
number_of_form None = 5

abbrev pub tables_in : Option Earlier → List Table
tables_in (Some form) = tables_of form
tables_in None = register_tables

abbrev pub HasOldStyleIn : Option Earlier → Database → ℕ → ℕ → Type 0
HasOldStyleIn (Some form) db old_style kept = HasOldStyle form db old_style kept
HasOldStyleIn None db old_style kept = TableHas db migrated_table (migrated_row old_style ∷ []) × (old_style ≤ kept)

abbrev pub HasTargetsIn : Option Earlier → Database → List Row → Type 0
HasTargetsIn (Some form) db amends_are = HasTargets form db amends_are
HasTargetsIn None db amends_are = TableHas db amends_table amends_are

-- of the table `amends`, these are the rows, in the order of its key, as far as this form has it
abbrev pub SaysAmends : Option Earlier → List Row → Database → Type 0
SaysAmends (Some Second) rows db = rows ≡ []
SaysAmends (Some Third) rows db = rows ≡ []
SaysAmends form rows db = HasInOrder amends_table rows db

-- there is a list of moments, with a place for each kept request; an earlier form has none
abbrev pub HasMomentsIn : Option Earlier → Database → ℕ → Type 0
HasMomentsIn (Some form) db kept = Unit {0}
HasMomentsIn None db kept = (moments : List (Option ℕ)) × (length moments ≡ kept) × Received db moments

-- the tables of this form, but for `intake_meta`, have the rows of these requests
pub record HoldsIn (form : Option Earlier) (db : Database) (old_style : ℕ) (F : List Request) : Type 0 where
  pub amends : List Row
  pub targets : HasTargetsIn form db amends
  pub are : AreAllOf F amends db
  pub old_style_is : HasOldStyleIn form db old_style (length F)
  pub moments : HasMomentsIn form db (length F)

-- For so many kept requests `migrated` says no number of old style, and the row to report is 0; or it says one, and by
-- the rows of `received`, in the order of its key, this is the row to report.
abbrev pub IsUnfit : Option Earlier → Database → ℕ → ℕ → Type 0
IsUnfit form db kept row =
    ((row ≡ 0) × ((old_style : ℕ) → HasOldStyleIn form db old_style kept → ⊥))
    ⊎ (((old_style : ℕ) × HasOldStyleIn form db old_style kept) × (dates : List Row)
    × HasInOrder received_table dates db × IsUndatedAt kept dates row)

-- the rows stand for no requests, in this form, and this is the row to report: that of a kept request that is not
-- sound, or 0; 0 also if the rows of kept requests are sound, but not `migrated`; or, if that is sound too, the first
-- that has no moment and should have one
pub record IsDamaged (form : Option Earlier) (db : Database) (row : ℕ) : Type 0 where
  pub none : (old_style : ℕ) (F : List Request) → HoldsIn form db old_style F → ⊥
  pub amends_are : List Row
  pub targets : SaysAmends form amends_are db
  pub told : IsUnsound amends_are row db
      ⊎ ((F : List Request) × AreAllOf F amends_are db × IsUnfit form db (length F) row)
