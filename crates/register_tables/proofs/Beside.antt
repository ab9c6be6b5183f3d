-- The tables that not every form has, as a form has them.
use Rattle.std.proofs.Common.{◌≢◌, List, [], Option, Some, None, Ok, Err, refl}
use Rattle.std.specs.Prelude.{Vec}
use Rattle.std.specs.declared.alloc.Global.{Global}
use Rattle.sqlite.specs.Order.{Row}
use Rattle.sqlite.specs.Effect.{Database}
use Rattle.sqlite.specs.Store.{Ghosts}
use Rattle.sqlite.specs.Held.{Held, state}
use Rattle.sqlite.specs.State.{State, HasCleanDisk, FailsToQuery, Shown}
use Rattle.sqlite.specs.declared.error.Error.{Error}
use Rattle.table_rows.specs.Leaving.{Leaves}
use Rattle.table_rows.specs.Leaving.Ending.{Asked, Stopped}
use Rattle.register_rows.specs.Dates.{AreDates}
use Rattle.register_rows.specs.Schema.{migrated_table, amends_table}
use Rattle.register_rows.specs.declared.dates.Dates.{Dates}
use Rattle.register_tables.specs.declared.opening.form.Earlier.{Earlier}
use Rattle.register_tables.specs.declared.opening.form.Earlier.TheVariants.{Second, Third, Fourth}
use Rattle.register_tables.specs.Earlier.{tables_in, SaysAmends}
use Rattle.register_tables.specs.Faults.{table_fault}
use Rattle.register_tables.specs.Opening.{all_migrated, all_amends, all_received, KnowsAmends}
use Rattle.register_tables.specs.Opening.{KnowsMigrated, SaysDates, SaysMigrated}
use Rattle.register_tables.specs.Reads.{HasInOrder, IsKnown, Never, ReadsOurs}
use Rattle.register_tables.proofs.OpenLemmas.{got_third, third_in, got_fourth, fourth_in}
use Rattle.register_tables.proofs.OpenLemmas.{got_received, known}
use Rattle.register_tables.proofs.Ours.{asked, not_read}
use Rattle.register_tables.proofs.Questions.{not_asked}
use Rattle.register_tables.proofs.ReadTexts.{asks_amends, asks_migrated, asks_received}

says_migrated : (form : Option Earlier) → form ≢ Some Second → (rows : Vec Row Global) (db : Database)
    → HasInOrder migrated_table rows.items db → SaysMigrated form (Some rows) db
says_migrated (Some Second) apart rows db has = absurd (apart refl)
says_migrated (Some Third) apart rows db has = has
says_migrated (Some Fourth) apart rows db has = has
says_migrated None apart rows db has = has

says_amends : (form : Option Earlier) → form ≢ Some Second → form ≢ Some Third → (rows : List Row) (db : Database)
    → HasInOrder amends_table rows db → SaysAmends form rows db
says_amends (Some Second) apart other rows db has = absurd (apart refl)
says_amends (Some Third) apart other rows db has = absurd (other refl)
says_amends (Some Fourth) apart other rows db has = has
says_amends None apart other rows db has = has

-- ---- what is declared

module _ (old new : State) (form : Option Earlier) (apart : form ≢ Some Second) (rows : List Row) where
  pub knows_migrated : Shown all_migrated [] old new rows → KnowsMigrated form old.now.schema
  knows_migrated h = go form apart (known all_migrated old new rows h)
    where
      go : (f : Option Earlier) → f ≢ Some Second → IsKnown old.now.schema all_migrated
          → KnowsMigrated f old.now.schema
      go (Some Second) other is = absurd (other refl)
      go (Some Third) other is = is
      go (Some Fourth) other is = is
      go None other is = is

module _ (old new : State) (form : Option Earlier) (apart : form ≢ Some Second) (other : form ≢ Some Third)
    (rows : List Row) where
  pub knows_amends : Shown all_amends [] old new rows → KnowsAmends form old.now.schema
  knows_amends h = go form apart other (known all_amends old new rows h)
    where
      go : (f : Option Earlier) → f ≢ Some Second → f ≢ Some Third → IsKnown old.now.schema all_amends
          → KnowsAmends f old.now.schema
      go (Some Second) apart other is = absurd (apart refl)
      go (Some Third) apart other is = absurd (other refl)
      go (Some Fourth) apart other is = is
      go None apart other is = is

-- ---- what is read

module _ {S : Type 0} (g : Ghosts S) (a b : Held S) where
  module _ (form : Option Earlier) (apart : form ≢ Some Second) where
    pub migrated_read : (rows : Vec Row Global)
        → (HasCleanDisk (state g b) → Shown all_migrated [] (state g a) (state g b) rows.items)
        → Leaves Asked (state g a) (state g b)
        → ReadsOurs (tables_in form) g a b (Ok (Some rows)) (λ rows db. SaysMigrated form rows db) Never
    migrated_read rows shown leaves = asked g (Some rows) (record {
      told = λ clean ours. says_migrated form apart rows (state g a).now
          (got_third (state g a) (state g b) rows.items (third_in form apart (state g a).now.schema ours.declared)
          (shown clean));
      fails = λ clean ours. tt;
      leaves = leaves;
    })

    pub migrated_failed : (e : Error)
        → (HasCleanDisk (state g b) → FailsToQuery all_migrated [] (state g a) (state g b) e)
        → Leaves (Stopped e) (state g a) (state g b)
        → ReadsOurs (tables_in form) g a b (Err (table_fault e)) (λ rows db. SaysMigrated form rows db) Never
    migrated_failed e failed leaves = not_read g (λ rows db. SaysMigrated form rows db) Never e
        (not_asked g a b asks_migrated (third_in form apart (state g a).now.schema) {X = Unit {0}}
        {Says = λ _ _. Unit {0}} e failed leaves)

    module _ (other : form ≢ Some Third) where
      pub amends_read : (rows : Vec Row Global)
          → (HasCleanDisk (state g b) → Shown all_amends [] (state g a) (state g b) rows.items)
          → Leaves Asked (state g a) (state g b)
          → ReadsOurs (tables_in form) g a b (Ok rows) (λ rows db. SaysAmends form rows.items db) Never
      amends_read rows shown leaves = asked g rows (record {
        told = λ clean ours. says_amends form apart other rows.items (state g a).now
            (got_fourth (state g a) (state g b) rows.items
            (fourth_in form apart other (state g a).now.schema ours.declared) (shown clean));
        fails = λ clean ours. tt;
        leaves = leaves;
      })

      pub amends_failed : (e : Error)
          → (HasCleanDisk (state g b) → FailsToQuery all_amends [] (state g a) (state g b) e)
          → Leaves (Stopped e) (state g a) (state g b)
          → ReadsOurs (tables_in form) g a b (Err (table_fault e))
          (λ (rows : Vec Row Global) db. SaysAmends form rows.items db) Never
      amends_failed e failed leaves =
          not_read g (λ (rows : Vec Row Global) db. SaysAmends form rows.items db) Never e
          (not_asked g a b asks_amends (fourth_in form apart other (state g a).now.schema) {X = Unit {0}}
          {Says = λ _ _. Unit {0}} e failed leaves)

  pub dates_read : (rows : Vec Row Global) (dates : Dates) → AreDates rows.items dates
      → (HasCleanDisk (state g b) → Shown all_received [] (state g a) (state g b) rows.items)
      → Leaves Asked (state g a) (state g b)
      → ReadsOurs (tables_in None) g a b (Ok (Some dates)) (λ dates db. SaysDates None dates db) Never
  dates_read rows dates are shown leaves = asked g (Some dates) (record {
    told = λ clean ours. (
      rows.items,
      got_received (state g a) (state g b) rows.items ours.declared (shown clean),
      are,
    );
    fails = λ clean ours. tt;
    leaves = leaves;
  })

  pub dates_failed : (e : Error) → (HasCleanDisk (state g b) → FailsToQuery all_received [] (state g a) (state g b) e)
      → Leaves (Stopped e) (state g a) (state g b)
      → ReadsOurs (tables_in None) g a b (Err (table_fault e)) (λ dates db. SaysDates None dates db) Never
  dates_failed e failed leaves =
      not_read g (λ dates db. SaysDates None dates db) Never e
      (not_asked g a b asks_received (λ d. d) {X = Unit {0}} {Says = λ _ _. Unit {0}} e failed leaves)
