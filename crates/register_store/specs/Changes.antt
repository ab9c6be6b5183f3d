-- What is written for requests that are to be kept.
use Rattle.std.specs.Prelude.{◌≡◌, ℕ, suc, ◌+◌, false, Option, Some, List, [], ◌∷◌, ◌++◌, length, Result, IsTrue, IfOk}
use Rattle.std.specs.Prelude.{OnOk, OnErr}
use Rattle.std.specs.Borrow.{MutBor}
use Rattle.sqlite.specs.Store.{Ghosts}
use Rattle.sqlite.specs.Held.{Held, state}
use Rattle.sqlite.specs.declared.error.Error.{Error}
use Rattle.sqlite.specs.Order.{Row}
use Rattle.sqlite.specs.Table.{Table}
use Rattle.sqlite.specs.Tree.{Trees}
use Rattle.sqlite.specs.Effect.{Database, IsDatabase}
use Rattle.sqlite.specs.State.{State, HasCleanDisk, Survives}
use Rattle.key_string.specs.Key.{IsKey}
use Rattle.filing_model.specs.Register.{Outcome, Kept}
use Rattle.filing_model.specs.Views.{the_request}
use Rattle.table_rows.specs.Leaving.{OnlyWrites}
use Rattle.table_rows.specs.Standing.{IsLasting, AddsNothing}
use Rattle.register_store.specs.declared.outcome.NewRow.{NewRow}
use Rattle.register_store.specs.Outcomes.{kept_new, number_after, number_past}
use Rattle.register_rows.specs.Received.{Received}
use Rattle.register_rows.specs.Schema.{IsDeclared}
use Rattle.register_rows.specs.Register.{HasRows, kept_row, finding_rows, filing_rows, fact_rows, amends_rows}
use Rattle.register_tables.specs.Gains.{GainsRows}

-- the tables gain the rows of the kept request at this place, which came at this moment, whatever rows they had
pub record AddsRows (seq : ℕ) (k : Kept) (moment : ℕ) (old new : Database) : Type 0 where
  pub rows : (old_style : ℕ) (ks fs gs hs ts : List Row) → HasRows old old_style ks fs gs hs ts
      → HasRows new old_style (ks ++ kept_row seq k ∷ []) (fs ++ finding_rows seq k) (gs ++ filing_rows seq k)
      (hs ++ fact_rows seq k) (ts ++ amends_rows seq k)
  pub received : IsDeclared old.schema → (moments : List (Option ℕ)) → suc (length moments) ≡ seq
      → Received old moments → Received new (moments ++ Some moment ∷ [])
  pub sound : IsDeclared old.schema → IsDatabase old → IsDatabase new

-- the tables gain these rows inside a transaction, which goes on
pub record AddsInside (seq : ℕ) (k : Kept) (moment : ℕ) (old new : State) : Type 0 where
  pub adds : AddsRows seq k moment old.now new.now
  pub inside : IsTrue new.in_transaction
  pub committed : new.committed ≡ old.committed

-- if the disk is clean at the end, an answer says that the rows of this request, with this target, this outcome and its
-- moment, were added
abbrev pub AddsAs : {X E : Type 0} → ℕ → Option ℕ → NewRow → Outcome → State → State → Result X E → Type 0
AddsAs seq target row outcome old new result =
    HasCleanDisk new
    → OnOk result (AddsInside seq (record {
      request =
          the_request row.filer.now row.key.now target row.body.now;
      outcome = outcome;
    }) row.moment.milliseconds old new)

-- the tables gain the rows of these requests, one behind another, from this place and this number on
abbrev pub AddsAll : ℕ → ℕ → List NewRow → Database → Database → Type 0
AddsAll seq number [] old new = new ≡ old
AddsAll seq number (row ∷ rows) old new =
    (mid : Database) × IsKey row.key.now × AddsRows seq (kept_new number row) row.moment.milliseconds old mid
    × AddsAll (seq + 1) (number_after number row) rows mid new

-- they gain them inside a transaction, which goes on
pub record AddsAllInside (seq number : ℕ) (rows : List NewRow) (old new : State) : Type 0 where
  pub adds : AddsAll seq number rows old.now new.now
  pub inside : IsTrue new.in_transaction
  pub committed : new.committed ≡ old.committed

-- the tables gained them, and that is committed
pub record Adds (seq number : ℕ) (rows : List NewRow) (old new : State) : Type 0 where
  pub was_open : IsTrue old.is_open
  pub is_open : IsTrue new.is_open
  pub adds : AddsAll seq number rows old.now new.now
  pub committed : new.committed ≡ new.now

-- the trees are those of a database to which all these requests were added
pub record AddsTo (seq number : ℕ) (rows : List NewRow) (old : Database) (trees : Trees) : Type 0 where
  pub db : Database
  pub adds : AddsAll seq number rows old db
  pub is : trees ≡ db.trees

-- What writing one row inside a transaction does.
pub record InsertsRow {S : Type 0} (g : Ghosts S) (table : Table) (row : Row) (old new : MutBor (Held S))
    (result : Result (Unit {0}) Error) : Type 0 where
  pub leaves : OnlyWrites g old new
  -- an answer says that a transaction was under way, and that the table has the row
  pub was_inside : OnOk result (IsTrue (state g old.now).in_transaction)
  pub gains : HasCleanDisk (state g new.now)
      → OnOk result (GainsRows table (row ∷ []) (state g old.now) (state g new.now))

-- What keeping requests from this place on does, in one transaction, if the next filing has this number: all are kept,
-- one behind another, or none.
pub record KeepsAll {S : Type 0} (g : Ghosts S) (seq number : ℕ) (rows : List NewRow) (old new : Held S)
    (result : Result ℕ Error) : Type 0 where
  -- an answer is the number of the next filing after them
  pub next : IfOk result (λ n. n ≡ number_past number rows)
  pub autocommit : new.in_transaction ≡ false
  -- after an answer the rows are there, and a crash leaves them
  pub adds : HasCleanDisk (state g new) → OnOk result (Adds seq number rows (state g old) (state g new))
  pub durable : HasCleanDisk (state g new) → OnOk result (IsLasting (state g new))
  -- a refusal wrote nothing
  pub neither : HasCleanDisk (state g new) → OnErr result (AddsNothing (state g old) (state g new))
  -- a crash leaves what one before the call could leave, or the rows with all these requests, and never with some
  pub crash : Survives (state g old) (state g new) (AddsTo seq number rows (state g old).now)
