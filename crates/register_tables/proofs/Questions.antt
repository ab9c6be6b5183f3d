-- A question to tables of ours is answered, or it fails by memory or the disk alone.
use Rattle.std.proofs.Common.{ℕ, List, Result, Err, IfOk, IfErr}
use Rattle.std.proofs.lemmas.Result.{IfOk-weaker, IfErr-weaker}
use Rattle.sqlite.specs.Effect.{Database}
use Rattle.sqlite.specs.Held.{Held, state}
use Rattle.sqlite.specs.Order.{Row}
use Rattle.sqlite.specs.Query.{Query}
use Rattle.sqlite.specs.State.{HasCleanDisk, FailsToQuery}
use Rattle.sqlite.specs.Store.{Ghosts}
use Rattle.sqlite.specs.Table.{Table}
use Rattle.sqlite.specs.declared.error.Error.{Error}
use Rattle.table_rows.specs.Leaving.{Leaves, OnlyQueries}
use Rattle.table_rows.specs.Leaving.Ending.{Stopped}
use Rattle.table_rows.specs.Tables.{BeginsWith}
use Rattle.table_rows.proofs.QuestionLemmas.{question_fails, IsQuestion}
use Rattle.register_tables.specs.Reads.{AsksOurs}

module _ {S : Type 0} (g : Ghosts S) (a b : Held S) {ours tables : List Table} {text : List ℕ} {q : Query}
    {params : Row}
    (it : IsQuestion ours text q params)
    (begins : BeginsWith tables (state g a).now.schema → BeginsWith ours (state g a).now.schema) where
  -- what an answer shows says this
  pub asks_ours : {X : Type 0} {Shows : X → Type 0} {Says : X → Database → Type 0} (result : Result X Error)
      → (BeginsWith tables (state g a).now.schema → (x : X) → Shows x → Says x (state g a).now)
      → (HasCleanDisk (state g b) → IfOk result Shows)
      → (HasCleanDisk (state g b) → IfErr result (FailsToQuery text params (state g a) (state g b)))
      → OnlyQueries g a b result → AsksOurs tables g a b result Says
  asks_ours result told shown failed leaves = record {
    told = λ clean ours. IfOk-weaker result _ _ (told ours.declared) (shown clean);
    fails = λ clean ours. IfErr-weaker result _ _ (question_fails it (state g a) (state g b) (begins ours.declared)
        ours.unlimited) (failed clean);
    leaves = leaves;
  }

  -- it is refused
  pub not_asked : {X : Type 0} {Says : X → Database → Type 0} (e : Error)
      → (HasCleanDisk (state g b) → FailsToQuery text params (state g a) (state g b) e)
      → Leaves (Stopped e) (state g a) (state g b) → AsksOurs tables g a b (Err e) Says
  not_asked e failed leaves = record {
    told = λ clean ours. tt;
    fails = λ clean ours. question_fails it (state g a) (state g b) (begins ours.declared) ours.unlimited e
        (failed clean);
    leaves = leaves;
  }
