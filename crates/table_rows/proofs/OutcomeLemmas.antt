-- What a call that only reads leaves, whatever came of it; and that the first row of a query is read by one.
use Rattle.std.proofs.Common.{◌≡◌, inl, inr, ℕ, false, List, [], Option, Some, None, Ok, Err, Result, ap}
use Rattle.sqlite.specs.Order.{Row}
use Rattle.sqlite.specs.Store.{Ghosts}
use Rattle.sqlite.specs.Held.{Held, state}
use Rattle.sqlite.specs.State.{State, HasCleanDisk, IsUnchanged, QueriesRow, CommitsShowing, Survives}
use Rattle.sqlite.specs.declared.error.Error.{Error}
use Rattle.sqlite.specs.declared.error.Error.TheVariants.{QueryReturnedNoRows}
use Rattle.table_rows.specs.Causes.{cause_of}
use Rattle.table_rows.specs.Leaving.{Ending, Leaves, ending_of, OnlyQueries}
use Rattle.table_rows.specs.Leaving.Ending.{Asked, Passed, Ended}
use Rattle.table_rows.specs.Picking.{IsStopped}
use Rattle.table_rows.specs.Queries.{IsQueryText}
use Rattle.table_rows.specs.Rows.{row_or_none}
use Rattle.table_rows.proofs.LeavingLemmas.{asked_before, asked_then, ended}
use Rattle.table_rows.proofs.StandLemmas.{store_errors}
use Rattle.table_rows.proofs.StopLemmas.{query_stopped}
use Rattle.table_rows.proofs.TextLemmas.{query_same, query_survives}

-- after an answer, a call that may not have asked
pub asked_first : {X E : Type 0} {a b c : State} (refused : E → Ending) (result : Result X E) → Leaves Asked a b
    → Leaves (ending_of Passed refused result) b c → Leaves (ending_of Asked refused result) a c
asked_first refused (Ok x) p q = asked_before p q
asked_first refused (Err e) p q = asked_then p q

-- after calls a result of our own: an answer, or a refusal in other words
pub concluded : {X E : Type 0} {l : Ending} {a b : State} (result : Result X E) → Leaves l a b
    → Leaves (ending_of l (λ _. Ended) result) a b
concluded (Ok x) p = p
concluded (Err e) p = ended p

-- ---- the first row

module _ (sql : List ℕ) (query : IsQueryText sql) (params : Row) (a b : State) where
  row_same : (row : Row) → QueriesRow sql params a b (Ok row) → IsUnchanged a b
  unfolding QueriesRow
  row_same row (inl begins) = begins.1
  row_same row (inr all) = query_same sql query params a b all.0 all.1

  row_stopped : (e : Error) → QueriesRow sql params a b (Err e) → IsStopped a b e
  unfolding QueriesRow
  row_stopped e (inl failed) = query_stopped sql query params a b e failed
  row_stopped e (inr none) = inl (query_same sql query params a b [] none.1, ap cause_of none.0)

  none_same : IsStopped a b QueryReturnedNoRows → IsUnchanged a b
  none_same (inl not_run) = not_run.0
  none_same (inr failed) = absurd (store_errors failed.0 failed.1)

module _ {S : Type 0} (g : Ghosts S) (sql : List ℕ) (query : IsQueryText sql) (params : Row) (a b : Held S) where
  pub first_reads : (r : Result (Option Row) Error)
      → (HasCleanDisk (state g b) → QueriesRow sql params (state g a) (state g b) (row_or_none r))
      → (a.in_transaction ≡ false → b.in_transaction ≡ false)
      → Survives (state g a) (state g b) (CommitsShowing sql params (state g a)) → OnlyQueries g a b r
  first_reads (Ok (Some row)) h mode survives = record {
    left = λ clean. row_same sql query params (state g a) (state g b) row (h clean);
    mode = mode;
    survives = query_survives sql query params (state g a) (state g b) survives;
  }
  first_reads (Ok None) h mode survives = record {
    left = λ clean. none_same sql query params (state g a) (state g b)
        (row_stopped sql query params (state g a) (state g b) QueryReturnedNoRows (h clean));
    mode = mode;
    survives = query_survives sql query params (state g a) (state g b) survives;
  }
  first_reads (Err e) h mode survives = record {
    left = λ clean. row_stopped sql query params (state g a) (state g b) e (h clean);
    mode = mode;
    survives = query_survives sql query params (state g a) (state g b) survives;
  }
