-- What a query reads of a database that stands.
use Rattle.std.proofs.Common.{◌≡◌, ℕ, inl, inr, false, List, [], ◌∷◌, slice_get, Option, Some, None, Ok, Err, Result}
use Rattle.std.proofs.Common.{IsTrue, IfOk, refl}
use Rattle.sqlite.specs.Order.{Row}
use Rattle.sqlite.specs.Program.{overlay}
use Rattle.sqlite.specs.Query.{Query}
use Rattle.sqlite_sql.specs.Query.{IsSureAnswer}
use Rattle.sqlite.specs.Schema.{Schema}
use Rattle.sqlite.specs.Command.TheVariants.{Select}
use Rattle.sqlite.specs.Effect.{Database}
use Rattle.sqlite.specs.declared.error.Error.{Error}
use Rattle.sqlite.specs.Listing.{understood, reads_listing}
use Rattle.sqlite.specs.State.{State, IsUnchanged, Shown, QueriesRow}
use Rattle.sqlite.proofs.Callers.{IsPlain, command_of, reads_as, first_as}
use Rattle.table_rows.specs.Rows.{row_or_none}
use Rattle.table_rows.specs.Standing.{HasCommitted}
use Rattle.table_rows.proofs.StandLemmas.{shown_keeps, row_found, failed_with_rows}

-- under this schema the text is this query, which writes nothing
pub record Asks (schema : Schema) (sql : List ℕ) (q : Query) : Type 0 where
  pub names : List (List ℕ)
  pub is : command_of (understood schema sql) ≡ Select (record { lets = []; body = q }) names
  pub plain : IsPlain (understood schema sql)
  pub listing : reads_listing schema sql ≡ false

-- the rows are an answer of the database to the query
pub record Tells (Is : Database → Type 0) (q : Query) (params : Row) (db : Database) (rows : List Row) : Type 0 where
  pub stood : Is db
  pub answer : IsSureAnswer q (overlay db.trees []) params rows

module _ (Is : Database → Type 0) (sql : List ℕ) (q : Query) (asks : (db : Database) → Is db
    → Asks db.schema sql q) (params : Row) (old new : State) (was : HasCommitted Is old) where
  known : IsTrue old.is_open → IsPlain (understood old.now.schema sql)
  known alive = (asks old.now (was.now alive)).plain

  pub shown_same : (rows : List Row) → Shown sql params old new rows → IsUnchanged old new
  shown_same rows h = shown_keeps sql params old new known rows h

  pub all_told : (rows : List Row) → Shown sql params old new rows → Tells Is q params old.now rows
  all_told rows h =
      let stood = was.now (shown_same rows h).0.was_open in
      let it = asks old.now stood in
      record {
        stood = stood;
        answer =
            (reads_as sql params old new old.now.schema refl _ it.is it.plain it.listing rows h).answer;
      }

  -- the first row is that of an answer, and where there is none an answer has no row
  pub first_told : (r : Result (Option Row) Error) → QueriesRow sql params old new (row_or_none r)
      → IfOk r (λ row. (rows : List Row) × Tells Is q params old.now rows × (slice_get rows 0 ≡ row))
  unfolding QueriesRow
  first_told (Ok (Some row)) h =
      let stood = was.now (row_found sql params old new known row h).0.was_open in
      let it = asks old.now stood in
      let got = (first_as sql params old new old.now.schema refl _ it.is it.plain it.listing row h).1 in
      (row ∷ got.0, record { stood = stood; answer = got.1 }, refl)
  first_told (Ok None) (inl failed) = absurd (failed_with_rows sql params old new known failed)
  first_told (Ok None) (inr none) = ([], all_told [] none.1, refl)
  first_told (Err e) h = tt
