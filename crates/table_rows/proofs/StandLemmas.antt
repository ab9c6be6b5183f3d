-- What the calls of a connection keep of its database.
use Rattle.std.proofs.Common.{◌≡◌, inl, inr, ℕ, Option, Some, None, Ok, Err, IsTrue, List, refl, sym, ap, subst, ◌∙◌}
use Rattle.sqlite.specs.Order.{Row}
use Rattle.sqlite.specs.Tree.{Trees}
use Rattle.sqlite.specs.Effect.{Database, RefusesToRead}
use Rattle.sqlite.specs.declared.error.Error.{Error}
use Rattle.sqlite.specs.declared.error.Error.TheVariants.{QueryReturnedNoRows}
use Rattle.sqlite_resolve.specs.declared.compiled.Compiled.{Compiled}
use Rattle.sqlite_schema.specs.declared.command.Returning.{Returning}
use Rattle.sqlite_trees.specs.declared.error.StoreError.{StoreError}
use Rattle.sqlite_trees.specs.declared.error.StoreError.TheVariants.{OutOfMemory, Io, Corrupt, Full, Broken, Unstorable}
use Rattle.sqlite.specs.Clock.{timed}
use Rattle.sqlite.specs.Command.{Command}
use Rattle.sqlite.specs.Command.TheVariants.{Select, Rows}
use Rattle.sqlite.specs.Listing.{understood}
use Rattle.sqlite.specs.State.{State, IsStatement, IsNoStatement, IsUnchanged, RunsCommand, ShowsRows, FailsToShow}
use Rattle.sqlite.specs.State.{FailsToQuery, IsNotRun, Shown, QueriesRow, store_error}
use Rattle.sqlite.proofs.Callers.{IsPlain}
use Rattle.table_rows.specs.Standing.{HasCommitted, Keeps}

pub stands_on : (Is : Database → Type 0) (old new : State) → Keeps old new → HasCommitted Is old → HasCommitted Is new
stands_on Is old new (inl same) was = record {
  autocommit = same.0.mode ∙ was.autocommit;
  now = λ alive. subst Is (sym same.0.now_is) (was.now same.0.was_open);
  committed = λ alive. same.0.committed_is ∙ was.committed same.0.was_open ∙ sym same.0.now_is;
}
stands_on Is old new (inr back) was = record {
  autocommit = back.autocommit;
  now = λ alive. subst Is (sym ((back.undone alive).0 ∙ was.committed (back.was_open alive)))
      (was.now (back.was_open alive));
  committed = λ alive. (back.undone alive).1 ∙ sym (back.undone alive).0;
}

pub run_keeps : (sql : List ℕ) (old new : State) (c : Compiled) (full : Row) (e : Error)
    → RunsCommand old new sql c full (Err e) → Keeps old new
run_keeps sql old new c full e (inl refused) = inl refused.1
run_keeps sql old new c full e (inr failed) = inr failed.3

pub store_errors : (cause : StoreError) → QueryReturnedNoRows ≡ store_error cause → ⊥
store_errors OutOfMemory e = cc
store_errors Io e = cc
store_errors Corrupt e = cc
store_errors Full e = cc
store_errors Broken e = cc
store_errors Unstorable e = cc

reading_errors : (limit : Option ℕ) (k : Command) (db : Database) (params : Row)
    → RefusesToRead limit k db params QueryReturnedNoRows → ⊥
reading_errors limit (Select q shows) db params (inl h) = let e = h.0 in cc
reading_errors limit (Select q shows) db params (inr (inl h)) = let e = h.0 in cc
reading_errors limit (Select q shows) db params (inr (inr h)) = let e = h.0 in cc
reading_errors limit (Rows values width shows) db params h = let e = h.0 in cc
reading_errors limit _ db params h = cc

text_errors : (s : State) (sql : List ℕ) (params : Row) → IsNoStatement s sql params QueryReturnedNoRows → ⊥
text_errors s sql params (inl h) = let e = h.2 in cc
text_errors s sql params (inr h) =
    elim h.2 [
      | inl many ↦ (let e = many.1 in cc)
      | inr other ↦ elim other
          [ inl count ↦ (let e = count.1 in cc) | inr clock ↦ (let e = clock.1 in cc) ]
    ]

-- a query that writes nothing
module _ (sql : List ℕ) (params : Row) (old new : State) (plain : IsTrue old.is_open
    → IsPlain (understood old.now.schema sql)) where
  no_returning : (c : Compiled) → IsStatement old sql params c → IsTrue old.is_open → c.returning ≡ None
  no_returning c it alive = (subst IsPlain it.is (plain alive)).0

  shows_keep : (c : Compiled) (it : IsStatement old sql params c) (full : Row) (rows : List Row) (o : Option Returning)
      → c.returning ≡ o → ShowsRows old new sql c full rows o → IsUnchanged old new
  shows_keep c it full rows None is h = h.3
  shows_keep c it full rows (Some what) is h = absurd (let none = no_returning c it h.1.shown.was_open in cc)

  pub shown_keeps : (rows : List Row) → Shown sql params old new rows → IsUnchanged old new
  unfolding Shown
  shown_keeps rows h = shows_keep h.0 h.1 (timed params h.0.formats h.1.now) rows h.0.returning refl h.2

  pub row_found : (row : Row) → QueriesRow sql params old new (Ok row) → IsUnchanged old new
  unfolding QueriesRow
  row_found row (inl h) = h.1
  row_found row (inr h) = shown_keeps h.0 h.1

  shows_errors : (c : Compiled) (it : IsStatement old sql params c) (full : Row) (o : Option Returning)
      → c.returning ≡ o → FailsToShow old new sql c full QueryReturnedNoRows o → ⊥
  shows_errors c it full None is h = reading_errors old.step_limit c.command h.0 full h.2
  shows_errors c it full (Some what) is (inl refused) = let none = no_returning c it refused.1.0.was_open in cc
  shows_errors c it full (Some what) is (inr failed) = store_errors failed.0 failed.1

  -- a failure is never told as an answer with no row
  pub failed_with_rows : FailsToQuery sql params old new QueryReturnedNoRows → ⊥
  unfolding FailsToQuery IsNotRun
  failed_with_rows (inl (inl none)) = text_errors old sql params none.0
  failed_with_rows (inl (inr failed)) = store_errors failed.0 failed.1
  failed_with_rows (inr h) = shows_errors h.0 h.1 (timed params h.0.formats h.1.now) h.0.returning refl h.2

-- what a crash leaves of an open store are the rows that it shows
pub lasting : (Is : Database → Type 0) (s : State) → HasCommitted Is s → IsTrue s.is_open → (trees : Trees)
    → trees ≡ s.committed.trees → trees ≡ s.now.trees
lasting Is s h alive trees last = last ∙ ap (λ (d : Database). d.trees) (h.committed alive)
