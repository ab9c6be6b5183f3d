-- A query that is run after others that left the connection as it was, as if there had been none.
use Rattle.std.proofs.Common.{◌≡◌, ◌≢◌, inl, inr, ◌≤◌, ℕ, List, [], sym, subst, ◌∙◌, Option, Some, None, Ok, Err}
use Rattle.sqlite.specs.Order.{Row}
use Rattle.sqlite.specs.Effect.{Database}
use Rattle.sqlite.specs.Clock.{timed}
use Rattle.sqlite.specs.Listing.{understood, reads_listing, IsSourceOf}
use Rattle.sqlite.specs.State.{State, IsStatement, IsNoStatement, IsNotRun, IsUnchanged, Shown, ShowsRows, Fails}
use Rattle.sqlite.specs.State.{FailsToQuery, FailsToShow}
use Rattle.sqlite.specs.declared.error.Error.{Error}
use Rattle.sqlite.proofs.Callers.{unchanged_then}
use Rattle.sqlite_resolve.specs.declared.compiled.Compiled.{Compiled}
use Rattle.sqlite_schema.specs.declared.command.Returning.{Returning}
use Rattle.table_rows.specs.Causes.{cause_of}
use Rattle.table_rows.specs.Picking.{IsStopped}
use Rattle.table_rows.specs.declared.cause.Cause.{Cause}
use Rattle.table_rows.specs.declared.cause.Cause.TheVariants as cause
use Rattle.table_rows.proofs.StopLemmas.{failed_after}
use Rattle.table_rows.proofs.TextLemmas.{IsQueryText, no_returning}

-- ---- why one before it stopped

module _ (old new : State) (e : Error) where
  pub failed_by : (why : Cause) → why ≢ cause.Other → cause_of e ≡ why → IsStopped old new e → Fails old new ⊥ e
  failed_by why other is (inl not_run) = absurd (other (sym is ∙ not_run.1))
  failed_by why other is (inr failed) = failed

-- ---- what it shows, or why it fails

module _ (text : List ℕ) (query : IsQueryText text) (a b e : State) (same : IsUnchanged a b) where
  statement_before : (c : Compiled) → IsStatement b text [] c → IsStatement a text [] c
  statement_before c it = record {
    is = subst (λ (db : Database). understood db.schema text ≡ Ok c) same.0.now_is it.is;
    whole = it.whole;
    given = it.given;
    now = it.now;
  }

  shows_before : (c : Compiled) (full : Row) (rows : List Row) (o : Option Returning) → o ≡ None
      → ShowsRows b e text c full rows o → ShowsRows a e text c full rows o
  shows_before c full rows None none h = (
    h.0,
    subst (λ (db : Database). IsSourceOf (reads_listing db.schema text) db h.0) same.0.now_is h.1,
    h.2,
    unchanged_then a b e same h.3,
  )
  shows_before c full rows (Some what) none h = absurd cc

  pub shown_before : (rows : List Row) → Shown text [] b e rows → Shown text [] a e rows
  unfolding Shown statement_before
  shown_before rows h = (
    h.0,
    statement_before h.0 h.1,
    shows_before h.0 (timed [] h.0.formats h.1.now) rows h.0.returning (no_returning text query [] b e h.0 h.1) h.2,
  )

  no_statement_before : (error : Error) → IsNoStatement b text [] error → IsNoStatement a text [] error
  no_statement_before error (inl bad) =
      inl (bad.0, subst (λ (db : Database). understood db.schema text ≡ Err bad.0) same.0.now_is bad.1, bad.2)
  no_statement_before error (inr h) =
      inr (h.0, subst (λ (db : Database). understood db.schema text ≡ Ok h.0) same.0.now_is h.1, h.2)

  module _ (limit : b.step_limit ≡ a.step_limit) (low : a.faults ≤ b.faults) where
    fails_to_show_before : (c : Compiled) (full : Row) (error : Error) (o : Option Returning) → o ≡ None
        → FailsToShow b e text c full error o → FailsToShow a e text c full error o
    fails_to_show_before c full error None none h = (
      h.0,
      subst (λ (db : Database). IsSourceOf (reads_listing db.schema text) db h.0) same.0.now_is h.1,
      subst (λ l. Rattle.sqlite.specs.Effect.RefusesToRead l c.command h.0 full error) limit h.2,
      unchanged_then a b e same h.3,
    )
    fails_to_show_before c full error (Some what) none h = absurd cc

    pub fails_before : (error : Error) → FailsToQuery text [] b e error → FailsToQuery text [] a e error
    unfolding FailsToQuery IsNotRun statement_before
    fails_before error (inl (inl none)) = inl (inl (no_statement_before error none.0, unchanged_then a b e same none.1))
    fails_before error (inl (inr failed)) = inl (inr (failed_after a b e error same low failed))
    fails_before error (inr h) =
        inr (
          h.0,
          statement_before h.0 h.1,
          fails_to_show_before h.0 (timed [] h.0.formats h.1.now) error h.0.returning
              (no_returning text query [] b e h.0 h.1) h.2,
        )
