-- A database that is no outbox of this version was only read.
use Rattle.std.proofs.Common.{◌≡◌, ℕ, [], Option, Some, None, Result, Ok, Err, IfOk, IfErr, inl, inr}
use Rattle.std.proofs.Common.{sym, ap, subst, ◌∙◌}
use Rattle.sqlite.specs.Clock.{timed}
use Rattle.sqlite.specs.State.{State, FailsToQuery, FailsToShow, HasCause, IsNotRun, IsUnchanged, store_error}
use Rattle.sqlite.specs.declared.error.Error.{Error}
use Rattle.sqlite_schema.specs.declared.command.Returning.{Returning}
use Rattle.sqlite_trees.specs.declared.error.StoreError.{StoreError}
use Rattle.sqlite_trees.specs.declared.error.StoreError.TheVariants.{OutOfMemory, Io, Corrupt, Full, Broken, Unstorable}
use Rattle.sqlite.specs.Effect.{Database}
use Rattle.sqlite.specs.Held.{Held, state}
use Rattle.sqlite.specs.Store.{Ghosts}
use Rattle.table_rows.specs.Causes.{cause_of}
use Rattle.table_rows.specs.Picking.{IsStopped}
use Rattle.table_rows.specs.declared.cause.Cause.TheVariants.{Other}
use Rattle.table_rows.proofs.TextLemmas.{no_returning, query_same}
use Rattle.outbox_tables.specs.Audit.{meta_text, IsNoOutbox}
use Rattle.outbox_tables.specs.Earlier.{IsAlone, IsEarlierOf}
use Rattle.outbox_tables.specs.Faults.{IsFailure}
use Rattle.outbox_tables.specs.declared.fault.OutboxFault.{OutboxFault}
use Rattle.outbox_tables.specs.declared.fault.OutboxFault.TheVariants.{NotOurs}
use Rattle.outbox_core.specs.OutboxParts.{OutboxParts}
use Rattle.outbox_core.specs.Refusals.{GivesBackOpening, GivesBackMigrating}
use Rattle.outbox_process.specs.Beginning.{MigratesEarlier, MigratesOutbox}
use Rattle.outbox_process.specs.Refusals.{RefusesMigrating}
use Rattle.outbox_process.specs.declared.fault.Why.{Why}
use Rattle.outbox_process.specs.declared.fault.Why.TheVariants.{Migrate}
use Rattle.outbox_tables.proofs.Texts.{meta_reads}

-- if it failed for another cause than memory and the disk, nothing was written
unchanged_other : (old new : State) (e : Error) → cause_of e ≡ Other → IsStopped old new e → IsUnchanged old new
unchanged_other old new e other (inl not_run) = not_run.0
unchanged_other old new e other (inr failed) = go failed.0 (sym (ap cause_of failed.1) ∙ other) failed.2
  where
    go : (kind : StoreError) → cause_of (store_error kind) ≡ Other → HasCause old new ⊥ kind → IsUnchanged old new
    go OutOfMemory is h = absurd cc
    go Io is h = absurd cc
    go Corrupt is h = absurd cc
    go Full is h = absurd cc
    go Broken is h = absurd cc
    go Unstorable is h = absurd h

not_run_kept : (old new : State) (e : Error) → cause_of e ≡ Other → IsNotRun old new meta_text [] e
    → IsUnchanged old new
unfolding IsNotRun
not_run_kept old new e other (inl not_run) = not_run.1
not_run_kept old new e other (inr failed) = unchanged_other old new e other (inr failed)

unread_kept : (old new : State) (e : Error) → cause_of e ≡ Other → FailsToQuery meta_text [] old new e
    → IsUnchanged old new
unfolding FailsToQuery
unread_kept old new e other (inl not_run) = not_run_kept old new e other not_run
unread_kept old new e other (inr it) = go it.0.returning (no_returning meta_text meta_reads [] old new it.0 it.1) it.2
  where
    go : (o : Option Returning) → o ≡ None → FailsToShow old new meta_text it.0 (timed [] it.0.formats it.1.now) e o
        → IsUnchanged old new
    go None none fails = fails.3
    go (Some what) none fails = absurd cc

pub no_outbox_kept : (form : ℕ) (old new : State) → IsNoOutbox form old new → IsUnchanged old new
no_outbox_kept form old new (inl shown) = query_same meta_text meta_reads [] old new shown.0 shown.1
no_outbox_kept form old new (inr stops) = unread_kept old new stops.0 stops.2 stops.1

not_failed : IsFailure NotOurs → ⊥
not_failed (inl is) = cc
not_failed (inr is) = cc

module _ {S : Type 0} (g : Ghosts S) (conn back : Held S) (given : GivesBackOpening g conn NotOurs back) where
  -- what an outbox of the version before holds was the same before it was read
  pub migrated : (outbox : OutboxParts S) → MigratesEarlier g back outbox → MigratesOutbox g conn outbox
  migrated outbox earlier clean =
      let was = earlier clean in
      let same = (no_outbox_kept 2 (state g conn) (state g back) (given.why was.0)).0.now_is in (
        (
          λ alone.
              let one = was.1.0 (subst (λ (db : Database). IsAlone db.schema) (sym same) alone) in
              (one.0, subst (IsEarlierOf one.0) same one.1, one.2),
          λ it alone is. was.1.1 it (subst (λ (db : Database). IsAlone db.schema) (sym same) alone)
              (subst (IsEarlierOf it) (sym same) is),
        ),
        λ it is. not_failed (given.sound was.0 it is),
      )

  pub all_migrated : {E : Type 0} (r : Result (OutboxParts S) E) → IfOk r (MigratesEarlier g back)
      → IfOk r (MigratesOutbox g conn)
  all_migrated (Ok outbox) earlier = migrated outbox earlier
  all_migrated (Err fault) earlier = tt

  pub all_refused : {A : Type 0} (r : Result A (Why × Held S))
      → IfErr r (λ refusal. (fault : OutboxFault) × (refusal.0 ≡ Migrate fault)
      × GivesBackMigrating g back fault refusal.1)
      → IfErr r (λ refusal. RefusesMigrating g conn refusal.1 refusal.0)
  all_refused (Ok outbox) is = tt
  all_refused (Err refusal) is = inr (is.0, is.1, inr (back, given, is.2))
