-- Why a statement stops.
use Rattle.std.proofs.Common.{◌≡◌, ◌≤◌, inl, inr, ℕ, suc, List, [], ◌∷◌, map}
use Rattle.std.proofs.Common.{length, Option, Some, None, refl, ap, ◌∙◌, arith}
use Rattle.sqlite.specs.Order.{Row}
use Rattle.sqlite.specs.Clock.{timed}
use Rattle.sqlite.specs.Command.{Command}
use Rattle.sqlite.specs.Command.TheVariants as command
use Rattle.sqlite.specs.Effect.{Database, RefusesToRead}
use Rattle.sqlite.specs.State.{State, Fails, FailsToQuery, FailsToShow, IsNoStatement, IsNotRun, IsUnchanged}
use Rattle.sqlite.specs.State.{HasCause, IsRolledBack}
use Rattle.sqlite.specs.declared.error.Error.{Error}
use Rattle.sqlite_disk.specs.Disk.{MoreFaults}
use Rattle.sqlite_trees.specs.declared.error.StoreError.{StoreError}
use Rattle.sqlite_trees.specs.declared.error.StoreError.TheVariants.{OutOfMemory, Io, Corrupt, Full, Broken, Unstorable}
use Rattle.sqlite_resolve.specs.declared.compiled.Compiled.{Compiled}
use Rattle.sqlite_schema.specs.declared.command.Returning.{Returning}
use Rattle.table_rows.specs.Causes.{cause_of}
use Rattle.table_rows.specs.declared.cause.Cause.TheVariants.{Other}
use Rattle.table_rows.specs.Picking.{IsStopped}
use Rattle.table_rows.proofs.TextLemmas.{IsQueryText, no_returning}

-- ---- why a statement stops

refused_other : (limit : Option ℕ) (c : Command) (db : Database) (params : Row) (e : Error)
    → RefusesToRead limit c db params e → cause_of e ≡ Other
refused_other limit (command.Select q names) db params e (inl kind) = ap cause_of kind.0
refused_other limit (command.Select q names) db params e (inr (inl big)) = ap cause_of big.0
refused_other limit (command.Select q names) db params e (inr (inr stop)) = ap cause_of stop.0
refused_other limit (command.Rows values width names) db params e h = ap cause_of h.0
refused_other limit _ db params e h = ap cause_of h

no_statement : (s : State) (sql : List ℕ) (params : Row) (e : Error) → IsNoStatement s sql params e → cause_of e ≡ Other
no_statement s sql params e (inl bad) = ap cause_of bad.2
no_statement s sql params e (inr (c, is, inl many)) = ap cause_of many.1
no_statement s sql params e (inr (c, is, inr (inl count))) = ap cause_of count.1
no_statement s sql params e (inr (c, is, inr (inr clock))) = ap cause_of clock.1

module _ (sql : List ℕ) (query : IsQueryText sql) (params : Row) (old new : State) (e : Error) where
  not_shown : (c : Compiled) (full : Row) (o : Option Returning) → o ≡ None → FailsToShow old new sql c full e o
      → IsStopped old new e
  not_shown c full None none h = inl (h.3, refused_other old.step_limit c.command h.0 full e h.2)
  not_shown c full (Some what) none h = absurd cc

  pub query_stopped : FailsToQuery sql params old new e → IsStopped old new e
  unfolding FailsToQuery IsNotRun
  query_stopped (inl (inl none)) = inl (none.1, no_statement old sql params e none.0)
  query_stopped (inl (inr failed)) = inr failed
  query_stopped (inr h) =
      not_shown h.0 (timed params h.0.formats h.1.now) h.0.returning (no_returning sql query params old new h.0 h.1) h.2

more_faults : (a b c : ℕ) → a ≤ b → MoreFaults b c → MoreFaults a c
more_faults a b c low more = omega (arith, low, more)

-- after statements that left the connection as it was
pub failed_after : (a b c : State) (e : Error) → IsUnchanged a b → a.faults ≤ b.faults → Fails b c ⊥ e → Fails a c ⊥ e
failed_after a b c e same low failed = (failed.0, failed.1, caused failed.0 failed.2, rolled_back, failed.4)
  where
    caused : (cause : StoreError) → HasCause b c ⊥ cause → HasCause a c ⊥ cause
    caused OutOfMemory h = h
    caused Io h = more_faults a.faults b.faults c.faults low h
    caused Corrupt h = more_faults a.faults b.faults c.faults low h
    caused Full h = more_faults a.faults b.faults c.faults low h
    caused Broken h = absurd (let alive = same.0.is_open in cc)
    caused Unstorable h = h

    rolled_back : IsRolledBack a c
    rolled_back = record {
      was_open = λ alive. same.0.was_open;
      undone = λ alive. (
        (failed.3.undone alive).0 ∙ same.0.committed_is,
        (failed.3.undone alive).1
            ∙ same.0.committed_is,
      );
      autocommit = failed.3.autocommit;
      unmarked = failed.3.unmarked;
      counts = record {
        changes = failed.3.counts.changes ∙ same.1.changes;
        last_rowid =
            failed.3.counts.last_rowid ∙ same.1.last_rowid;
      };
    }

pub length_mapped : {X Y : Type 0} (f : X → Y) (xs : List X) → length (map f xs) ≡ length xs
length_mapped f [] = refl
length_mapped f (x ∷ xs) = ap suc (length_mapped f xs)
