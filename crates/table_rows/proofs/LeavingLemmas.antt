-- Calls that only read, one after another.
use Rattle.std.proofs.Common.{◌≡◌, ◌∙◌, inl, inr, ℕ, ◌≤◌, false, List, Result, Ok, Err, IsTrue, IfOk, IfErr, OnOk, refl}
use Rattle.std.proofs.Common.{arith}
use Rattle.std.proofs.lemmas.Bool.{cases_Bool}
use Rattle.sqlite.specs.Order.{Row}
use Rattle.sqlite.specs.Effect.{Database}
use Rattle.sqlite.specs.Store.{Ghosts}
use Rattle.sqlite.specs.Held.{Held, state}
use Rattle.sqlite.specs.State.{State, HasCleanDisk, IsUnchanged, IsRolledBack, KeepsCounts, KeepsCommit, HasCause}
use Rattle.sqlite.specs.State.{Shown, FailsToQuery, CommitsShowing, Survives}
use Rattle.sqlite.specs.declared.error.Error.{Error}
use Rattle.sqlite.proofs.Callers.{unchanged_then}
use Rattle.sqlite.proofs.StateLemmas.{unchanged}
use Rattle.sqlite_trees.specs.declared.error.StoreError.{StoreError}
use Rattle.sqlite_trees.specs.declared.error.StoreError.TheVariants.{OutOfMemory, Io, Corrupt, Full, Broken, Unstorable}
use Rattle.table_rows.specs.Picking.{IsStopped}
use Rattle.table_rows.specs.Queries.{IsQueryText}
use Rattle.table_rows.specs.Standing.{HasCommitted}
use Rattle.table_rows.specs.Leaving.{IsUntouched, Ending, IsLeft, Leaves, ending_of, OnlyQueries}
use Rattle.table_rows.specs.Leaving.Ending.{Asked, Passed, Ended, Stopped}
use Rattle.table_rows.proofs.StandLemmas.{stands_on}
use Rattle.table_rows.proofs.StepLemmas.{nothing_left, nothing_yet}
use Rattle.table_rows.proofs.StopLemmas.{query_stopped}
use Rattle.table_rows.proofs.TextLemmas.{query_same, query_survives}

-- ---- two calls

untouched : (a b : State) → IsUnchanged a b → IsUntouched a b
untouched a b u = record { was_open = λ _. u.0.was_open; same = λ _. u; counts = u.1 }

module _ (a b c : State) (p : IsUntouched a b) where
  same_then : IsUnchanged b c → IsUnchanged a c
  same_then v = unchanged_then a b c (p.same (p.was_open v.0.was_open)) v

  counts_then : KeepsCounts b c → KeepsCounts a c
  counts_then q = record { changes = q.changes ∙ p.counts.changes; last_rowid = q.last_rowid ∙ p.counts.last_rowid }

  untouched_then : IsUntouched b c → IsUntouched a c
  untouched_then q = record {
    was_open = λ alive. p.was_open (q.was_open alive);
    same = λ alive. let u = p.same alive in unchanged_then a b c u (q.same u.0.is_open);
    counts = counts_then q.counts;
  }

  back_then : IsRolledBack b c → IsRolledBack a c
  back_then back = record {
    was_open = λ alive. p.was_open (back.was_open alive);
    undone = λ alive. let u = p.same (p.was_open (back.was_open alive)) in
        ((back.undone alive).0 ∙ u.0.committed_is, (back.undone alive).1 ∙ u.0.committed_is);
    autocommit = back.autocommit;
    unmarked = back.unmarked;
    counts = counts_then back.counts;
  }

  shut_before : b.is_open ≡ false → a.is_open ≡ false
  shut_before shut = elim (cases_Bool a.is_open) [
    | inl alive ↦ (let open_still = (p.same alive).0.is_open in cc)
    | inr so ↦ so
  ]

  caused : a.faults ≤ b.faults → (cause : StoreError) → HasCause b c ⊥ cause → HasCause a c ⊥ cause
  caused low OutOfMemory h = h
  caused low Io h = omega (arith, low, h)
  caused low Corrupt h = omega (arith, low, h)
  caused low Full h = omega (arith, low, h)
  caused low Broken h = shut_before h
  caused low Unstorable h = h

  stopped_then : (e : Error) → a.faults ≤ b.faults → IsStopped b c e → IsStopped a c e
  stopped_then e low (inl not_run) = inl (same_then not_run.0, not_run.1)
  stopped_then e low (inr failed) = inr (failed.0, failed.1, caused low failed.0 failed.2, back_then failed.3, failed.4)

  left_then : (l : Ending) → a.faults ≤ b.faults → IsLeft l b c → IsLeft l a c
  left_then Asked low q = same_then q
  left_then Passed low q = untouched_then q
  left_then Ended low (inl q) = inl (untouched_then q)
  left_then Ended low (inr back) = inr (back_then back)
  left_then (Stopped e) low q = stopped_then e low q

-- a disk that is clean after a call was so before it
pub clean_before : {l : Ending} {a b : State} → Leaves l a b → HasCleanDisk b → HasCleanDisk a
clean_before p clean = omega (arith, p.survives.clean, clean)

-- a call after one that may not have asked
pub passed_then : {l : Ending} {a b c : State} → Leaves Passed a b → Leaves l b c → Leaves l a c
passed_then {l} {a} {b} {c} p q = record {
  left = λ clean. left_then a b c (p.left (clean_before q clean)) l p.survives.counts (q.left clean);
  mode = λ idle. q.mode (p.mode idle);
  survives = nothing_left a b c p.survives q.survives;
}

-- an answer is one with a query or without
pub passed : {a b : State} → Leaves Asked a b → Leaves Passed a b
passed {a} {b} p = record { left = λ clean. untouched a b (p.left clean); mode = p.mode; survives = p.survives }

-- a call after an answer: it answers, or is refused
pub asked_then : {l : Ending} {a b c : State} → Leaves Asked a b → Leaves l b c → Leaves l a c
asked_then p q = passed_then (passed p) q

-- after an answer one that may not have asked
pub asked_before : {a b c : State} → Leaves Asked a b → Leaves Passed b c → Leaves Asked a c
asked_before {a} {b} {c} p q = record {
  left = λ clean. let u = p.left (clean_before q clean) in unchanged_then a b c u ((q.left clean).same u.0.is_open);
  mode = λ idle. q.mode (p.mode idle);
  survives = nothing_left a b c p.survives q.survives;
}

-- ---- what follows of each

ended_as : (l : Ending) (a b : State) → IsLeft l a b → IsLeft Ended a b
ended_as Asked a b u = inl (untouched a b u)
ended_as Passed a b u = inl u
ended_as Ended a b u = u
ended_as (Stopped e) a b (inl not_run) = inl (untouched a b not_run.0)
ended_as (Stopped e) a b (inr failed) = inr failed.3

-- after it the caller may refuse in its own words
pub ended : {l : Ending} {a b : State} → Leaves l a b → Leaves Ended a b
ended {l} {a} {b} p = record { left = λ clean. ended_as l a b (p.left clean); mode = p.mode; survives = p.survives }

-- no call was made
pub none_yet : (s : State) → Leaves Passed s s
none_yet s = record {
  left = λ clean. record {
    was_open = λ alive. alive;
    same = unchanged s;
    counts =
        record { changes = refl; last_rowid = refl };
  };
  mode = λ idle. idle;
  survives = nothing_yet s;
}

untouched_stands : (Is : Database → Type 0) (a b : State) → b.in_transaction ≡ false → IsUntouched a b
    → HasCommitted Is a → HasCommitted Is b
untouched_stands Is a b idle u was = record {
  autocommit = idle;
  now = λ alive. (stands_on Is a b (inl (u.same (u.was_open alive))) was).now alive;
  committed = λ alive. (stands_on Is a b (inl (u.same (u.was_open alive))) was).committed alive;
}

ended_stands : (Is : Database → Type 0) (a b : State) → b.in_transaction ≡ false → IsLeft Ended a b → HasCommitted Is a
    → HasCommitted Is b
ended_stands Is a b idle (inl u) was = untouched_stands Is a b idle u was
ended_stands Is a b idle (inr back) was = stands_on Is a b (inr back) was

-- what was committed is committed still
pub stands : {l : Ending} {a b : State} {Is : Database → Type 0} → Leaves l a b → HasCleanDisk b → HasCommitted Is a
    → HasCommitted Is b
stands {l} {a} {b} {Is} p clean was = ended_stands Is a b (p.mode was.autocommit) (ended_as l a b (p.left clean)) was

ended_commits : (a b : State) → IsLeft Ended a b → KeepsCommit a b
ended_commits a b (inl u) =
    record { was_open = u.was_open; committed = λ alive. (u.same (u.was_open alive)).0.committed_is }
ended_commits a b (inr back) = record { was_open = back.was_open; committed = λ alive. (back.undone alive).1 }

pub keeps_commit : {l : Ending} {a b : State} → Leaves l a b → HasCleanDisk b → KeepsCommit a b
keeps_commit {l} {a} {b} p clean = ended_commits a b (ended_as l a b (p.left clean))

-- and an answer leaves the store open
pub opens : {X E : Type 0} {a b : State} (result : Result X E) → Leaves (ending_of Asked (λ _. Ended) result) a b
    → HasCleanDisk b → OnOk result (IsTrue b.is_open)
opens (Ok x) p clean = (p.left clean).0.is_open
opens (Err e) p clean = tt

-- ---- a query

module _ {S V : Type 0} (g : Ghosts S) (sql : List ℕ) (query : IsQueryText sql) (params : Row) (items : V
    → List Row) where
  pub query_reads : (a b : Held S) (r : Result V Error)
      → (HasCleanDisk (state g b) → IfOk r (λ rows. Shown sql params (state g a) (state g b) (items rows)))
      → (HasCleanDisk (state g b) → IfErr r (FailsToQuery sql params (state g a) (state g b)))
      → (a.in_transaction ≡ false → b.in_transaction ≡ false)
      → Survives (state g a) (state g b) (CommitsShowing sql params (state g a)) → OnlyQueries g a b r
  query_reads a b (Ok rows) shown failed mode survives = record {
    left = λ clean. query_same sql query params (state g a) (state g b) (items rows) (shown clean);
    mode = mode;
    survives = query_survives sql query params (state g a) (state g b) survives;
  }
  query_reads a b (Err e) shown failed mode survives = record {
    left = λ clean. query_stopped sql query params (state g a) (state g b) e (failed clean);
    mode = mode;
    survives = query_survives sql query params (state g a) (state g b) survives;
  }
