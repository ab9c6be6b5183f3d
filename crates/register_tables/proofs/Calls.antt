-- What a call leaves, and one call after another.
use Rattle.std.proofs.Common.{◌≡◌, inl, inr, Result, Ok, Err, IfOk, OnOk, IsErr, sym, ap, ◌∙◌}
use Rattle.sqlite.specs.State.{State, HasCleanDisk, HasCause, IsUnchanged, store_error}
use Rattle.sqlite.specs.declared.error.Error.{Error}
use Rattle.sqlite_trees.specs.declared.error.StoreError.{StoreError}
use Rattle.sqlite_trees.specs.declared.error.StoreError.TheVariants.{OutOfMemory, Io, Corrupt, Full, Broken, Unstorable}
use Rattle.table_rows.specs.Causes.{cause_of}
use Rattle.table_rows.specs.declared.cause.Cause.TheVariants.{Memory, Disk, Other}
use Rattle.table_rows.specs.Leaving.{Ending, Leaves, ending_of}
use Rattle.table_rows.specs.Leaving.Ending.{Asked, Ended, Stopped}
use Rattle.table_rows.specs.Picking.{IsStopped}
use Rattle.table_rows.specs.Standing.{StaysOnOk, KeepsOnErr}
use Rattle.table_rows.proofs.LeavingLemmas.{keeps_commit}

-- a query that was refused for another cause than memory or disk left the connection as it was
pub not_run : {error : Error} {a b : State} → cause_of error ≡ Other → Leaves (Stopped error) a b → Leaves Asked a b
not_run {error} {a} {b} other p =
    record { left = λ clean. unchanged_by (p.left clean); mode = p.mode; survives = p.survives }
  where
    blamed : (cause : StoreError) → error ≡ store_error cause → HasCause a b ⊥ cause → ⊥
    blamed OutOfMemory is h = let told : Memory ≡ Other = sym (ap cause_of is) ∙ other in cc
    blamed Io is h = let told : Disk ≡ Other = sym (ap cause_of is) ∙ other in cc
    blamed Corrupt is h = let told : Disk ≡ Other = sym (ap cause_of is) ∙ other in cc
    blamed Full is h = let told : Disk ≡ Other = sym (ap cause_of is) ∙ other in cc
    blamed Broken is h = let told : Disk ≡ Other = sym (ap cause_of is) ∙ other in cc
    blamed Unstorable is h = h

    unchanged_by : IsStopped a b error → IsUnchanged a b
    unchanged_by (inl none) = none.0
    unchanged_by (inr failed) = absurd (blamed failed.0 failed.1 failed.2)

pub refuses : {X E : Type 0} {a b : State} (answered : Ending) (result : Result X E) → IsErr result → Leaves Ended a b
    → Leaves (ending_of answered (λ _. Ended) result) a b
refuses answered (Ok x) is p = absurd cc
refuses answered (Err e) is p = p

-- what an answer says, with what it leaves
pub on_answer : {X E : Type 0} {a b : State} (result : Result X E) (P Q : X → Type 0)
    → Leaves (ending_of Asked (λ _. Ended) result) a b → HasCleanDisk b → (IsUnchanged a b → (x : X) → P x → Q x)
    → IfOk result P → IfOk result Q
on_answer (Ok x) P Q p clean f h = f (p.left clean) x h
on_answer (Err e) P Q p clean f h = tt

-- an answer of a call that only reads leaves the database as it was, and a refusal leaves what was committed
pub same_on_ok : {X E : Type 0} {a b : State} (result : Result X E) → Leaves (ending_of Asked (λ _. Ended) result) a b
    → StaysOnOk a b result
same_on_ok (Ok x) p clean = p.left clean
same_on_ok (Err e) p clean = tt

pub kept_on_err : {X E : Type 0} {a b : State} (result : Result X E) → Leaves (ending_of Asked (λ _. Ended) result) a b
    → KeepsOnErr a b result
kept_on_err (Ok x) p clean = tt
kept_on_err (Err e) p clean = keeps_commit p clean

-- it holds, so it holds of an answer
pub then_ok : {X E P : Type 0} (result : Result X E) → P → OnOk result P
then_ok (Ok x) holds = holds
then_ok (Err e) holds = tt
