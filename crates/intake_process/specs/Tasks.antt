-- What the tasks do, and what they print. `out` and `out'` are what the output has before and after a task, if that
-- is known.
use Rattle.std.specs.Prelude.{◌≡◌, ◌⊎◌, ℕ, true, false, List, [], length, Option, Some, Result, IfErr, OnOk}
use Rattle.sqlite.specs.Store.{Ghosts}
use Rattle.sqlite.specs.Held.{Held, state}
use Rattle.sqlite.specs.State.{HasCleanDisk}
use Rattle.table_rows.specs.Leaving.{MayRead}
use Rattle.table_rows.specs.Standing.{HasCommitted, CommitsNothing}
use Rattle.http_wire.specs.Wire.{Wire}
use Rattle.filing_model.specs.declared.served.Ended.{Ended}
use Rattle.filing_model.specs.declared.served.Mark.{Mark}
use Rattle.filing_model.specs.Request.{Request, firsts}
use Rattle.filing_model.specs.Register.{register}
use Rattle.filing_model.specs.Serving.{keeping}
use Rattle.register_tables.specs.declared.opening.Counts.{Counts}
use Rattle.register_tables.specs.Opening.{IsReadAsRegister}
use Rattle.register_tables.specs.Registers.{ForRows, IsRegisterOf}
use Rattle.register_store.specs.Moments.{HasMoments}
use Rattle.register_store.specs.Store.{HasRequests, StoreParts, shows}
use Rattle.register_extracts.specs.Dated.{ForDated, ForDatedRows}
use Rattle.register_extracts.specs.declared.fault.Why.{Why}
use Rattle.register_extracts.specs.declared.fault.Why.TheVariants.{Output}
use Rattle.gateway_server.specs.Progress.{IsEndedBy, ServesConnection}
use Rattle.gateway_server.specs.Written.{WritesTexts}
use Rattle.intake_process.specs.declared.tasks.errand.Errand.TheVariants.{Ask}
use Rattle.intake_process.specs.declared.tasks.errand.Published.{Published}
use Rattle.intake_process.specs.declared.tasks.errand.Question.{Question}
use Rattle.intake_process.specs.Checking.{IsUnchecked, checking, is_held, is_published}
use Rattle.intake_process.specs.Errands.{IsTrueOf, Tells, meaning}
use Rattle.intake_process.specs.Fault.{is_refusal}

-- unless the output failed, nothing was printed
abbrev pub PrintsNothing : Option (List ℕ) → Option (List ℕ) → Why → Type 0
PrintsNothing out out' why = (why ≡ Output) ⊎ (out' ≡ out)

-- ---- a question that an open register answers

-- The register stays, and nothing is written to it.
pub record KeepsRegister {S : Type 0} (g : Ghosts S) (old : StoreParts S) (new : Held S) : Type 0 where
  pub kept : HasCleanDisk (state g new) → (requests : List Request) → HasRequests g old requests
      → HasCommitted (IsRegisterOf old.old_style requests) (state g new)
  pub survives : CommitsNothing (shows g old) (state g new)

-- What answering a question from an open register does, whose connection is left as `new`.
pub record AnswersQuestion {S X : Type 0} (g : Ghosts S) (question : Question) (out out' : Option (List ℕ))
    (old : StoreParts S) (new : Held S) (result : Result X Why) : Type 0 where
  pub told : HasCleanDisk (state g new) → (requests : List Request) → HasRequests g old requests
      → (moments : List (Option ℕ)) → HasMoments g old moments
      → Tells (Ask question) requests moments out out' result
  pub may : IfErr result (λ why. (is_refusal why ≡ false) × (meaning (Ask question)).may why)
  pub quiet : IfErr result (PrintsNothing out out')
  pub keeps : KeepsRegister g old new

-- ---- check

-- What holding the first requests of a register, which keeps so many, against a digest finds. Nothing is written to the
-- database.
pub record HoldsAgainst {S X : Type 0} (g : Ghosts S) (many : ℕ) (p : Published) (old new : Held S)
    (result : Result X Why) : Type 0 where
  pub held : ForDated g old new (λ requests moments. firsts requests ≡ requests → many ≡ length requests
      → OnOk result (is_published p requests moments ≡ true))
  pub missed : ForDated g old new (λ requests moments. firsts requests ≡ requests → many ≡ length requests
      → IfErr result (IsTrueOf (checking (Some p)) requests moments))
  pub asked : IfErr result (λ why. (is_refusal why ≡ false) × IsUnchecked (Some p) why)
  pub leaves : MayRead g old new result

-- A register was read whole, which has the requests of the digest, if one is given. Nothing was written to the
-- database.
pub record IsChecked {S : Type 0} (g : Ghosts S) (against : Option Published) (old new : Held S) (counts : Counts)
    : Type 0 where
  pub counted : HasCleanDisk (state g new) → ForRows g old (λ _ requests.
      (counts.kept ≡ length requests) × (counts.filings ≡ length (register requests)))
  pub held : HasCleanDisk (state g new)
      → ForDatedRows g old (λ requests moments. is_held against requests moments ≡ true)
  pub found : HasCleanDisk (state g new) → IsReadAsRegister g old
  pub kept : HasCleanDisk (state g new)
      → ForRows g old (λ old_style requests. HasCommitted (IsRegisterOf old_style requests) (state g new))
  pub survives : CommitsNothing (state g old) (state g new)

-- ---- run

-- What `run` does: one connection is served on a register that begins empty.
pub record ServesAlone (limit : ℕ) (from to : Wire) (ended : Ended) : Type 0 where
  pub marks : List Mark
  pub requests : List Request
  pub serves : ServesConnection (keeping limit [] [] requests) from to marks ended
  -- why it ended, and what went out
  pub fault : IsEndedBy from to ended
  pub texts : WritesTexts from.written to.written (Some ended)
