-- What the calls of an intake do.
use Rattle.std.specs.Prelude.{◌≡◌, ◌≢◌, ◌<◌, ◌≤◌, ◌↔◌, ◌⊎◌, ℕ, Bool, List, length, true, false, Result, Err, IsTrue}
use Rattle.std.specs.Prelude.{IfOk, OnOk, OnErr}
use Rattle.key_string.specs.Filer.{is_filer}
use Rattle.http_messages.specs.Head.{max_body_len}
use Rattle.http_messages.specs.Posting.{IsTarget}
use Rattle.sqlite.specs.Store.{Ghosts}
use Rattle.filing_model.specs.declared.answer.Answer.{Answer}
use Rattle.filing_model.specs.Request.{Request, has_key}
use Rattle.filing_model.specs.Register.{is_free, register}
use Rattle.table_rows.specs.Standing.{CommitsNothing}
use Rattle.register_tables.specs.Registers.{LeavesRegister}
use Rattle.intake_core.specs.declared.intake.Intake.{Intake}
use Rattle.intake_core.specs.declared.intake.Unavailable.{Unavailable}
use Rattle.intake_core.specs.declared.intake.Unavailable.TheVariants.{Down, Full, Store}
use Rattle.intake_core.specs.Answered.{IsAnswerTo}
use Rattle.intake_core.specs.Held.{store_of, shows, limit_of, old_style_of, old_style_in, has_stopped, HoldsRequests}
use Rattle.intake_core.specs.Held.{KeepsSetting, ForRequests, IsDurableAs, SurvivesAs, with_request}
use Rattle.intake_core.specs.Moments.{KeepsMoments}

-- What `submit` does with a request, by the requests that the intake held before.
pub record DecidesRequest {S : Type 0} (g : Ghosts S) (r : Request) (old new : Intake S)
    (result : Result Answer Unavailable) : Type 0 where
  pub answer : ForRequests g old new (λ requests. IfOk result (λ a. IsAnswerTo (old_style_in old requests) requests r a
      × HoldsRequests g new (with_request requests r)))
  -- If there is no answer, nothing changes. The limit and the old-style requests never change.
  pub err : ForRequests g old new (λ requests. OnErr result (HoldsRequests g new requests))
  pub setting : KeepsSetting g old new
  -- `Full` is answered for a new key alone, and always if the limit is reached.
  pub full : ForRequests g old new (λ requests. (k : ℕ) → result ≡ Err (Full k)
      → (has_key requests r ≡ false) × (limit_of old ≤ k) × (k ≡ length requests))
  pub room : ForRequests g old new (λ requests. OnOk result (has_key requests r ≡ false
      → length requests < limit_of old))
  -- A crash leaves what one before the call could leave, or the requests with this one, and after an answer these
  -- alone.
  pub crash : SurvivesAs g old new (λ requests trees. LeavesRegister (old_style_of old) (with_request requests r) trees)
  -- Only a repeat may be answered without the register, which then has to be open already.
  pub durable : ForRequests g old new (λ requests. IsTrue (shows g old).is_open ⊎ (has_key requests r ≡ false)
      → OnOk result (IsDurableAs g new (old_style_of old) (with_request requests r)))
  -- After a refusal of the database the answer is always `Down`.
  pub down : has_stopped old ≡ true → (result ≡ Err Down) × (new ≡ old)
  pub stops : (has_stopped new ≡ true) ↔ ((has_stopped old ≡ true) ⊎ (result ≡ Err Store))
  pub up : result ≡ Err Down → has_stopped old ≡ true

-- A request that may be decided: its filer is a filer code, its target, if any, a number that a filing may have, and
-- its body has at most 1,048,576 bytes. What a key has to be, its type says.
pub record IsRequest (r : Request) : Type 0 where
  pub filer : is_filer r.filer ≡ true
  pub target : IsTarget r.target
  pub body : length r.body ≤ max_body_len

-- How `decide`, `keep` and `keep_judged` answer a request, if this holds of the requests that the intake held before.
-- What is said of a crash needs one thing more, as that the register was open.
pub record AnswersIf {S : Type 0} (g : Ghosts S) (r : Request) (Open : Type 0) (Holds : List Request → Type 0)
    (old new : Intake S) (result : Result Answer Unavailable) : Type 0 where
  pub answer : ForRequests g old new (λ requests. Holds requests
      → IfOk result (λ a. IsAnswerTo (old_style_in old requests) requests r a
      × HoldsRequests g new (with_request requests r)))
  -- If there is no answer, nothing changes. The limit and the old-style requests never change.
  pub err : ForRequests g old new (λ requests. OnErr result (HoldsRequests g new requests))
  pub setting : KeepsSetting g old new
  pub stopped : has_stopped new ≡ has_stopped old
  pub running : result ≢ Err Down
  -- A crash leaves what one before the call could leave, or the requests with this one.
  pub crash : SurvivesAs g old new (λ requests trees. Open → Holds requests
      → LeavesRegister (old_style_of old) (with_request requests r) trees)

-- What `is_free` reports of a request, and that it writes nothing.
pub record TellsIfFree {S : Type 0} (g : Ghosts S) (r : Request) (old new : Intake S) (result : Result Bool Unavailable)
    : Type 0 where
  pub answer : ForRequests g old new (λ requests.
      IfOk result (λ free. free ≡ is_free (register requests) r.filer r.target))
  pub same : ForRequests g old new (HoldsRequests g new)
  pub setting : KeepsSetting g old new
  pub stopped : has_stopped new ≡ has_stopped old
  pub count : (store_of new).kept ≡ (store_of old).kept
  pub running : result ≢ Err Down
  pub room : (k : ℕ) → result ≢ Err (Full k)
  pub crash : CommitsNothing (shows g old) (shows g new)
  -- The database is asked only if the request names a filing.
  pub is_open : ForRequests g old new (λ requests.
      IsTrue (shows g old).is_open → OnOk result (IsTrue (shows g new).is_open))

-- What `list`, `filing` and `register` report of the requests that the intake holds, and that they write nothing. They
-- never answer `Full`.
pub record TellsOfRequests {S X : Type 0} (g : Ghosts S) (old new : Intake S) (result : Result X Unavailable)
    (Tells : List Request → X → Type 0) : Type 0 where
  pub rows : ForRequests g old new (λ requests. IfOk result (Tells requests))
  -- What is held stays, whatever the answer is.
  pub kept : ForRequests g old new (HoldsRequests g new)
  pub moments : KeepsMoments g old new
  pub setting : KeepsSetting g old new
  -- A crash leaves what it could leave before.
  pub crash : CommitsNothing (shows g old) (shows g new)
  pub durable : ForRequests g old new (λ requests. OnOk result (IsDurableAs g new (old_style_of old) requests))
  -- After a refusal of the database the answer is always `Down`.
  pub down : has_stopped old ≡ true → (result ≡ Err Down) × (new ≡ old)
  pub stops : (has_stopped new ≡ true) ↔ ((has_stopped old ≡ true) ⊎ (result ≡ Err Store))
  pub up : result ≡ Err Down → has_stopped old ≡ true
  pub room : (k : ℕ) → result ≢ Err (Full k)
