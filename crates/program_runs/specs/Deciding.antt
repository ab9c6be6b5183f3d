-- A connection on which a request is being decided; own rules.
use Rattle.std.specs.Prelude.{◌≡◌, ◌⊎◌, ℕ, ◌+◌, ◌<◌, true, List, [], ◌∷◌, ◌++◌, length}
use Rattle.sqlite_disk.specs.declared.Disk.{Ghosts}
use Rattle.sqlite_disk.specs.declared.Files.{Files}
use Rattle.http_messages.specs.Message.{Arrival, Read, Ending}
use Rattle.http_messages.specs.Request.{Request as Message}
use Rattle.filing_model.specs.declared.served.Mark.{Mark}
use Rattle.filing_model.specs.declared.served.Mark.TheVariants.{Done}
use Rattle.filing_model.specs.Request.{Request, has_key}
use Rattle.filing_model.specs.Serving.{Keeping, AreMarked, BeginsArrivals, kept_by}
use Rattle.filing_model.specs.Stopping.{Crash, Before, After, IsStopped}
use Rattle.filing_model.specs.Text.{FileReport, route, completed, text_with}
use Rattle.intake_core.specs.Held.{with_request}
use Rattle.intake_process.specs.Process.{HoldRegisterWithLog}

-- The arrivals before the last were decided and answered, and the last asks to file this request, of which nothing was
-- marked. Its interim response was written, if it asks for one.
pub record IsDeciding (requests : Keeping) (bytes : List ℕ) (marks : List Mark) (out : List ℕ) (r
    : Request) : Type 0 where
  pub arrivals : List Arrival
  pub message : Message
  pub asks : route message ≡ FileReport r
  pub begins : BeginsArrivals bytes (arrivals ++ Read message ∷ []) Ending.Closed
  pub marked : AreMarked requests.limit requests.before arrivals marks
  pub written : out ≡ text_with requests.old_style requests.before (arrivals ++ Read message ∷ []) Ending.Closed marks
  pub kept : requests.after ≡ kept_by requests.before (completed arrivals marks)

-- the request is a repeat, or one more key may be kept
abbrev pub HasRoom : ℕ → List Request → Request → Type 0
HasRoom limit requests r = (has_key requests r ≡ true) ⊎ (length requests < limit)

module _ {D : Type 0} (g : Ghosts D) (files : Files D) (old_style : ℕ) where
  -- What was read and written on a connection is that of the model with this stop, and the files hold what is kept
  -- then.
  pub record StopsIn (requests : Keeping) (bytes : List ℕ) (crash : Crash) (marks : List Mark) (out : List ℕ)
      : Type 0 where
    pub stopped : IsStopped requests bytes crash marks out
    pub held : HoldRegisterWithLog g files old_style requests.after

  -- The connection is stopped before the next request is decided; or after that, and then the request is kept and
  -- nothing of its reply was written.
  abbrev pub StopsAtRequest : Keeping → List ℕ → List Mark → List ℕ → Request → Type 0
  StopsAtRequest requests bytes marks out r =
      StopsIn requests bytes (Before (length marks + 1)) marks out
      ⊎ StopsIn (record requests { after = with_request requests.after r }) bytes (After (length marks + 1))
      (marks ++ Done ∷ []) out
