-- The moments at which the requests came that an intake holds, in milliseconds since 1970-01-01T00:00:00Z.
use Rattle.std.specs.Prelude.{◌≡◌, ◌∷◌, ◌++◌, [], ℕ, drop, false, length, map, List, Option, Some, if◌then◌else◌}
use Rattle.std.specs.Prelude.{Result, Ok, Err}
use Rattle.std.specs.Prelude.{◌⊎◌, IsTrue, OnOk, OnErr}
use Rattle.sqlite.specs.Store.{Ghosts}
use Rattle.sqlite.specs.State.{Survives}
use Rattle.sqlite.specs.Tree.{Trees}
use Rattle.filing_model.specs.declared.answer.Answer.{Answer}
use Rattle.filing_model.specs.Request.{Request, firsts, has_key}
use Rattle.register_tables.specs.Registers.{LeavesOnlyReceived, LeavesReceived}
use Rattle.register_store.specs.Moments as register
use Rattle.intake_core.specs.declared.intake.Intake.{Intake}
use Rattle.intake_core.specs.declared.intake.Unavailable.{Unavailable}
use Rattle.intake_core.specs.Held.{shows, old_style_of, HoldsRequests, ForRequests, with_request}
use Rattle.intake_core.specs.Group.{Decided, Given, after, after_one}

-- the moment that was set last, at which what is submitted came
abbrev pub moment_of : {S : Type 0} → Intake S → ℕ
moment_of i = i.moment.milliseconds

-- its register has these moments, a place for each request that it holds
abbrev pub HoldsMoments : {S : Type 0} → Ghosts S → Intake S → List (Option ℕ) → Type 0
HoldsMoments g intake moments = register.HasMoments g intake.store moments

-- Whatever requests it held before, and whatever their moments were: if the disk is clean at the end, this holds of
-- them.
abbrev pub ForMoments : {S : Type 0} → Ghosts S → Intake S → Intake S
    → (List Request → List (Option ℕ) → Type 0) → Type 0
ForMoments g old new Holds =
    ForRequests g old new (λ requests. (moments : List (Option ℕ)) → HoldsMoments g old moments
    → Holds requests moments)

-- A crash inside the call leaves what one before it could leave, or these trees, by the requests that were held and
-- their moments.
abbrev pub SurvivesWith : {S : Type 0} → Ghosts S → Intake S → Intake S
    → (List Request → List (Option ℕ) → Trees → Type 0) → Type 0
SurvivesWith g old new Leaves =
    Survives (shows g old) (shows g new) (λ trees. (requests : List Request) (moments : List (Option ℕ))
    → HoldsRequests g old requests → HoldsMoments g old moments → Leaves requests moments trees)

-- its register is open, and a crash now leaves the rows of these requests, with these moments, and no others
abbrev pub IsDurableWith : {S : Type 0} → Ghosts S → Intake S → ℕ → List Request → List (Option ℕ) → Type 0
IsDurableWith g intake old_style requests moments = register.IsDurableWith g intake.store old_style requests moments

-- these moments with that of a request, if it is the first of its filer and key: a repeat adds none
abbrev pub with_moment : List Request → Request → ℕ → List (Option ℕ) → List (Option ℕ)
with_moment requests r moment moments = if has_key requests r then moments else moments ++ Some moment ∷ []

-- What is decided with the moment of a request, beside what `DecidesRequest` says.
pub record DatesRequest {S : Type 0} (g : Ghosts S) (r : Request) (moment : ℕ) (old new : Intake S)
    (result : Result Answer Unavailable) : Type 0 where
  -- A request that is kept has its moment, for good, and a repeat changes none.
  pub dated : ForMoments g old new (λ requests moments.
      OnOk result (HoldsMoments g new (with_moment requests r moment moments)))
  pub same : ForMoments g old new (λ _ moments. OnErr result (HoldsMoments g new moments))
  -- A crash leaves what one before the call could leave, or the requests with this one and its moment, and after an
  -- answer these alone.
  pub crash : SurvivesWith g old new (λ requests moments trees.
      LeavesReceived (old_style_of old) (with_request requests r) (with_moment requests r moment moments) trees)
  pub durable : ForMoments g old new (λ requests moments. IsTrue (shows g old).is_open ⊎ (has_key requests r ≡ false)
      → OnOk result (IsDurableWith g new (old_style_of old) (with_request requests r)
      (with_moment requests r moment moments)))
  -- The moment for the next request stays.
  pub next : moment_of new ≡ moment_of old

-- How `decide`, `keep` and `keep_judged` date a request, if this holds of the requests that the intake held before.
pub record DatesIf {S : Type 0} (g : Ghosts S) (r : Request) (moment : ℕ) (Open : Type 0)
    (Holds : List Request → Type 0) (old new : Intake S) (result : Result Answer Unavailable) : Type 0 where
  pub dated : ForMoments g old new (λ requests moments. Holds requests
      → OnOk result (HoldsMoments g new (with_moment requests r moment moments)))
  pub same : ForMoments g old new (λ _ moments. OnErr result (HoldsMoments g new moments))
  pub crash : SurvivesWith g old new (λ requests moments trees. Open → Holds requests
      → LeavesReceived (old_style_of old) (with_request requests r) (with_moment requests r moment moments) trees)
  pub next : moment_of new ≡ moment_of old

-- What a call that only reads leaves of the moments.
pub record KeepsMoments {S : Type 0} (g : Ghosts S) (old new : Intake S) : Type 0 where
  pub same : ForMoments g old new (λ _. HoldsMoments g new)
  pub next : moment_of new ≡ moment_of old

-- ---- several requests

-- the moments after a request that came at this one: one that got no answer adds none
abbrev pub moments_after_one : List Request → Request → ℕ → Given → List (Option ℕ) → List (Option ℕ)
moments_after_one F r moment (Ok a) moments = with_moment F r moment moments
moments_after_one F r moment (Err e) moments = moments

-- and after several, each of which came at its own
abbrev pub moments_after : List Request → List Decided → List ℕ → List (Option ℕ) → List (Option ℕ)
moments_after F [] ms moments = moments
moments_after F (d ∷ ds) [] moments = moments
moments_after F (d ∷ ds) (m ∷ ms) moments =
    moments_after (after_one F d.0 d.1) ds ms (moments_after_one F d.0 m d.1 moments)

-- these moments with those of several requests, of each that is the first of its filer and key
abbrev pub with_moments : List Request → List Request → List ℕ → List (Option ℕ) → List (Option ℕ)
with_moments F [] ms moments = moments
with_moments F (r ∷ rs) [] moments = moments
with_moments F (r ∷ rs) (m ∷ ms) moments = with_moments (with_request F r) rs ms (with_moment F r m moments)

-- The trees are such as `LeavesSome` says, and each request that they have more has its moment.
pub record LeavesSomeWith (old_style : ℕ) (F : List Request) (moments : List (Option ℕ)) (ds : List Decided)
    (ms : List ℕ) (trees : Trees) : Type 0 where
  pub before : List Decided
  pub next : Decided
  pub more : List Decided
  pub rest : List Decided
  pub are : ds ≡ before ++ next ∷ more ++ rest
  pub leaves : LeavesReceived old_style (firsts (after F before ++ next.0 ∷ map (λ d. d.0) more))
      (with_moments (after F before) (next.0 ∷ map (λ d. d.0) more) (drop (length before) ms)
      (moments_after F before ms moments)) trees

-- Each of several that is kept has its own, and the moment for the next request stays, if this holds of the requests
-- that the intake held before. What is said of a crash needs one thing more.
pub record DatesAllIf {S : Type 0} (g : Ghosts S) (Open : Type 0) (Holds : List Request → Type 0) (ds : List Decided)
    (ms : List ℕ) (old new : Intake S) : Type 0 where
  pub dated : ForMoments g old new (λ F moments. Holds F → HoldsMoments g new (moments_after F ds ms moments))
  -- A crash in the call leaves what one before it could leave, or some of them, each with its own.
  pub crash : SurvivesWith g old new (λ F moments trees. Open → Holds F
      → LeavesSomeWith (old_style_of old) F moments ds ms trees)
  pub next : moment_of new ≡ moment_of old

abbrev pub DatesAll : {S : Type 0} → Ghosts S → List Decided → List ℕ → Intake S → Intake S → Type 0
DatesAll g ds ms old new = DatesAllIf g (Unit {0}) (λ F. Unit {0}) ds ms old new

-- What `submit_all` does with the moments at which the requests came, beside what `DecidesEachIf` says.
pub record DatesEachIf {S : Type 0} (g : Ghosts S) (Open : Type 0) (Holds : List Request → Type 0) (ds : List Decided)
    (ms : List ℕ) (old new : Intake S) : Type 0 where
  pub all : DatesAllIf g Open Holds ds ms old new
  -- While the database is open, a crash after the call leaves all that is held, with its moments.
  pub durable : ForMoments g old new (λ F moments. Holds F → IsTrue (shows g new).is_open
      → LeavesOnlyReceived (shows g new) (old_style_of old) (after F ds) (moments_after F ds ms moments))
