-- What an intake does with new requests, which it keeps together.
use Rattle.std.specs.Prelude.{◌≡◌, ◌<◌, ◌≤◌, ◌+◌, ◌∷◌, ◌++◌, [], ℕ, List, length, map, take, true, false, Result}
use Rattle.std.specs.Prelude.{Err, None, Some, IsTrue, IfOk, OnOk, OnErr, Vec, vec_len, vec_capacity}
use Rattle.std.specs.List.{AllByRecursion, zip}
use Rattle.std.specs.Result.{IsOk}
use Rattle.std.specs.declared.alloc.Global.{Global}
use Rattle.sqlite.specs.Store.{Ghosts}
use Rattle.xbrl_report.specs.declared.judging.Judged.{Judged}
use Rattle.xbrl_report.specs.Judgement.{HasFacts, IsAmendmentJudgement}
use Rattle.filing_model.specs.declared.outcome.Outcome.{Outcome}
use Rattle.filing_model.specs.Views.{view_outcome}
use Rattle.table_rows.specs.Standing.{CommitsNothing}
use Rattle.table_rows.specs.declared.fault.StoreFault.{StoreFault}
use Rattle.register_rows.specs.declared.moment.Moment.{Moment}
use Rattle.register_store.specs.declared.outcome.NewRow.{NewRow}
use Rattle.register_store.specs.NewRows.{request_of}
use Rattle.register_store.specs.Outcomes.{outcomes_behind}
use Rattle.filing_model.specs.Request.{Request, firsts, has_key}
use Rattle.register_tables.specs.Registers.{LeavesReceived, LeavesRegister}
use Rattle.intake_core.specs.declared.intake.Intake.{Intake}
use Rattle.intake_core.specs.declared.intake.Unavailable.TheVariants.{Store as StoreFailed}
use Rattle.intake_core.specs.Held.{store_of, shows, limit_of, old_style_of, old_style_in, has_stopped, HoldsRequests}
use Rattle.intake_core.specs.Held.{ChangesOnlyCache, ForRequests, IsDurableAs, KeepsSetting, SurvivesAs}
use Rattle.intake_core.specs.declared.intake.group.Together.{Together}
use Rattle.intake_core.specs.declared.intake.group.Together.TheVariants.{Kept, Alone, Failed}
use Rattle.intake_core.specs.Group.{AreDecidedInTurn, DecidesEachIf, Given}
use Rattle.intake_core.specs.Moments.{DatesAllIf, ForMoments, HoldsMoments, KeepsMoments, SurvivesWith, moment_of}
use Rattle.intake_core.specs.Moments.{with_moments}

-- The results gain one for each of these requests, which came at these moments, in the room that was there. What is
-- said of rows holds if this holds of those that the intake held before.
pub record AddsResultsIf {S : Type 0} (g : Ghosts S) (Open : Type 0) (Holds : List Request → Type 0)
    (requests : List Request) (ms : List ℕ) (old new : Intake S) (results results' : Vec Given Global) : Type 0 where
  pub given : List Given
  pub are : results'.items ≡ results.items ++ given
  pub each : length given ≡ length requests
  pub len : vec_len results' ≡ vec_len results + length given
  pub decides : DecidesEachIf g Open Holds (zip requests given) old new
  pub dates : DatesAllIf g Open Holds (zip requests given) ms old new
  pub room : vec_capacity results' ≡ vec_capacity results

abbrev pub AddsResults : {S : Type 0} → Ghosts S → List Request → List ℕ → Intake S → Intake S → Vec Given Global
    → Vec Given Global → Type 0
AddsResults g requests ms old new results results' =
    AddsResultsIf g (Unit {0}) (λ F. Unit {0}) requests ms old new results results'

-- A look-up writes nothing, and what is held stays.
pub record LooksUp {S : Type 0} (g : Ghosts S) (old new : Intake S) : Type 0 where
  pub same : ForRequests g old new (HoldsRequests g new)
  pub moments : KeepsMoments g old new
  pub setting : KeepsSetting g old new
  pub stopped : has_stopped new ≡ has_stopped old
  pub count : (store_of new).kept ≡ (store_of old).kept
  pub crash : CommitsNothing (shows g old) (shows g new)

-- it replaces nothing, and its report was judged so
pub record IsJudgedAlone (r : Request) (judged : Judged) : Type 0 where
  pub alone : r.target ≡ None
  pub report : IsAmendmentJudgement r.filer r.body true judged
  pub facts : HasFacts r.body judged

-- the filer and key of each are new after these requests and those before it
abbrev pub AreNewBehind : List Request → List Request → Type 0
AreNewBehind F [] = Unit {0}
AreNewBehind F (r ∷ rs) = (has_key F r ≡ false) × AreNewBehind (F ++ r ∷ []) rs

-- the moments in milliseconds
abbrev pub in_milliseconds : List Moment → List ℕ
in_milliseconds moments = map (λ moment. moment.milliseconds) moments

-- the rows of these requests, which came at these moments and were judged so
pub record AreRowsOf (rs : List Request) (moments : List Moment) (judged : List Judged) (rows : List NewRow) : Type 0
  where
    pub requests : map request_of rows ≡ rs
    pub moments' : map (λ row. row.moment) rows ≡ moments
    pub judgements : map (λ row. row.judged.now) rows ≡ judged

-- What keeping new requests with one commit does: all are kept, in order, or none.
pub record AddsGroup {S : Type 0} (g : Ghosts S) (rs : List Request) (ms : List ℕ) (old new : Intake S)
    (result : Result (Vec Outcome Global) StoreFault) : Type 0 where
  pub added : ForRequests g old new (λ F. AreNewBehind F rs → IfOk result (λ outcomes.
      (map view_outcome outcomes.items ≡ outcomes_behind F rs) × HoldsRequests g new (F ++ rs)))
  pub same : ForRequests g old new (λ F. OnErr result (HoldsRequests g new F))
  pub dated : ForMoments g old new (λ _ moments. OnOk result (HoldsMoments g new (moments ++ map Some ms)))
  pub undated : ForMoments g old new (λ _ moments. OnErr result (HoldsMoments g new moments))
  pub received : SurvivesWith g old new (λ F moments trees. IsTrue (shows g old).is_open → AreNewBehind F rs
      → LeavesReceived (old_style_of old) (F ++ rs) (moments ++ map Some ms) trees)
  pub next : moment_of new ≡ moment_of old
  pub each : IfOk result (λ outcomes. length outcomes.items ≡ length rs)
  pub setting : KeepsSetting g old new
  pub stopped : has_stopped new ≡ has_stopped old
  -- A crash in the call leaves what one before it could leave, or all of them, and never some.
  pub crash : SurvivesAs g old new (λ F trees. IsTrue (shows g old).is_open → AreNewBehind F rs
      → LeavesRegister (old_style_of old) (F ++ rs) trees)
  pub durable : ForRequests g old new (λ F. AreNewBehind F rs
      → OnOk result (IsDurableAs g new (old_style_of old) (F ++ rs)))

-- What answering requests does that were kept with these outcomes, if each was new: each gets its answer, in turn.
pub record AnswersGroup {S : Type 0} (g : Ghosts S) (rs : List Request) (outcomes : List Outcome) (old new : Intake S)
    (results results' : Vec Given Global) : Type 0 where
  pub given : List Given
  pub are : results'.items ≡ results.items ++ given
  pub each : length given ≡ length rs
  pub len : vec_len results' ≡ vec_len results + length given
  pub all : AllByRecursion IsOk given
  pub answers : (F : List Request) → firsts F ≡ F → HoldsRequests g old (F ++ rs) → AreNewBehind F rs
      → map view_outcome outcomes ≡ outcomes_behind F rs → old_style_of old ≤ length F
      → length F + length rs ≤ limit_of old
      → AreDecidedInTurn (limit_of old) (old_style_in old F) F (zip rs given) × HoldsRequests g new (F ++ rs)
  pub rest : ChangesOnlyCache old new
  pub room : vec_capacity results' ≡ vec_capacity results

-- What refusing requests does: each gets `Store`, and the intake is down.
pub record RefusesGroup {S : Type 0} (rs : List Request) (old new : Intake S) (results results' : Vec Given Global)
    : Type 0 where
  pub are : results'.items ≡ results.items ++ map (λ _. Err StoreFailed) rs
  pub len : vec_len results' ≡ vec_len results + length rs
  pub room : vec_capacity results' ≡ vec_capacity results
  pub down : new ≡ record old { is_down = true }

-- how many they are
abbrev pub count_of : Together → ℕ
count_of (Kept outcomes) = length outcomes.items
count_of (Alone count) = count
count_of (Failed count) = count

-- this holds of the outcomes with which they were kept
abbrev pub IfKept : Together → (List Outcome → Type 0) → Type 0
IfKept (Kept outcomes) P = P outcomes.items
IfKept (Alone count) P = Unit {0}
IfKept (Failed count) P = Unit {0}

-- this holds if they were not kept
abbrev pub UnlessKept : Together → Type 0 → Type 0
UnlessKept (Kept outcomes) P = Unit {0}
UnlessKept (Alone count) P = P
UnlessKept (Failed count) P = P

-- What keeping the first of these requests together does, if this holds of those that the intake held before: all are
-- kept, in order, or none.
pub record KeepsFirst {S : Type 0} (g : Ghosts S) (Open : Type 0) (Holds : List Request → Type 0)
    (requests : List Request) (ms : List ℕ) (old new : Intake S) (result : Together) : Type 0 where
  pub some : (0 < count_of result) × (count_of result ≤ length requests)
  pub kept : ForRequests g old new (λ F. Holds F → IfKept result (λ outcomes.
      AreNewBehind F (take (count_of result) requests)
      × (map view_outcome outcomes ≡ outcomes_behind F (take (count_of result) requests))
      × HoldsRequests g new (F ++ take (count_of result) requests)
      × (length F + count_of result ≤ limit_of old)))
  pub none : ForRequests g old new (λ F. UnlessKept result (HoldsRequests g new F))
  pub dated : ForMoments g old new (λ _ moments.
      IfKept result (λ _. HoldsMoments g new (moments ++ map Some (take (count_of result) ms))))
  pub undated : ForMoments g old new (λ _ moments. UnlessKept result (HoldsMoments g new moments))
  pub received : SurvivesWith g old new (λ F moments trees. Open → Holds F
      → LeavesReceived (old_style_of old) (firsts (F ++ take (count_of result) requests))
      (with_moments F (take (count_of result) requests) (take (count_of result) ms) moments) trees)
  pub next : moment_of new ≡ moment_of old
  pub setting : KeepsSetting g old new
  pub stopped : has_stopped new ≡ has_stopped old
  -- A crash in the call leaves what one before it could leave, or all of them, and never some; one after it, all.
  pub crash : SurvivesAs g old new (λ F trees. Open → Holds F
      → LeavesRegister (old_style_of old) (firsts (F ++ take (count_of result) requests)) trees)
  pub durable : ForRequests g old new (λ F. Holds F → IfKept result (λ _.
      IsDurableAs g new (old_style_of old) (F ++ take (count_of result) requests)))
