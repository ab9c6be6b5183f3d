-- Turns, one after another.
use Rattle.std.proofs.Common.{◌≡◌, ◌≢◌, ◌∙◌, ◌++◌, ◌∷◌, [], ℕ, List, Option, Some, None, refl, sym, ap, subst}
use Rattle.std.proofs.Common.{append_assoc}
use Rattle.std.proofs.Common.{take}
use Rattle.std.specs.Prelude.{IfSome, slice_index_or}
use Rattle.std.specs.List.{AllByRecursion}
use Rattle.std.specs.Option.{option_to_list}
use Rattle.sqlite.specs.Store.{Ghosts as Disk}
use Rattle.connection_hall.specs.declared.hall.Hall.{Hall}
use Rattle.connection_hall.specs.declared.stream.Stream.{Ghosts}
use Rattle.connection_hall.specs.Answers.{Answer}
use Rattle.connection_hall.specs.Places.{arrival_in, number_in}
use Rattle.filing_model.specs.Request.{Request, firsts}
use Rattle.filing_model.specs.Serving.{kept_by}
use Rattle.filing_model.specs.Steps.{Step, StepsFit, all_completed}
use Rattle.filing_model.specs.Text.{completed_at}
use Rattle.filing_model.proofs.Appending.{firsts-kept_by, kept_by-append}
use Rattle.filing_model.proofs.Lists.{append_nil}
use Rattle.intake_core.specs.declared.intake.Intake.{Intake}
use Rattle.intake_core.specs.Held.{KeepsSetting, limit_of, old_style_in}
use Rattle.gateway_rounds.specs.Ports.{Port, Runs}
use Rattle.gateway_rounds.specs.Turns.{Turn, steps_of, answers_of, completed_by, AreTold, AreElsewhere}
use Rattle.gateway_rounds.specs.Turns.{DecidesTurns, IsFree, LooksUpTurns, Spells, TakesTurns, TellsTurns, WaitedIn}
use Rattle.gateway_rounds.proofs.Alike.{are_told_alike, steps_fit_alike}
use Rattle.gateway_rounds.proofs.Lists.{all_append, all_parts}

-- ---- lists

steps-append : (turns more : List Turn) → steps_of (turns ++ more) ≡ steps_of turns ++ steps_of more
steps-append [] more = refl
steps-append (turn ∷ turns) more =
    ap (λ (steps : List Step). option_to_list turn.step ++ steps) (steps-append turns more)
    ∙ sym (append_assoc (option_to_list turn.step) (steps_of turns) (steps_of more))

answers-append : (turns more : List Turn) → answers_of (turns ++ more) ≡ answers_of turns ++ answers_of more
answers-append [] more = refl
answers-append (turn ∷ turns) more =
    ap (λ (answers : List Answer). option_to_list turn.answer ++ answers) (answers-append turns more)
    ∙ sym (append_assoc (option_to_list turn.answer) (answers_of turns) (answers_of more))

completed-first : (step : Option Step) (steps : List Step)
    → all_completed (option_to_list step ++ steps) ≡ completed_by step ++ all_completed steps
completed-first None steps = refl
completed-first (Some step) steps = refl

completed-append : (steps more : List Step) → all_completed (steps ++ more) ≡ all_completed steps ++ all_completed more
completed-append [] more = refl
completed-append (step ∷ steps) more =
    ap (λ (rs : List Request). completed_at step.arrival step.mark ++ rs) (completed-append steps more)
    ∙ sym (append_assoc (completed_at step.arrival step.mark) (all_completed steps) (all_completed more))

-- ---- what is decided

fits-append : (limit : ℕ) (before : List Request) (steps more : List Step) → StepsFit limit before steps
    → StepsFit limit (before ++ all_completed steps) more → StepsFit limit before (steps ++ more)
fits-append limit before [] more fit next =
    subst (λ (rs : List Request). StepsFit limit rs more) (append_nil before) next
fits-append limit before (step ∷ steps) more fit next =
    let done = completed_at step.arrival step.mark in (
      fit.0,
      fits-append limit (before ++ done) steps more fit.1
          (subst (λ (rs : List Request). StepsFit limit rs more)
          (sym (append_assoc before done (all_completed steps))) next),
    )

told-append : (old_style before : List Request) (turns more : List Turn) → AreTold old_style before turns
    → AreTold old_style (before ++ all_completed (steps_of turns)) more → AreTold old_style before (turns ++ more)
told-append old_style before [] more told next =
    subst (λ (rs : List Request). AreTold old_style rs more) (append_nil before) next
told-append old_style before (turn ∷ turns) more told next = (
  told.0,
  told-append old_style (before ++ completed_by turn.step) turns more told.1
      (subst (λ (rs : List Request). AreTold old_style rs more)
      (ap (λ (rs : List Request). before ++ rs) (completed-first turn.step (steps_of turns))
      ∙ sym (append_assoc before (completed_by turn.step) (all_completed (steps_of turns)))) next),
)

pub nothing_decided : (limit : ℕ) (old_style before : List Request) → DecidesTurns limit old_style before before []
nothing_decided limit old_style before = record { fit = tt; kept = refl; told = tt }

pub decides-append : (limit : ℕ) (old_style before mid after : List Request) (turns more : List Turn)
    → DecidesTurns limit old_style before mid turns → DecidesTurns limit old_style mid after more
    → DecidesTurns limit old_style before after (turns ++ more)
decides-append limit old_style before mid after turns more first next =
    let done = all_completed (steps_of turns) in
    let same : firsts mid ≡ firsts (before ++ done) = ap firsts first.kept ∙ firsts-kept_by before done in
    record {
      fit = subst (StepsFit limit before) (sym (steps-append turns more))
          (fits-append limit before (steps_of turns) (steps_of more) first.fit
          (steps_fit_alike limit mid (before ++ done) same (steps_of more) next.fit));
      kept = next.kept
          ∙ ap (λ (rs : List Request). kept_by rs (all_completed (steps_of more))) first.kept
          ∙ kept_by-append before done (all_completed (steps_of more))
          ∙ ap (kept_by before) (sym (completed-append (steps_of turns) (steps_of more)))
          ∙ ap (λ (steps : List Step). kept_by before (all_completed steps)) (sym (steps-append turns more));
      told = told-append old_style before turns more first.told
          (are_told_alike old_style mid (before ++ done) same more next.told);
    }

-- ---- what is told

module _ {S : Type 0} (old mid : Hall S) where
  waited_here : (place : ℕ) (step : Option Step)
      → slice_index_or mid.places.items place None ≡ slice_index_or old.places.items place None
      → IfSome step (WaitedIn mid place) → IfSome step (WaitedIn old place)
  waited_here place None same waited = tt
  waited_here place (Some step) same waited = record {
    arrival = ap arrival_in (sym same) ∙ waited.arrival;
    on = ap number_in (sym same) ∙ waited.on;
  }

  waited_before : (turns more : List Turn) → AllByRecursion (λ turn. AreElsewhere turn.place turns) more
      → ((i : ℕ) → AreElsewhere i turns
      → slice_index_or mid.places.items i None ≡ slice_index_or old.places.items i None)
      → AllByRecursion (λ turn. IfSome turn.step (WaitedIn mid turn.place)) more
      → AllByRecursion (λ turn. IfSome turn.step (WaitedIn old turn.place)) more
  waited_before turns [] apart others waited = tt
  waited_before turns (turn ∷ more) apart others waited = (
    waited_here turn.place turn.step (others turn.place apart.0) waited.0,
    waited_before turns more apart.1 others waited.1,
  )

-- the first of some turns is elsewhere than the others
first_elsewhere : (turn : Turn) (turns more : List Turn)
    → AllByRecursion (λ later. AreElsewhere later.place (turn ∷ turns)) more → AreElsewhere turn.place more
first_elsewhere turn turns [] apart = tt
first_elsewhere turn turns (later ∷ more) apart =
    ((λ same. apart.0.0 (sym same)), first_elsewhere turn turns more apart.1)

rest_elsewhere : (turn : Turn) (turns more : List Turn)
    → AllByRecursion (λ later. AreElsewhere later.place (turn ∷ turns)) more
    → AllByRecursion (λ later. AreElsewhere later.place turns) more
rest_elsewhere turn turns [] apart = tt
rest_elsewhere turn turns (later ∷ more) apart = (apart.0.1, rest_elsewhere turn turns more apart.1)

module _ {S : Type 0} (mid new : Hall S) where
  free_still : (turns more : List Turn) → AllByRecursion (λ later. AreElsewhere later.place turns) more
      → ((i : ℕ) → AreElsewhere i more
      → slice_index_or new.places.items i None ≡ slice_index_or mid.places.items i None)
      → AllByRecursion (λ turn. turn.answer ≡ None → IsFree mid turn.place) turns
      → AllByRecursion (λ turn. turn.answer ≡ None → IsFree new turn.place) turns
  free_still [] more apart others lost = tt
  free_still (turn ∷ turns) more apart others lost = (
    λ none. others turn.place (first_elsewhere turn turns more apart) ∙ lost.0 none,
    free_still turns more (rest_elsewhere turn turns more apart) others lost.1,
  )

module _ {S N : Type 0} (s : Ghosts S N) where
  pub nothing_told : (port : Port S) → TellsTurns s [] port port
  nothing_told port = record {
    waited = tt;
    running = λ answers now. (subst (λ (all : List Answer). Runs s all port) (sym (append_nil answers)) now, tt);
    lost = tt;
    others = λ i away. refl;
    port = record { asked = refl; bounds = refl };
  }

  pub tells-append : (turns more : List Turn) (old mid new : Port S)
      → AllByRecursion (λ later. AreElsewhere later.place turns) more → TellsTurns s turns old mid
      → TellsTurns s more mid new → TellsTurns s (turns ++ more) old new
  tells-append turns more old mid new apart first next = record {
    waited = all_append (λ (turn : Turn). IfSome turn.step (WaitedIn old.hall turn.place)) turns more first.waited
        (waited_before old.hall mid.hall turns more apart first.others next.waited);
    running = λ answers now.
        let early = first.running answers now in
        let late = next.running (answers ++ answers_of turns) early.0 in (
          subst (λ (all : List Answer). Runs s all new)
              (append_assoc answers (answers_of turns) (answers_of more)
              ∙ ap (λ (all : List Answer). answers ++ all) (sym (answers-append turns more))) late.0,
          all_append (λ (turn : Turn). IfSome turn.step (λ (step : Step). Spells step.arrival)) turns more early.1
              late.1,
        );
    lost = all_append (λ (turn : Turn). turn.answer ≡ None → IsFree new.hall turn.place) turns more
        (free_still mid.hall new.hall turns more apart next.others first.lost) next.lost;
    others = λ i away.
        let parts = all_parts (λ (turn : Turn). turn.place ≢ i) turns more away in
        next.others i parts.1 ∙ first.others i parts.0;
    port = record {
      asked = next.port.asked ∙ first.port.asked;
      bounds = next.port.bounds ∙ first.port.bounds;
    };
  }

-- ---- what is decided and told

pub moved : (limit limit' : ℕ) (old_style old_style' before after : List Request) (turns : List Turn) → limit ≡ limit'
    → old_style ≡ old_style' → DecidesTurns limit old_style before after turns
    → DecidesTurns limit' old_style' before after turns
moved limit limit' old_style old_style' before after turns one other decides =
    subst (λ (n : ℕ). DecidesTurns n old_style' before after turns) one
    (subst (λ (rs : List Request). DecidesTurns limit rs before after turns) other decides)

module _ {D : Type 0} (g : Disk D) (intake mid intake' : Intake D) where
  pub setting-append : KeepsSetting g intake mid → KeepsSetting g mid intake' → KeepsSetting g intake intake'
  setting-append first next = record {
    clean = λ clean. first.clean (next.clean clean);
    limit = next.limit ∙ first.limit;
    old_style = next.old_style ∙ first.old_style;
  }

pub same_setting : {D : Type 0} (g : Disk D) (intake : Intake D) → KeepsSetting g intake intake
same_setting g intake = record { clean = λ clean. clean; limit = refl; old_style = refl }

module _ {S N D : Type 0} (s : Ghosts S N) (g : Disk D) where
  pub nothing_looked_up : (port : Port S) (intake : Intake D) → LooksUpTurns s g [] port port intake intake
  nothing_looked_up port intake = record {
    tells = nothing_told s port;
    decided = λ clean before holds. (holds, nothing_decided (limit_of intake) (old_style_in intake before) before);
    setting = same_setting g intake;
  }

  pub nothing_taken : (port : Port S) (intake : Intake D) → TakesTurns s g [] port port intake intake
  nothing_taken port intake = record {
    tells = nothing_told s port;
    decided = λ clean before holds.
        (before, holds, refl, nothing_decided (limit_of intake) (old_style_in intake before) before);
    setting = same_setting g intake;
  }

  pub looks-append : (turns more : List Turn) (old mid new : Port S) (intake intake_mid intake' : Intake D)
      → AllByRecursion (λ later. AreElsewhere later.place turns) more
      → LooksUpTurns s g turns old mid intake intake_mid → LooksUpTurns s g more mid new intake_mid intake'
      → LooksUpTurns s g (turns ++ more) old new intake intake'
  looks-append turns more old mid new intake intake_mid intake' apart first next = record {
    tells = tells-append s turns more old mid new apart first.tells next.tells;
    decided = λ clean before holds.
        let early = first.decided (next.setting.clean clean) before holds in
        let late = next.decided clean before early.0 in (
          late.0,
          decides-append (limit_of intake) (old_style_in intake before) before before before turns more early.1
              (moved (limit_of intake_mid) (limit_of intake) (old_style_in intake_mid before)
              (old_style_in intake before) before before more first.setting.limit
              (ap (λ (n : ℕ). take n before) first.setting.old_style) late.1),
        );
    setting = setting-append g intake intake_mid intake' first.setting next.setting;
  }

  pub takes-append : (turns more : List Turn) (old mid new : Port S) (intake intake_mid intake' : Intake D)
      → AllByRecursion (λ later. AreElsewhere later.place turns) more
      → TakesTurns s g turns old mid intake intake_mid → TakesTurns s g more mid new intake_mid intake'
      → TakesTurns s g (turns ++ more) old new intake intake'
  takes-append turns more old mid new intake intake_mid intake' apart first next = record {
    tells = tells-append s turns more old mid new apart first.tells next.tells;
    decided = λ clean before holds.
        let early = first.decided (next.setting.clean clean) before holds in
        let late = next.decided clean early.0 early.1 in (
          late.0,
          late.1,
          late.2 ∙ early.2,
          decides-append (limit_of intake) (old_style_in intake before) before early.0 late.0 turns more early.3
              (moved (limit_of intake_mid) (limit_of intake) (old_style_in intake_mid early.0)
              (old_style_in intake before) early.0 late.0 more first.setting.limit early.2 late.3),
        );
    setting = setting-append g intake intake_mid intake' first.setting next.setting;
  }
