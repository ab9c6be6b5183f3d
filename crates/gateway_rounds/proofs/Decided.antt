-- What was decided of what waits in a place, and told so.
use Rattle.std.proofs.Common.{◌≡◌, ◌∙◌, ◌∷◌, [], ℕ, Bool, true, false, List, Option, Some, None, refl, sym, ap}
use Rattle.std.proofs.Common.{IfOk, Result, Ok, Err, subst, true≢false}
use Rattle.std.specs.Prelude.{IsSome, IfSome}
use Rattle.std.specs.Option.{ForSome}
use Rattle.std.specs.declared.alloc.AllocError.{AllocError}
use Rattle.sqlite.specs.Store.{Ghosts as Disk}
use Rattle.http_messages.specs.declared.refusal.Refusal.{Refusal}
use Rattle.http_messages.specs.declared.reply.Reply.{Reply}
use Rattle.http_messages.specs.Head.{closes}
use Rattle.http_messages.specs.Message.{Arrival, Read, Refused}
use Rattle.http_messages.specs.Replies.{reply_parts}
use Rattle.http_messages.specs.Reply.{ReplyParts, render}
use Rattle.http_messages.specs.Request.{Request as Message}
use Rattle.connection_hall.specs.declared.hall.Hall.{Hall}
use Rattle.connection_hall.specs.declared.stream.Stream.{Ghosts}
use Rattle.connection_hall.specs.Answers.{Answer}
use Rattle.connection_hall.specs.Running.{KeepsOtherPlaces, arrival_at, number_at}
use Rattle.filing_model.specs.declared.answer.Answer.{Answer as Given}
use Rattle.filing_model.specs.declared.served.Mark.{Mark}
use Rattle.filing_model.specs.declared.served.Mark.TheVariants.{Done, Unavailable, NotFiled}
use Rattle.filing_model.specs.Request.{Request, has_key}
use Rattle.filing_model.specs.Serving.{kept_by}
use Rattle.filing_model.specs.Text.{FileReport, ListFilings, Reject, Route, bare, completed_at, requests_of_route}
use Rattle.filing_model.specs.Text.{refusal_reply, reply_text_with, route}
use Rattle.filing_model.proofs.Firsts.{firsts_repeat}
use Rattle.filing_model.proofs.Lists.{append_nil}
use Rattle.gateway_server.specs.Decided.{Decides as DecidesRoute, IsOfGiven, marked_reply}
use Rattle.gateway_server.specs.declared.decide.Decided.{Decided}
use Rattle.gateway_server.proofs.Grouped.{decides_one}
use Rattle.intake_core.specs.declared.intake.Intake.{Intake}
use Rattle.intake_core.specs.Answered.{IsAnswerTo as IsAnswered}
use Rattle.intake_core.specs.Together.{LooksUp as Looks}
use Rattle.intake_core.specs.Held.{ForRequests, HoldsRequests, IsTransition, KeepsSetting, limit_of, old_style_in}
use Rattle.gateway_rounds.specs.declared.new.New.{New}
use Rattle.gateway_rounds.specs.Groups.{HadItsTurn, LooksUp}
use Rattle.gateway_rounds.specs.Places.{Decides, IsAnswerBy, IsTextOf, TakesPlace, TellsPlace}
use Rattle.gateway_rounds.specs.Ports.{KeepsPort, Port, Runs}
use Rattle.gateway_rounds.specs.Turns.{DecidesTurns, IsAnswerTo, IsFree}
use Rattle.gateway_rounds.proofs.Told.{found, lost_turn, same_some, told_turn}
use Rattle.gateway_rounds.proofs.Turns.{same_setting}

-- ---- what was decided

reply_text-marked : (old_style before : List Request) (m : Message) (mark : Mark)
    → render (marked_reply old_style before (route m) mark) (closes m.head)
    ≡ reply_text_with old_style before (Read m) mark
reply_text-marked old_style before m Done = refl
reply_text-marked old_style before m Unavailable = refl
reply_text-marked old_style before m NotFiled = refl

-- the bytes of a reply of these parts
rendered : (r : Result Reply AllocError) (parts : ReplyParts) (close : Bool) (text : List ℕ) → render parts close ≡ text
    → IfOk r (λ reply. reply_parts reply ≡ parts) → IfOk r (λ reply. render (reply_parts reply) close ≡ text)
rendered (Ok reply) parts close text e same = ap (λ p. render p close) same ∙ e
rendered (Err fault) parts close text e same = tt

-- a request that asks for this, and was decided so
pub decides_read : (limit : ℕ) (old_style before after : List Request) (m : Message) (to' : Route) (d : Decided)
    (close : Bool) → route m ≡ to' → close ≡ closes m.head → DecidesRoute limit old_style before after to' d
    → Decides limit old_style before after (Read m) d close
decides_read limit old_style before after m to' d close asked closes' decides =
    let here = subst (λ (r : Route). DecidesRoute limit old_style before after r d) (sym asked) decides in
    record {
      fit = here.fit;
      kept = here.kept;
      reply = rendered d.reply (marked_reply old_style before (route m) d.mark) close
          (reply_text_with old_style before (Read m) d.mark)
          (ap (render (marked_reply old_style before (route m) d.mark)) closes'
          ∙ reply_text-marked old_style before m d.mark) here.reply;
    }

-- what was refused in the place of one
pub decides_refused : (limit : ℕ) (old_style before : List Request) (refusal : Refusal)
    (reply : Result Reply AllocError)
    → IfOk reply (λ r. reply_parts r ≡ refusal_reply refusal)
    → Decides limit old_style before before (Refused refusal) (record { mark = NotFiled; reply = reply }) true
decides_refused limit old_style before refusal reply is = record {
  fit = tt;
  kept = refl;
  reply = rendered reply (refusal_reply refusal) true (render (refusal_reply refusal) true) refl is;
}

-- ---- nothing is kept

route_keeps : (before : List Request) (to' : Route) (mark : Mark) → ((r : Request) → to' ≡ FileReport r → ⊥)
    → kept_by before (requests_of_route to' mark) ≡ before
route_keeps before (FileReport r) mark none = absurd (none r refl)
route_keeps before (ListFilings filer number) mark none = refl
route_keeps before (Reject reply) mark none = refl

-- what is no report keeps nothing
pub keeps_nothing : (limit : ℕ) (old_style before after : List Request) (m : Message) (d : Decided) (close : Bool)
    → ((r : Request) → route m ≡ FileReport r → ⊥) → Decides limit old_style before after (Read m) d close
    → (after ≡ before) × Decides limit old_style before before (Read m) d close
keeps_nothing limit old_style before after m d close none decides =
    let same : after ≡ before = decides.kept ∙ route_keeps before (route m) d.mark none in (
      same,
      record { fit = decides.fit; kept = sym same ∙ decides.kept; reply = decides.reply },
    )

-- ---- the turn

module _ {S : Type 0} (hall : Hall S) (place : ℕ) where
  answer_of : (limit : ℕ) (old_style before after : List Request) (d : Decided) (close : Bool) (arrival : Arrival)
      (answer : Option Answer) → arrival_at hall place ≡ Some arrival
      → Decides limit old_style before after arrival d close
      → IfSome answer (IsAnswerBy hall place (IsTextOf d close) false)
      → IfSome answer (IsAnswerTo old_style before (record {
        on = number_at hall place;
        arrival = arrival;
        mark = d.mark;
      }))
  answer_of limit old_style before after d close arrival None waits decides is = tt
  answer_of limit old_style before after d close arrival (Some answer) waits decides is = record {
    on = is.on;
    arrival = same_some (arrival_at hall place) answer.arrival arrival is.arrival waits;
    text = is.text (reply_text_with old_style before arrival d.mark) decides.reply;
    closes = is.closing;
  }

  -- one turn was decided so
  pub turn_decided : (limit : ℕ) (old_style before after : List Request) (d : Decided) (close : Bool)
      (arrival : Arrival) (answer : Option Answer) → arrival_at hall place ≡ Some arrival
      → Decides limit old_style before after arrival d close
      → IfSome answer (IsAnswerBy hall place (IsTextOf d close) false)
      → DecidesTurns limit old_style before after (record {
        place = place;
        step = Some (record { on = number_at hall place; arrival = arrival; mark = d.mark });
        answer = answer;
      } ∷ [])
  turn_decided limit old_style before after d close arrival answer waits decides is = record {
    fit = (decides.fit, tt);
    kept = decides.kept ∙ ap (kept_by before) (sym (append_nil (completed_at arrival d.mark)));
    told = (answer_of limit old_style before after d close arrival answer waits decides is, tt);
  }

pub nothing_was_decided : (limit : ℕ) (old_style before : List Request) (place : ℕ)
    → DecidesTurns limit old_style before before (record { place = place; step = None; answer = None } ∷ [])
nothing_was_decided limit old_style before place = record { fit = tt; kept = refl; told = (refl, tt) }

module _ {S N D : Type 0} (s : Ghosts S N) (g : Disk D) (place : ℕ) (old new : Port S) (intake intake' : Intake D)
  where
    -- it was decided, and told its answer
    pub place_taken : (d : Decided) (close : Bool) → IsSome (arrival_at old.hall place)
        → TellsPlace s place old new (IsTextOf d close) false
        → IsTransition g intake intake' (λ old_style before after. ForSome (arrival_at old.hall place) (λ arrival.
        Decides (limit_of intake) old_style before after arrival d close))
        → KeepsSetting g intake intake' → TakesPlace s g place old new intake intake'
    place_taken d close waits told decided setting =
        let waiting = found (arrival_at old.hall place) waits in
        record {
          turn = record {
            place = place;
            step = Some (record { on = number_at old.hall place; arrival = waiting.0; mark = d.mark });
            answer = told.answer;
          };
          there = refl;
          takes = record {
            tells = told_turn s place old new (IsTextOf d close) false told waiting.0 d.mark waiting.1;
            decided = λ clean before holds.
                let all = decided clean before holds in (
                  all.0,
                  all.1,
                  all.2,
                  turn_decided old.hall place (limit_of intake) (old_style_in intake before) before all.0 d close
                      waiting.0 told.answer waiting.1 (all.3 waiting.0 waiting.1) told.is,
                );
            setting = setting;
          };
        }

    -- there was no memory to decide it
    pub place_lost : ((answers : List Answer) → Runs s answers old → Runs s answers new) → IsFree new.hall place
        → KeepsOtherPlaces place old.hall new.hall → KeepsPort old new
        → IsTransition g intake intake' (λ old_style before after. after ≡ before)
        → KeepsSetting g intake intake' → TakesPlace s g place old new intake intake'
    place_lost running free others port same setting = record {
      turn = record { place = place; step = None; answer = None };
      there = refl;
      takes = record {
        tells = lost_turn s place old new running free others port;
        decided = λ clean before holds.
            let all = same clean before holds in (
              all.0,
              all.1,
              all.2,
              subst (λ (after : List Request). DecidesTurns (limit_of intake) (old_style_in intake before) before after
                  (record { place = place; step = None; answer = None } ∷ [])) (sym all.3)
                  (nothing_was_decided (limit_of intake) (old_style_in intake before) before place),
            );
        setting = setting;
      };
    }

    -- it was looked up, and told its answer
    pub place_looked_up : (group group' : List New) (d : Decided) (close : Bool) → IsSome (arrival_at old.hall place)
        → TellsPlace s place old new (IsTextOf d close) false
        → ForSome (arrival_at old.hall place) (λ arrival. LooksUp g (λ old_style before.
        Decides (limit_of intake) old_style before before arrival d close) intake intake')
        → group' ≡ group → HadItsTurn s g place old new group group' intake intake'
    place_looked_up group group' d close waits told looks same =
        let waiting = found (arrival_at old.hall place) waits in
        let here = looks waiting.0 waiting.1 in
        record {
          turn = record {
            place = place;
            step = Some (record { on = number_at old.hall place; arrival = waiting.0; mark = d.mark });
            answer = told.answer;
          };
          there = refl;
          takes = record {
            tells = told_turn s place old new (IsTextOf d close) false told waiting.0 d.mark waiting.1;
            decided = λ clean before holds.
                let all = here.same clean before holds in (
                  all.0,
                  turn_decided old.hall place (limit_of intake) (old_style_in intake before) before before d close
                      waiting.0 told.answer waiting.1 all.1 told.is,
                );
            setting = here.setting;
          };
          group_is = same;
        }

    -- there was no memory to know what it asks for
    pub place_unknown : (group group' : List New) → IsSome (arrival_at old.hall place)
        → ((answers : List Answer) → Runs s answers old → Runs s answers new) → IsFree new.hall place
        → KeepsOtherPlaces place old.hall new.hall → KeepsPort old new
        → ForSome (arrival_at old.hall place) (λ arrival. LooksUp g (λ old_style before. Unit {0}) intake intake')
        → group' ≡ group → HadItsTurn s g place old new group group' intake intake'
    place_unknown group group' waits running free others port looks same =
        let waiting = found (arrival_at old.hall place) waits in
        let here = looks waiting.0 waiting.1 in
        record {
          turn = record { place = place; step = None; answer = None };
          there = refl;
          takes = record {
            tells = lost_turn s place old new running free others port;
            decided = λ clean before holds. (
              (here.same clean before holds).0,
              nothing_was_decided (limit_of intake) (old_style_in intake before) before place,
            );
            setting = here.setting;
          };
          group_is = same;
        }

-- ---- what is looked up

pub no_rejection : (is_bare : Bool) (reply : ReplyParts) (r : Request) → bare is_bare (Reject reply) ≡ FileReport r → ⊥
no_rejection true reply r same = let h = same in cc
no_rejection false reply r same = let h = same in cc

pub no_list : (is_bare : Bool) (filer : List ℕ) (number : Option ℕ) (r : Request)
    → bare is_bare (ListFilings filer number) ≡ FileReport r → ⊥
no_list true filer number r same = let h = same in cc
no_list false filer number r same = let h = same in cc

pub report_is : (is_bare : Bool) (r : Request) → bare is_bare (FileReport r) ≡ FileReport r
report_is true r = refl
report_is false r = refl

module _ {D : Type 0} (g : Disk D) (m : Message) (d : Decided) (close : Bool) where
  -- it is one that is held, and gets its answer
  pub repeat_looks : (r : Request) (given : Given) → route m ≡ FileReport r → close ≡ closes m.head
      → IsOfGiven (Ok given) d → (intake intake' : Intake D) → Looks g intake intake'
      → ForRequests g intake intake' (λ before. IsAnswered (old_style_in intake before) before r given
      × (has_key before r ≡ true))
      → LooksUp g (λ old_style before. Decides (limit_of intake) old_style before before (Read m) d close) intake
      intake'
  repeat_looks r given asked closing is intake intake' looks tells = record {
    same = λ clean before holds.
        let told = tells clean before holds in
        let old_style = old_style_in intake before in
        let decides = decides_one (limit_of intake) old_style before r (Ok given) d (record {
          answer = told.0;
          full = λ k e. absurd (cc);
          room = λ new. absurd (true≢false (sym told.1 ∙ new));
        }) is in (
          looks.same clean before holds,
          decides_read (limit_of intake) old_style before before m (FileReport r) d close asked closing
              (subst (λ (after : List Request). DecidesRoute (limit_of intake) old_style before after (FileReport r) d)
              (firsts_repeat before r told.1 ∙ holds.firsts') decides),
        );
    setting = looks.setting;
  }

  -- it is no report
  pub plain_looks : ((r : Request) → route m ≡ FileReport r → ⊥) → (intake intake' : Intake D)
      → IsTransition g intake intake' (λ old_style before after.
      Decides (limit_of intake) old_style before after (Read m) d close) → KeepsSetting g intake intake'
      → LooksUp g (λ old_style before. Decides (limit_of intake) old_style before before (Read m) d close) intake
      intake'
  plain_looks none intake intake' decided setting = record {
    same = λ clean before holds.
        let all = decided clean before holds in
        let nothing = keeps_nothing (limit_of intake) (old_style_in intake before) before all.0 m d close none all.3 in
        (subst (HoldsRequests g intake') nothing.0 all.1, nothing.1);
    setting = setting;
  }

-- what is refused keeps nothing
pub refused_looks : {D : Type 0} (g : Disk D) (slot : Option Arrival) (refusal : Refusal) (d : Decided) (close : Bool)
    (intake : Intake D) → slot ≡ Some (Refused refusal)
    → ((limit : ℕ) (old_style before : List Request) → Decides limit old_style before before (Refused refusal) d close)
    → ForSome slot (λ arrival. LooksUp g (λ old_style before.
    Decides (limit_of intake) old_style before before arrival d close) intake intake)
refused_looks g slot refusal d close intake is decides = λ arrival waits. record {
  same = λ clean before holds. (
    holds,
    subst (λ (a : Arrival).
        Decides (limit_of intake) (old_style_in intake before) before before a d close)
        (same_some slot (Refused refusal) arrival is waits)
        (decides (limit_of intake) (old_style_in intake before) before),
  );
  setting = same_setting g intake;
}

pub refused_decided : (limit : ℕ) (old_style before : List Request) (slot : Option Arrival) (refusal : Refusal)
    (d : Decided) (close : Bool) → slot ≡ Some (Refused refusal)
    → Decides limit old_style before before (Refused refusal) d close
    → ForSome slot (λ arrival. Decides limit old_style before before arrival d close)
refused_decided limit old_style before slot refusal d close is decides = λ arrival waits.
    subst (λ (a : Arrival). Decides limit old_style before before a d close)
    (same_some slot (Refused refusal) arrival is waits) decides
