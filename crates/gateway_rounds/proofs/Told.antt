-- What waits in a place is told a text, or its connection is over.
use Rattle.std.proofs.Common.{◌≡◌, ◌∙◌, ◌++◌, ◌∷◌, [], ℕ, Bool, List, Option, Some, None, Result, Ok, Err, refl, sym}
use Rattle.std.proofs.Common.{subst, length}
use Rattle.std.specs.Prelude.{IsSome, IfSome, IfOk, OnOk, OnErr, slice_index_or}
use Rattle.std.specs.Option.{ForSome, option_to_list}
use Rattle.std.specs.declared.alloc.AllocError.{AllocError}
use Rattle.http_messages.specs.declared.reply.Reply.{Reply}
use Rattle.http_messages.specs.Message.{Arrival, Read, Refused}
use Rattle.http_messages.specs.Replies.{reply_parts}
use Rattle.http_messages.specs.Reply.{render}
use Rattle.connection_hall.specs.declared.stream.Stream.{Ghosts}
use Rattle.connection_hall.specs.Answers.{Answer, answer_to}
use Rattle.connection_hall.specs.Running.{KeepsOtherPlaces, arrival_at, number_at}
use Rattle.connection_hall.specs.Waiting.{BeginsWith, held_at}
use Rattle.connection_hall.proofs.Waits.{was_read}
use Rattle.filing_model.specs.declared.served.Mark.{Mark}
use Rattle.filing_model.proofs.Lists.{append_nil}
use Rattle.gateway_server.specs.declared.decide.Decided.{Decided}
use Rattle.gateway_rounds.specs.Places.{IsAnswerBy, IsTextOf, TellsPlace}
use Rattle.gateway_rounds.specs.Ports.{KeepsPort, Port, Runs}
use Rattle.gateway_rounds.specs.Turns.{Turn, AreElsewhere, IsFree, Spells, TellsTurns}

pub found : {X : Type 0} (slot : Option X) → IsSome slot → (x : X) × (slot ≡ Some x)
found None is = absurd (let h = is in cc)
found (Some x) is = (x, refl)

pub same_some : {X : Type 0} (slot : Option X) (x y : X) → slot ≡ Some x → slot ≡ Some y → x ≡ y
same_some slot x y one other = let h : Some x ≡ Some y = sym one ∙ other in cc

pub in_ok : {X Y : Type 0} (result : Result X Y) (P : X → Type 0) (x : X) → result ≡ Ok x → IfOk result P → P x
in_ok {X = X} {Y = Y} result P x is p = subst (λ (r : Result X Y). IfOk r P) is p

module _ {S N : Type 0} (s : Ghosts S N) (place : ℕ) (old new : Port S) where
  -- its connection is over
  pub told_nothing : (IsText : List ℕ → Type 0) (closes : Bool)
      → ((answers : List Answer) → Runs s answers old → Runs s answers new) → IsFree new.hall place
      → KeepsOtherPlaces place old.hall new.hall → KeepsPort old new
      → TellsPlace s place old new IsText closes
  told_nothing IsText closes running free others port = record {
    answer = None;
    is = tt;
    running = λ answers now. subst (λ (all : List Answer). Runs s all new) (sym (append_nil answers))
        (running answers now);
    over = λ none. free;
    others = others;
    port = port;
  }

  -- its text was given, if there was memory for that
  pub told_text : (text : List ℕ) (closes : Bool) (result : Result (Unit {0}) AllocError)
      → IsSome (arrival_at old.hall place)
      → ((answers : List Answer) → Runs s answers old → OnOk result (ForSome (arrival_at old.hall place)
      (λ arrival. Runs s (answers ++ answer_to (number_at old.hall place) arrival text closes ∷ []) new)))
      → ((answers : List Answer) → Runs s answers old → OnErr result (Runs s answers new))
      → OnErr result (IsFree new.hall place) → KeepsOtherPlaces place old.hall new.hall → KeepsPort old new
      → TellsPlace s place old new (λ told. told ≡ text) closes
  told_text text closes (Ok done) waits answered lost over others port =
      let waiting = found (arrival_at old.hall place) waits in
      record {
        answer = Some (answer_to (number_at old.hall place) waiting.0 text closes);
        is = record { on = refl; arrival = waiting.1; text = refl; closing = refl };
        running = λ answers now. answered answers now waiting.0 waiting.1;
        over = λ none. absurd (let h = none in cc);
        others = others;
        port = port;
      }
  told_text text closes (Err fault) waits answered lost over others port =
      told_nothing (λ told. told ≡ text) closes lost over others port

  answer_so : (IsText IsText' : List ℕ → Type 0) (closes : Bool) → ((text : List ℕ) → IsText text → IsText' text)
      → (answer : Option Answer) → IfSome answer (IsAnswerBy old.hall place IsText closes)
      → IfSome answer (IsAnswerBy old.hall place IsText' closes)
  answer_so IsText IsText' closes so None is = tt
  answer_so IsText IsText' closes so (Some answer) is =
      record { on = is.on; arrival = is.arrival; text = so answer.text is.text; closing = is.closing }

  -- its text is such in another way
  pub told_so : (IsText IsText' : List ℕ → Type 0) (closes : Bool) → ((text : List ℕ) → IsText text → IsText' text)
      → TellsPlace s place old new IsText closes → TellsPlace s place old new IsText' closes
  told_so IsText IsText' closes so told = record {
    answer = told.answer;
    is = answer_so IsText IsText' closes so told.answer told.is;
    running = told.running;
    over = told.over;
    others = told.others;
    port = told.port;
  }

-- the text of the reply that was decided
pub reply_is : (decided : Decided) (closes : Bool) (reply : Reply) (told : List ℕ) → decided.reply ≡ Ok reply
    → told ≡ render (reply_parts reply) closes → IsTextOf decided closes told
reply_is decided closes reply told is rendered wanted same =
    rendered ∙ in_ok decided.reply (λ r. render (reply_parts r) closes ≡ wanted) reply is same

-- ---- a turn of it

spelled : (bytes : List ℕ) (arrival : Arrival) → BeginsWith bytes arrival → Spells arrival
spelled bytes (Read message) begins = record { came = bytes; count = begins.0; begins = begins.1 }
spelled bytes (Refused refusal) begins = record { came = bytes; count = length bytes; begins = (begins, refl) }

module _ {S N : Type 0} (s : Ghosts S N) (place : ℕ) (old new : Port S) where
  other_place : KeepsOtherPlaces place old.hall new.hall → (turn : Turn) → turn.place ≡ place → (i : ℕ)
      → AreElsewhere i (turn ∷ [])
      → slice_index_or new.hall.places.items i None ≡ slice_index_or old.hall.places.items i None
  other_place others turn there i away = others i (λ same. away.0 (there ∙ sym same))

  -- it is told as this step
  pub told_turn : (IsText : List ℕ → Type 0) (closes : Bool) (told : TellsPlace s place old new IsText closes)
      (arrival : Arrival) (mark : Mark) → arrival_at old.hall place ≡ Some arrival
      → TellsTurns s (record {
        place = place;
        step = Some (record { on = number_at old.hall place; arrival = arrival; mark = mark });
        answer = told.answer;
      }
      ∷ []) old new
  told_turn IsText closes told arrival mark waits = record {
    waited = (record { arrival = waits; on = refl }, tt);
    running = λ answers now. (
      subst (λ (all : List Answer). Runs s (answers ++ all) new) (sym (append_nil (option_to_list told.answer)))
          (told.running answers now),
      (
        spelled (held_at old.hall place) arrival
            (was_read s answers old.hall old.traffic place arrival now waits).begins,
        tt,
      ),
    );
    lost = (told.over, tt);
    others = other_place told.others (record {
      place = place;
      step = Some (record { on = number_at old.hall place; arrival = arrival; mark = mark });
      answer = told.answer;
    })
        refl;
    port = told.port;
  }

  -- it was not decided
  pub lost_turn : ((answers : List Answer) → Runs s answers old → Runs s answers new) → IsFree new.hall place
      → KeepsOtherPlaces place old.hall new.hall → KeepsPort old new
      → TellsTurns s (record { place = place; step = None; answer = None } ∷ []) old new
  lost_turn running free others port = record {
    waited = (tt, tt);
    running = λ answers now.
        (subst (λ (all : List Answer). Runs s all new) (sym (append_nil answers)) (running answers now), (tt, tt));
    lost = (λ none. free, tt);
    others = other_place others (record { place = place; step = None; answer = None }) refl;
    port = port;
  }

pub still_some : {X : Type 0} (slot : Option X) (x : X) → slot ≡ Some x → IsSome slot
still_some slot x is = subst IsSome (sym is) refl
