-- What waits is turned away, one place after another.
use Rattle.std.proofs.Common.{◌≡◌, ◌≢◌, ◌∙◌, ◌+◌, ◌<◌, ◌≤◌, ◌++◌, ◌∷◌, [], ℕ, Bool, true, Option, Some, None}
use Rattle.std.proofs.Common.{refl, sym, ap, subst, inl, inr, arith}
use Rattle.std.proofs.lemmas.Bool.Decides.{eqb_tells, leb_tells}
use Rattle.std.proofs.lemmas.List.{map-append}
use Rattle.std.specs.Prelude.{IfSome, IsSome}
use Rattle.std.specs.Option.{ForSome}
use Rattle.std.specs.List.{AllByRecursion}
use Rattle.http_messages.specs.Message.{Arrival}
use Rattle.http_messages.specs.Reply.{render}
use Rattle.connection_hall.specs.declared.hall.Hall.{Hall}
use Rattle.connection_hall.specs.declared.stream.Stream.{Ghosts}
use Rattle.connection_hall.specs.Answers.{Answer}
use Rattle.connection_hall.specs.Places.{arrival_in}
use Rattle.connection_hall.specs.Running.{arrival_at, number_at}
use Rattle.filing_model.specs.declared.served.Mark.{Mark}
use Rattle.filing_model.specs.Steps.{Step}
use Rattle.gateway_rounds.specs.Away.{AnswersAway, IsAway, IsAwayAnswer, away_mark, away_reply, closing_reply}
use Rattle.gateway_rounds.specs.Groups.{places_of, AreOther, InOrder}
use Rattle.gateway_rounds.specs.AwayTurns.{AnswersAwayUpTo, TurnsPlaceAway}
use Rattle.gateway_rounds.specs.Places.{IsAnswerBy, TellsPlace}
use Rattle.gateway_rounds.specs.Ports.{Port}
use Rattle.gateway_rounds.specs.Turns.{IsBefore, Turn}
use Rattle.gateway_rounds.proofs.Lists.{all_append, all_below, all_map, all_parts, all_unmap, all_so, in_order_more}
use Rattle.gateway_rounds.proofs.Lists.{other_below}
use Rattle.gateway_rounds.proofs.Told.{found, same_some, told_turn}
use Rattle.gateway_rounds.proofs.Turns.{nothing_told, tells-append}
use Rattle.gateway_rounds.proofs.Whole.{in_order_of}

module _ {S : Type 0} (hall : Hall S) (place : ℕ) (arrival : Arrival) (mark : Mark) (is_head : Bool) where
  away_answer : (answer : Option Answer) → arrival_at hall place ≡ Some arrival
      → closing_reply is_head ≡ away_reply arrival
      → IfSome answer (IsAnswerBy hall place (λ told. told ≡ render (closing_reply is_head) true) true)
      → IfSome answer (IsAwayAnswer (record { on = number_at hall place; arrival = arrival; mark = mark }))
  away_answer None waits same is = tt
  away_answer (Some answer) waits same is = record {
    on = is.on;
    arrival = same_some (arrival_at hall place) answer.arrival arrival is.arrival waits;
    text = is.text ∙ ap (λ reply. render reply true) same;
    closes = is.closing;
  }

module _ {S N : Type 0} (s : Ghosts S N) (place : ℕ) (old new : Port S) where
  -- it was told the 503, if there was memory for that
  pub turned_away : (mark : Mark) (is_head : Bool) → IsSome (arrival_at old.hall place)
      → ForSome (arrival_at old.hall place) (λ arrival. (mark ≡ away_mark arrival)
      × (closing_reply is_head ≡ away_reply arrival))
      → TellsPlace s place old new (λ told. told ≡ render (closing_reply is_head) true) true
      → TurnsPlaceAway s place old new
  turned_away mark is_head waits asked told =
      let waiting = found (arrival_at old.hall place) waits in
      let is = asked waiting.0 waiting.1 in
      let step : Step = record { on = number_at old.hall place; arrival = waiting.0; mark = mark } in
      record {
        turn = record { place = place; step = Some step; answer = told.answer };
        there = refl;
        tells = told_turn s place old new (λ text. text ≡ render (closing_reply is_head) true) true told waiting.0 mark
            waiting.1;
        away = record {
          step = step;
          is = refl;
          mark = is.0;
          told = away_answer old.hall place waiting.0 mark is_head told.answer waiting.1 is.1 told.is;
        };
      }

module _ {S N : Type 0} (s : Ghosts S N) where
  pub none_away : (port : Port S) → AnswersAwayUpTo s 0 port port
  none_away port = record {
    turns = [];
    tells = nothing_told s port;
    away = tt;
    order = tt;
    before = tt;
    each = λ i low away. absurd (omega (arith, low));
  }

  pub one_away : (old mid new : Port S) (from place : ℕ) → from ≤ place
      → ((i : ℕ) → from ≤ i → i < place → arrival_at mid.hall i ≡ None) → AnswersAwayUpTo s from old mid
      → TurnsPlaceAway s place mid new → AnswersAwayUpTo s (place + 1) old new
  one_away old mid new from place low none first one =
      let turn = one.turn in
      let turns = first.turns in
      let there : places_of (turns ++ turn ∷ []) ≡ places_of turns ++ place ∷ [] =
      map-append (λ (turn : Turn). turn.place) turns (turn ∷ [])
      ∙ ap (λ (p : ℕ). places_of turns ++ p ∷ []) one.there in
      let below = all_below from place low (places_of turns) first.before in
      let elsewhere = all_unmap (λ (turn : Turn). turn.place) (λ (p : ℕ). p ≢ turn.place) turns
      (subst (λ (p : ℕ). AreOther p (places_of turns)) (sym one.there) (other_below place (places_of turns) below)) in
      record {
        turns = turns ++ turn ∷ [];
        tells = tells-append s turns (turn ∷ []) old mid new (elsewhere, tt) first.tells one.tells;
        away = all_append IsAway turns (turn ∷ []) first.away (one.away, tt);
        order = subst (InOrder (IsBefore 0)) (sym there)
            (in_order_more (IsBefore 0) (places_of turns) place first.order
            (all_so (λ (p : ℕ). p < place) (λ (p : ℕ). IsBefore 0 p place) (λ p low. inr (low, inl (omega arith)))
            (places_of turns) below));
        before = subst (AllByRecursion (λ p. p < place + 1)) (sym there)
            (all_append (λ (p : ℕ). p < place + 1) (places_of turns) (place ∷ [])
            (all_below place (place + 1) (omega arith) (places_of turns) below) (omega arith, tt));
        each = λ i here away.
            let parts = all_parts (λ (p : ℕ). p ≢ i) (places_of turns) (place ∷ []) (subst (AreOther i) there away) in
            elim (leb_tells from i) [
              | inl high ↦ elim (eqb_tells i place) [
                | inl same ↦ absurd (parts.1.0 (sym same.1))
                | inr other ↦ ap arrival_in (sym (first.tells.others i
                    (all_unmap (λ (turn : Turn). turn.place) (λ (p : ℕ). p ≢ i) turns parts.0)))
                    ∙ none i high.1 (let apart = other.1 in omega (arith, here, apart))
              ]
              | inr early ↦ first.each i early.1 parts.0
            ];
      }

  pub all_away : (old new : Port S) (from : ℕ) → ((i : ℕ) → from ≤ i → arrival_at new.hall i ≡ None)
      → AnswersAwayUpTo s from old new → AnswersAway s old new
  all_away old new from none first = record {
    turns = first.turns;
    tells = first.tells;
    away = first.away;
    in_order = in_order_of 0 first.turns first.order;
    each = λ i away. elim (leb_tells from i) [
      | inl high ↦ ap arrival_in (sym (first.tells.others i away)) ∙ none i high.1
      | inr early ↦ first.each i early.1 (all_map (λ (turn : Turn). turn.place) (λ (p : ℕ). p ≢ i) first.turns away)
    ];
  }
