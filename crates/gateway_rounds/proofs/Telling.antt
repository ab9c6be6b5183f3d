-- What is new is decided together and told in order.
use Rattle.std.proofs.Common.{◌≡◌, ◌≢◌, ◌∙◌, ◌+◌, ◌<◌, ◌++◌, ◌∷◌, [], ℕ, true, false, List, Option, Some, None}
use Rattle.std.proofs.Common.{Bool, refl, sym, ap, subst, length, map, take, drop, get_or, Result, Ok, Err, Vec}
use Rattle.std.proofs.lemmas.List.{map-append, take-append-drop, take_more}
use Rattle.std.proofs.lemmas.List.Elements.{All-get_or, recursion_from_All}
use Rattle.std.specs.Prelude.{IfOk, IfSome, IsSome, slice_index_or}
use Rattle.std.specs.List.{All, AllByRecursion}
use Rattle.std.specs.declared.alloc.AllocError.{AllocError}
use Rattle.std.specs.declared.alloc.Global.{Global}
use Rattle.sqlite.specs.Store.{Ghosts as Disk}
use Rattle.http_messages.specs.Message.{Arrival, Read}
use Rattle.http_messages.specs.Request.{Request as Message}
use Rattle.connection_hall.specs.declared.hall.Hall.{Hall}
use Rattle.connection_hall.specs.declared.stream.Stream.{Ghosts}
use Rattle.connection_hall.specs.Answers.{Answer}
use Rattle.connection_hall.specs.Places.{arrival_in, number_in}
use Rattle.connection_hall.specs.Running.{arrival_at, number_at}
use Rattle.filing_model.specs.Request.{Request}
use Rattle.filing_model.specs.Steps.{Step}
use Rattle.filing_model.specs.Text.{FileReport, route}
use Rattle.gateway_server.specs.Decided.{Decides as DecidesRoute}
use Rattle.gateway_server.specs.Group.{DecideInTurn}
use Rattle.gateway_server.specs.declared.decide.Decided.{Decided}
use Rattle.intake_core.specs.declared.intake.Intake.{Intake}
use Rattle.intake_core.specs.Held.{IsTransitionIf, KeepsSetting, limit_of}
use Rattle.intake_core.specs.Looked.{AreNewIf, AreNewTo}
use Rattle.gateway_rounds.specs.declared.new.New.{New}
use Rattle.gateway_rounds.specs.Groups.{places_of, places_in, asked_in, body_of, request_of, AreFound, AreOther}
use Rattle.gateway_rounds.specs.Groups.{AreTurnsOf}
use Rattle.gateway_rounds.specs.Groups.{AreApart, FiledUpTo, FilesGroup, IsAskedIn, IsTurnOf, TellsGroup, ToldUpTo}
use Rattle.gateway_rounds.specs.Places.{IsAnswerBy, IsTextOf, TakesPlace, TellsPlace}
use Rattle.gateway_rounds.specs.Ports.{Port}
use Rattle.gateway_rounds.specs.Rounds.{asks_to_file}
use Rattle.gateway_rounds.specs.Turns.{Turn, AreElsewhere, DecidesTurns, TellsTurns, WaitedIn}
use Rattle.gateway_rounds.proofs.Decided.{decides_read, turn_decided}
use Rattle.gateway_rounds.proofs.Lists.{all_append, all_unmap, in_order_first, in_order_last}
use Rattle.gateway_rounds.proofs.Told.{same_some, still_some, told_turn}
use Rattle.gateway_rounds.proofs.Turns.{decides-append, nothing_decided, nothing_taken, nothing_told, takes-append}
use Rattle.gateway_rounds.proofs.Turns.{tells-append}

-- ---- each has its turn

turn_is : (turn : Turn) (place : ℕ) (step : Option Step) → turn.place ≡ place → turn.step ≡ step
    → turn ≡ record { place = place; step = step; answer = turn.answer }
turn_is turn place step there is =
    ap (λ (p : ℕ). record { place = p; step = turn.step; answer = turn.answer }) there
    ∙ ap (λ (it : Option Step). record { place = place; step = it; answer = turn.answer }) is

module _ {S : Type 0} (hall : Hall S) where
  pub places_there : (news : List New) (ds : List Decided) (turns : List Turn) → AreTurnsOf hall news ds turns
      → places_of turns ≡ places_in news
  places_there [] [] [] are = refl
  places_there [] [] (turn ∷ turns) are = absurd are
  places_there [] (d ∷ ds) turns are = absurd are
  places_there (new ∷ news) [] turns are = absurd are
  places_there (new ∷ news) (d ∷ ds) [] are = absurd are
  places_there (new ∷ news) (d ∷ ds) (turn ∷ turns) are =
      ap (λ (p : ℕ). p ∷ places_of turns) are.0.there
      ∙ ap (λ (ps : List ℕ). new.place ∷ ps) (places_there news ds turns are.1)

  turns_more : (news : List New) (ds : List Decided) (turns : List Turn) (new : New) (d : Decided) (turn : Turn)
      → AreTurnsOf hall news ds turns → IsTurnOf hall new d turn
      → AreTurnsOf hall (news ++ new ∷ []) (ds ++ d ∷ []) (turns ++ turn ∷ [])
  turns_more [] [] [] new d turn are is = (is, tt)
  turns_more [] [] (first ∷ turns) new d turn are is = absurd are
  turns_more [] (e ∷ ds) turns new d turn are is = absurd are
  turns_more (first ∷ news) [] turns new d turn are is = absurd are
  turns_more (first ∷ news) (e ∷ ds) [] new d turn are is = absurd are
  turns_more (first ∷ news) (e ∷ ds) (one ∷ turns) new d turn are is =
      (are.0, turns_more news ds turns new d turn are.1 is)

  asks_one : (new : New) (d : Decided) (turn : Turn) → IsTurnOf hall new d turn → asks_to_file turn.step
  asks_one new d turn is = subst asks_to_file (sym is.step) (request_of new is.message.body, is.asked.asks)

  pub all_ask : (news : List New) (ds : List Decided) (turns : List Turn) → AreTurnsOf hall news ds turns
      → AllByRecursion (λ turn. asks_to_file turn.step) turns
  all_ask [] [] [] are = tt
  all_ask [] [] (turn ∷ turns) are = absurd are
  all_ask [] (d ∷ ds) turns are = absurd are
  all_ask (new ∷ news) [] turns are = absurd are
  all_ask (new ∷ news) (d ∷ ds) [] are = absurd are
  all_ask (new ∷ news) (d ∷ ds) (turn ∷ turns) are = (asks_one new d turn are.0, all_ask news ds turns are.1)

  -- ---- what was decided

  one_decided : (limit : ℕ) (old_style before after : List Request) (new : New) (d : Decided) (turn : Turn)
      → IsTurnOf hall new d turn → DecidesRoute limit old_style before after (FileReport (asked_in hall new)) d
      → DecidesTurns limit old_style before after (turn ∷ [])
  one_decided limit old_style before after new d turn is decides =
      let asked : route is.message ≡ FileReport (asked_in hall new) =
      is.asked.asks ∙ ap (λ a. FileReport (request_of new (body_of a))) (sym is.waits) in
      subst (λ (t : Turn). DecidesTurns limit old_style before after (t ∷ []))
      (sym (turn_is turn new.place (Some (record {
        on = number_at hall new.place;
        arrival = Read is.message;
        mark = d.mark;
      })) is.there is.step))
      (turn_decided hall new.place limit old_style before after d new.closes (Read is.message) turn.answer is.waits
      (decides_read limit old_style before after is.message (FileReport (asked_in hall new)) d new.closes asked
      is.asked.closing decides) is.told)

  pub group_decided : (limit : ℕ) (old_style before after : List Request) (news : List New) (ds : List Decided)
      (turns : List Turn) → AreTurnsOf hall news ds turns
      → DecideInTurn limit old_style before after (map (asked_in hall) news) ds
      → DecidesTurns limit old_style before after turns
  group_decided limit old_style before after [] [] [] are decides =
      subst (λ (rs : List Request). DecidesTurns limit old_style before rs []) (sym decides)
      (nothing_decided limit old_style before)
  group_decided limit old_style before after [] [] (turn ∷ turns) are decides = absurd are
  group_decided limit old_style before after [] (d ∷ ds) turns are decides = absurd are
  group_decided limit old_style before after (new ∷ news) [] turns are decides = absurd are
  group_decided limit old_style before after (new ∷ news) (d ∷ ds) [] are decides = absurd are
  group_decided limit old_style before after (new ∷ news) (d ∷ ds) (turn ∷ turns) are decides =
      decides-append limit old_style before decides.0 after (turn ∷ []) turns
      (one_decided limit old_style before decides.0 new d turn are.0 decides.1)
      (group_decided limit old_style decides.0 after news ds turns are.1 decides.2)

  -- if each was found to be new, all are
  pub all_new : (before : List Request) (news : List New) → AllByRecursion (λ new. new.is_new ≡ true) news
      → AreFound hall news before → AreNewTo before (map (asked_in hall) news)
  all_new before [] all found = tt
  all_new before (new ∷ news) all found = (found.0 all.0, all_new before news all.1 found.1)

-- ---- one more is told

module _ {S : Type 0} (old mid : Hall S) (place : ℕ)
    (same : slice_index_or mid.places.items place None ≡ slice_index_or old.places.items place None) where
  pub arrival_same : arrival_at mid place ≡ arrival_at old place
  arrival_same = ap arrival_in same

  pub number_same : number_at mid place ≡ number_at old place
  number_same = ap number_in same

  answer_before : (IsText : List ℕ → Type 0) (answer : Option Answer)
      → IfSome answer (IsAnswerBy mid place IsText false) → IfSome answer (IsAnswerBy old place IsText false)
  answer_before IsText None is = tt
  answer_before IsText (Some answer) is = record {
    on = is.on ∙ number_same;
    arrival = sym arrival_same ∙ is.arrival;
    text = is.text;
    closing = is.closing;
  }

-- the next one is elsewhere than those before it, and still waits
module _ {S N : Type 0} (s : Ghosts S N) (old mid : Port S) (group : List New) (at : ℕ) (one : New)
    (longer : take (at + 1) group ≡ take at group ++ one ∷ []) (apart : AreApart (places_in group))
    (asked : IsAskedIn old.hall one) (turns : List Turn) (tells : TellsTurns s turns old mid)
    (there : places_of turns ≡ places_in (take at group)) where
  apart_here : AreApart (places_in (take at group) ++ one.place ∷ [])
  apart_here =
      in_order_first (λ p q. p ≢ q) (places_in (take at group) ++ one.place ∷ []) (places_in (drop (at + 1) group))
      (subst AreApart
      (sym (ap places_in (take-append-drop (at + 1) group))
      ∙ map-append (λ (new : New). new.place) (take (at + 1) group) (drop (at + 1) group)
      ∙ ap (λ (news : List New). places_in news ++ places_in (drop (at + 1) group)) longer
      ∙ ap (λ (ps : List ℕ). ps ++ places_in (drop (at + 1) group))
      (map-append (λ (new : New). new.place) (take at group) (one ∷ []))) apart)

  pub not_there : AreElsewhere one.place turns
  not_there = all_unmap (λ (turn : Turn). turn.place) (λ (p : ℕ). p ≢ one.place) turns
      (subst (AreOther one.place) (sym there)
      (in_order_last (λ p q. p ≢ q) (places_in (take at group)) one.place apart_here))

  pub same_there : slice_index_or mid.hall.places.items one.place None
      ≡ slice_index_or old.hall.places.items one.place None
  same_there = tells.others one.place not_there

  pub waits_there : arrival_at mid.hall one.place ≡ Some (Read asked.message)
  waits_there = ap arrival_in same_there ∙ asked.waits

  pub is_there : IsSome (arrival_at mid.hall one.place)
  is_there = still_some (arrival_at mid.hall one.place) (Read asked.message) waits_there

pub one_longer : {X : Type 0} (xs : List X) (at : ℕ) (x : X) → at < length xs → x ≡ get_or xs at x
    → take (at + 1) xs ≡ take at xs ++ x ∷ []
one_longer xs at x low is = take_more xs at x low ∙ ap (λ y. take at xs ++ y ∷ []) (sym is)

pub one_of : {X : Type 0} (P : X → Type 0) (xs : List X) (at : ℕ) (x : X) → at < length xs → x ≡ get_or xs at x
    → All P xs → P x
one_of P xs at x low is all = subst P (sym is) (All-get_or P xs at x low all)

module _ {S N : Type 0} (s : Ghosts S N) (old mid new : Port S) (group : List New) (ds : List Decided) (at : ℕ)
    (one : New) (d : Decided) (longer : take (at + 1) group ≡ take at group ++ one ∷ [])
    (longer_ds : take (at + 1) ds ≡ take at ds ++ d ∷ []) (apart : AreApart (places_in group))
    (asked : IsAskedIn old.hall one) (first : ToldUpTo s at old mid group ds) where
  pub one_told : TellsPlace s one.place mid new (IsTextOf d one.closes) false
      → ToldUpTo s (at + 1) old new group ds
  one_told told =
      let there = places_there old.hall (take at group) (take at ds) first.turns first.are in
      let same = same_there s old mid group at one longer apart asked first.turns first.tells there in
      let turn : Turn = record {
        place = one.place;
        step = Some (record { on = number_at mid.hall one.place; arrival = Read asked.message; mark = d.mark });
        answer = told.answer;
      } in
      let is : IsTurnOf old.hall one d turn = record {
        there = refl;
        message = asked.message;
        waits = asked.waits;
        asked = asked.asked;
        step = ap (λ (n : ℕ). Some (record { on = n; arrival = Read asked.message; mark = d.mark }))
            (number_same old.hall mid.hall one.place same);
        told = answer_before old.hall mid.hall one.place same (IsTextOf d one.closes) told.answer told.is;
      } in
      record {
        turns = first.turns ++ turn ∷ [];
        tells = tells-append s first.turns (turn ∷ []) old mid new
            (not_there s old mid group at one longer apart asked first.turns first.tells there, tt) first.tells
            (told_turn s one.place mid new (IsTextOf d one.closes) false told (Read asked.message) d.mark
            (waits_there s old mid group at one longer apart asked first.turns first.tells there));
        are = subst (λ (news : List New). AreTurnsOf old.hall news (take (at + 1) ds) (first.turns ++ turn ∷ []))
            (sym longer)
            (subst (λ (all : List Decided). AreTurnsOf old.hall (take at group ++ one ∷ []) all
            (first.turns ++ turn ∷ [])) (sym longer_ds)
            (turns_more old.hall (take at group) (take at ds) first.turns one d turn first.are is));
      }

module _ {S N : Type 0} (s : Ghosts S N) (old : Port S) (group : List New) (ds : List Decided) where
  pub none_told : ToldUpTo s 0 old old group ds
  none_told = record { turns = []; tells = nothing_told s old; are = tt }

  pub all_told : (new : Port S) (at : ℕ) → take at group ≡ group → take at ds ≡ ds → ToldUpTo s at old new group ds
      → TellsGroup s old new group ds
  all_told new at whole whole_ds first = record {
    turns = first.turns;
    tells = first.tells;
    are = subst (λ (news : List New). AreTurnsOf old.hall news ds first.turns) whole
        (subst (λ (all : List Decided). AreTurnsOf old.hall (take at group) all first.turns) whole_ds first.are);
  }

-- ---- all of them

module _ {S N D : Type 0} (s : Ghosts S N) (g : Disk D) (old new : Port S) (group : List New)
    (intake intake' : Intake D) where
  pub filed_together : (ds : List Decided) → TellsGroup s old new group ds
      → IsTransitionIf g (AreFound old.hall group) intake intake' (λ old_style before after.
      DecideInTurn (limit_of intake) old_style before after (map (asked_in old.hall) group) ds)
      → KeepsSetting g intake intake' → FilesGroup s g old new group intake intake'
  filed_together ds told decided setting = record {
    turns = told.turns;
    tells = told.tells;
    there = places_there old.hall group ds told.turns told.are;
    asks = all_ask old.hall group ds told.turns told.are;
    decided = λ clean before holds found.
        let all = decided clean before holds found in (
          all.0,
          all.1,
          all.2,
          group_decided old.hall (limit_of intake) _ before all.0 group ds told.turns told.are all.3,
        );
    setting = setting;
  }

  pub filed_each : (at : ℕ) → take at group ≡ group → FiledUpTo s g at old new group intake intake'
      → FilesGroup s g old new group intake intake'
  filed_each at whole first = record {
    turns = first.turns;
    tells = first.takes.tells;
    there = first.there ∙ ap places_in whole;
    asks = first.asks;
    decided = λ clean before holds found. first.takes.decided clean before holds;
    setting = first.takes.setting;
  }

-- ---- one more is decided and told by itself

asked_waited : {S : Type 0} (hall : Hall S) (place : ℕ) (message : Message) (new : New)
    → arrival_at hall place ≡ Some (Read message) → route message ≡ FileReport (request_of new message.body)
    → (step : Option Step) → IfSome step (WaitedIn hall place) → asks_to_file step
asked_waited hall place message new waits asks None waited = tt
asked_waited hall place message new waits asks (Some step) waited =
    subst (λ (a : Arrival). asks_to_file (Some (record step { arrival = a })))
    (same_some (arrival_at hall place) (Read message) step.arrival waits waited.arrival)
    (request_of new message.body, asks)

module _ {S N D : Type 0} (s : Ghosts S N) (g : Disk D) (old mid new : Port S) (group : List New) (at : ℕ)
    (one : New) (intake intake_mid intake' : Intake D) (longer : take (at + 1) group ≡ take at group ++ one ∷ [])
    (apart : AreApart (places_in group)) (asked : IsAskedIn old.hall one)
    (first : FiledUpTo s g at old mid group intake intake_mid) where
  pub one_filed : TakesPlace s g one.place mid new intake_mid intake'
      → FiledUpTo s g (at + 1) old new group intake intake'
  one_filed it =
      let turn = it.turn in
      let elsewhere =
      not_there s old mid group at one longer apart asked first.turns first.takes.tells first.there in
      let waits = waits_there s old mid group at one longer apart asked first.turns first.takes.tells first.there in
      record {
        turns = first.turns ++ turn ∷ [];
        takes = takes-append s g first.turns (turn ∷ []) old mid new intake intake_mid intake'
            (subst (λ (p : ℕ). AreElsewhere p first.turns) (sym it.there) elsewhere, tt) first.takes it.takes;
        there = map-append (λ (turn : Turn). turn.place) first.turns (turn ∷ [])
            ∙ ap (λ (p : ℕ). places_of first.turns ++ p ∷ []) it.there
            ∙ ap (λ (ps : List ℕ). ps ++ one.place ∷ []) first.there
            ∙ sym (ap places_in longer ∙ map-append (λ (new : New). new.place) (take at group) (one ∷ []));
        asks = all_append (λ (turn : Turn). asks_to_file turn.step) first.turns (turn ∷ []) first.asks (
          asked_waited mid.hall one.place asked.message one waits asked.asked.asks turn.step
              (subst (λ (p : ℕ). IfSome turn.step (WaitedIn mid.hall p)) it.there it.takes.tells.waited.0),
          tt,
        );
      }

pub none_filed : {S N D : Type 0} (s : Ghosts S N) (g : Disk D) (port : Port S) (group : List New) (intake : Intake D)
    → FiledUpTo s g 0 port port group intake intake
none_filed s g port group intake =
    record { turns = []; takes = nothing_taken s g port intake; there = refl; asks = tt }

-- ---- what was found to be new

pub new_decided : {D : Type 0} {S : Type 0} (g : Disk D) (hall : Hall S) (group : List New) (requests : List Request)
    (are_new : Bool) (result : Result (Vec Decided Global) AllocError) (intake intake' : Intake D)
    → requests ≡ map (asked_in hall) group → (are_new ≡ true → All (λ new. new.is_new ≡ true) group)
    → IfOk result (λ all. IsTransitionIf g (AreNewIf are_new requests) intake intake'
    (λ old_style before after. DecideInTurn (limit_of intake) old_style before after requests all.items))
    → IfOk result (λ all. IsTransitionIf g (AreFound hall group) intake intake'
    (λ old_style before after. DecideInTurn (limit_of intake) old_style before after (map (asked_in hall) group)
    all.items))
new_decided g hall group requests are_new (Ok all) intake intake' same is decided = λ clean before holds found.
    (subst (λ (rs : List Request). IsTransitionIf g (AreNewIf are_new rs) intake intake'
    (λ old_style before after. DecideInTurn (limit_of intake) old_style before after rs all.items)) same decided)
    clean before holds
    (λ yes. all_new hall before group (recursion_from_All (λ (new : New). new.is_new ≡ true) group (is yes)) found)
new_decided g hall group requests are_new (Err fault) intake intake' same is decided = tt
