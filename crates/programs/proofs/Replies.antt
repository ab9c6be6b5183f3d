-- What each connection of a port gets.
use Rattle.std.proofs.Common.{◌≡◌, ℕ, Bool, true, false, List, [], ◌∷◌, ◌++◌, Option, Some, None, refl, sym, ap, ap₂}
use Rattle.std.proofs.Common.{inl, inr}
use Rattle.std.proofs.Common.{◌∙◌, subst, IfSome}
use Rattle.std.specs.List.{AllByRecursion}
use Rattle.std.specs.Option.{option_to_list}
use Rattle.std.specs.Prelude.{is_some, slice_index_or, if◌then◌else◌}
use Rattle.std.proofs.lemmas.Bool.{cases_Bool}
use Rattle.std.proofs.lemmas.List.{append-nil}
use Rattle.http_messages.specs.Message.{Arrival, Ending, Rest, ArrivalsThen, Asks}
use Rattle.http_messages.specs.Reply.{render}
use Rattle.http_connection.specs.Connection.{is_over, ending_by, Leaves}
use Rattle.http_connection.proofs.Finished.{all-closed, finished-then}
use Rattle.connection_hall.specs.declared.served.Served.{Served as InHall}
use Rattle.connection_hall.specs.declared.stream.Stream.{Ghosts}
use Rattle.connection_hall.specs.declared.why.Why.{Why}
use Rattle.connection_hall.specs.declared.why.Why.TheVariants.{Done, Broken, NoMemory, Late}
use Rattle.connection_hall.specs.Answers.{Answer, answer_to, own, arrivals_on, text_on}
use Rattle.connection_hall.specs.Comings.{Gone}
use Rattle.connection_hall.specs.Connections.{held_by, early_text, IsServed, IsTold, IsEnd, IsCutOff}
use Rattle.connection_hall.specs.Running.{WasTold}
use Rattle.connection_hall.specs.TurnsTaken.{WasServed}
use Rattle.connection_hall.proofs.Done.{done_told}
use Rattle.filing_model.specs.Request.{Request}
use Rattle.filing_model.specs.Serving.{AnyFollows, BeginsArrivals}
use Rattle.filing_model.specs.Text.{completed_at, reply_text_with}
use Rattle.filing_model.proofs.Serving.{BeginsArrivals-more}
use Rattle.filing_model.proofs.Stopping.{HasArrivals-begins}
use Rattle.gateway_rounds.specs.Away.{away_reply}
use Rattle.gateway_rounds.specs.Ports.{Port, Runs}
use Rattle.intake_process.specs.Turns.{Turn, Served, TurnedAway, answers_in, AreTurns}
use Rattle.programs.specs.Replies.{answers_after, GetsSoFar, GetsUntil, IfKnown, GoesOn, EachGets}

-- ---- what holds of each

if_more : {X : Type 0} {P Q : X → Type 0} (o : Option X) → ((x : X) → P x → Q x) → IfSome o P → IfSome o Q
if_more None more is = tt
if_more (Some x) more is = more x is

all_more : {X : Type 0} {P Q : X → Type 0} (xs : List X) → ((x : X) → P x → Q x) → AllByRecursion P xs
    → AllByRecursion Q xs
all_more [] more all = tt
all_more (x ∷ xs) more all = (more x all.0, all_more xs more all.1)

-- ---- the answers of turns

same_answer : (answer : Answer) (number : ℕ) (arrival : Arrival) (text : List ℕ) (closes : Bool)
    → answer.on ≡ number → answer.arrival ≡ arrival → answer.text ≡ text → answer.closes ≡ closes
    → answer ≡ answer_to number arrival text closes
same_answer answer number arrival text closes on is reads shut =
    ap₂ (λ n a. answer_to n a answer.text answer.closes) on is
    ∙ ap₂ (λ t b. answer_to number arrival t b) reads shut

one_given : (told : Option Answer) (answer : Answer) → IfSome told (λ a. a ≡ answer)
    → option_to_list told ≡ (if is_some told then answer ∷ [] else [])
one_given None answer same = refl
one_given (Some a) answer same = ap (λ x. x ∷ []) same

pub answers_are : (limit : ℕ) (old_style before : List Request) (turns : List Turn)
    → AreTurns limit old_style before turns
    → answers_in turns ≡ answers_after old_style before turns
answers_are limit old_style before [] are = refl
answers_are limit old_style before (Served told ∷ turns) are =
    let step = told.step in
    let text = reply_text_with old_style before step.arrival step.mark in
    ap₂ (λ x rest. x ++ rest)
    (one_given told.answer (answer_to step.on step.arrival text false)
    (if_more told.answer (λ a is. same_answer a step.on step.arrival text false is.on is.arrival is.text is.closes)
    are.0.answered))
    (answers_are limit old_style (before ++ completed_at step.arrival step.mark) turns are.1)
answers_are limit old_style before (TurnedAway told ∷ turns) are =
    let step = told.step in
    let text = render (away_reply step.arrival) true in
    let is = are.0 in
    ap₂ (λ x rest. x ++ rest)
    (one_given told.answer (answer_to step.on step.arrival text true)
    (subst (λ o. IfSome o (λ a. a ≡ answer_to step.on step.arrival text true)) (sym is.given)
    (same_answer is.answer step.on step.arrival text true is.on is.arrival is.text is.closes)))
    (answers_are limit old_style before turns are.1)

-- ---- one connection

any_asks : (bytes : List ℕ) (asks : Bool) → (asks ≡ true → Asks bytes true) → AnyFollows bytes (Rest asks)
any_asks bytes true is = is refl
any_asks bytes false is = tt

pub so_far : {S : Type 0} (came went : List ℕ) (is_ended : Bool) (answers : List Answer) (c : InHall S)
    → IsTold (Some came) (Some went) is_ended answers c
    → GetsSoFar came (went ++ c.owed.items) (own c.number answers)
so_far came went is_ended answers c told =
    let arrivals = arrivals_on c.number answers in
    let splits : (b : Bool) → is_over c.machine ≡ b → ArrivalsThen (Leaves (held_by c)) came arrivals (ending_by b) =
    λ b is. subst (λ l. ArrivalsThen (Leaves (held_by c)) l arrivals (ending_by b)) (sym told.came_is)
    (subst (λ b. ArrivalsThen (Leaves (held_by c)) told.bytes arrivals (ending_by b)) is told.read.splits) in
    elim (cases_Bool (is_over c.machine)) [
      | inl over ↦ record {
        ending = Ending.Closed;
        begins = HasArrivals-begins came arrivals Ending.Closed
            (all-closed (held_by c) came arrivals (splits true over));
        written = told.went_is ∙ ap (λ b. text_on c.number answers ++ early_text b) (told.shut (told.over over));
      }
      | inr open' ↦ record {
        ending = Rest c.is_early;
        begins = subst (λ l. ArrivalsThen AnyFollows came l (Rest c.is_early)) (append-nil arrivals)
            (finished-then AnyFollows (held_by c) came arrivals [] (Rest c.is_early) (splits false open')
            (any_asks (held_by c) c.is_early told.early));
        written = told.went_is;
      }
    ]

module _ {S N : Type 0} (s : Ghosts S N) where
  known : (stream : S) (Holds : List ℕ → List ℕ → Type 0)
      → ((came went : List ℕ) → s.came stream ≡ Some came → s.went stream ≡ Some went → Holds came went)
      → IfKnown s stream Holds
  known stream Holds holds = by (s.came stream) (s.went stream) holds
    where
      by : (c w : Option (List ℕ))
          → ((came went : List ℕ) → c ≡ Some came → w ≡ Some went → Holds came went)
          → IfSome c (λ came. IfSome w (Holds came))
      by None w holds = tt
      by (Some came) None holds = tt
      by (Some came) (Some went) holds = holds came went refl refl

  module _ (answers : List Answer) (c : InHall S) (came went : List ℕ) (came_is : s.came c.stream ≡ Some came)
      (went_is : s.went c.stream ≡ Some went) where
    in_place : IsServed s answers c → GetsSoFar came (went ++ c.owed.items) (own c.number answers)
    in_place served =
        so_far came went (s.is_ended c.stream) answers c
        (subst (λ o. IsTold (Some came) o (s.is_ended c.stream) answers c) went_is
        (subst (λ o. IsTold o (s.went c.stream) (s.is_ended c.stream) answers c) came_is served))

    cut_off : IsCutOff s answers c → GetsSoFar came (went ++ c.owed.items) (own c.number answers)
    cut_off (first, known, told) =
        let more = subst (λ o. IfSome o (λ known. (rest : List ℕ) × (known ≡ first ++ rest))) came_is known in
        let part =
        so_far first went (s.is_ended c.stream) answers c
        (subst (λ o. IsTold (Some first) o (s.is_ended c.stream) answers c) went_is told) in
        record {
          ending = part.ending;
          begins = subst (λ bytes. BeginsArrivals bytes (arrivals_on c.number answers) part.ending) (sym more.1)
              (BeginsArrivals-more first more.0 (arrivals_on c.number answers) part.ending part.begins);
          written = part.written;
        }

    until : (why : Why) → WasServed s why answers c → IsEnd s why c
        → GetsUntil why came went (own c.number answers)
    until Done served end =
        done_told (s.came c.stream) (s.went c.stream) (s.is_ended c.stream) answers c came went came_is went_is served
        end.0 end.1
    until Broken served end = (went ++ c.owed.items, (c.owed.items, refl), in_place served)
    until NoMemory served end = (went ++ c.owed.items, (c.owed.items, refl), cut_off served)
    until Late served end = (went ++ c.owed.items, (c.owed.items, refl), in_place served)

  goes_on : (answers : List Answer) (c : InHall S) (why : Why) → WasServed s why answers c
      → GoesOn (own c.number answers)
  goes_on answers c Done served = (c.is_closing, served.ends)
  goes_on answers c Broken served = (c.is_closing, served.ends)
  goes_on answers c NoMemory served = (c.is_closing, served.2.ends)
  goes_on answers c Late served = (c.is_closing, served.ends)

  gone_gets : (limit : Option ℕ) (answers : List Answer) (gone : Gone S) → WasTold s limit answers gone
      → GoesOn (own gone.number answers)
      × IfKnown s gone.stream (λ came went. GetsUntil gone.why came went (own gone.number answers))
  gone_gets limit answers gone told =
      let c = told.c in
      subst (λ n. GoesOn (own n answers)
      × IfKnown s gone.stream (λ came went. GetsUntil gone.why came went (own n answers))) told.number (
        goes_on answers c gone.why told.served,
        subst (λ stream. IfKnown s stream (λ came went. GetsUntil gone.why came went (own c.number answers)))
            told.stream
            (known c.stream (λ came went. GetsUntil gone.why came went (own c.number answers))
            (λ came went came_is went_is. until answers c came went came_is went_is gone.why told.served told.why)),
      )

  each : (answers : List Answer) (port : Port S) → Runs s answers port → EachGets s answers port
  each answers port running = record {
    in_place = λ i. if_more (slice_index_or port.hall.places.items i None) (λ c is. (
      is.hand.served.ends,
      known c.stream (λ came went. GetsSoFar came (went ++ c.owed.items) (own c.number answers))
          (λ came went came_is went_is. in_place answers c came went came_is went_is is.hand.served),
    )) (running.in_place i);
    over = if_more port.traffic (λ traffic over. all_more traffic.over (gone_gets port.hall.bounds.patience answers)
        over.told) running.over;
  }

  pub each_gets : (limit : ℕ) (old_style before : List Request) (told : List Answer) (turns : List Turn)
      (port : Port S) → AreTurns limit old_style before turns → Runs s (told ++ answers_in turns) port
      → EachGets s (told ++ answers_after old_style before turns) port
  each_gets limit old_style before told turns port are running =
      subst (λ answers. EachGets s (told ++ answers) port) (answers_are limit old_style before turns are)
      (each (told ++ answers_in turns) port running)
