-- A step is a connection on which its arrival came alone.
use Rattle.std.proofs.Common.{◌≡◌, ℕ, false, List, [], ◌∷◌, ◌++◌, length, take, drop, refl, sym, ap, ◌∙◌, subst}
use Rattle.std.proofs.Common.{arith, inl, inr}
use Rattle.std.proofs.Math.Seq.{take-length}
use Rattle.std.proofs.lemmas.Bool.{cases_Bool}
use Rattle.std.proofs.lemmas.Grind.{common_steps}
use Rattle.std.specs.Prelude.{if◌then◌else◌}
use Rattle.http_messages.specs.Head.{closes}
use Rattle.http_messages.specs.Message.{Arrival, Read, Refused, Ending, Rest, BeginsRequest, IsRefused, ArrivalsThen}
use Rattle.http_messages.specs.Message.{HasArrivals}
use Rattle.http_messages.specs.Request.{Request as Message}
use Rattle.http_messages.specs.declared.refusal.Refusal.{Refusal}
use Rattle.http_messages.specs.declared.refusal.Refusal.TheVariants.{HeadTooLarge, Head}
use Rattle.http_messages.proofs.MoreBytes.{IsBlockEnd-within}
use Rattle.filing_model.specs.declared.served.Ended.{Ended}
use Rattle.filing_model.specs.declared.served.Ended.TheVariants.{Closed, InputEnded, Fault}
use Rattle.filing_model.specs.declared.served.Mark.{Mark}
use Rattle.filing_model.specs.Prefix.{IsPrefixOf}
use Rattle.filing_model.specs.Request.{Request, firsts}
use Rattle.filing_model.specs.Serving.{AnyFollows, AreMarked, IsCutShort, IsServed, Keeping, Serves, keeping, kept_by}
use Rattle.filing_model.specs.Serving.{end_of}
use Rattle.filing_model.specs.Steps.{Step, StepsFit, all_completed, text_of_step}
use Rattle.filing_model.specs.Text.{MarkFits, MarksFit, completed, completed_at, interim_of, next_interim}
use Rattle.filing_model.specs.Text.{reply_text_with, text_with}
use Rattle.filing_model.proofs.Alike.{firsts_alike, marks_fit_alike, text_alike}
use Rattle.filing_model.proofs.Appending.{firsts-kept_by, kept_by-append}
use Rattle.filing_model.proofs.Lists.{append_nil}
use Rattle.filing_model.proofs.Steps.{completed_more}
use Rattle.gateway_server.specs.Connections.{ServeInTurn}
use Rattle.gateway_server.specs.Connections.{Connection}
use Rattle.gateway_server.specs.Steps.{AreOfSteps, BeginsArrival, GetsText, end_behind}
use Rattle.gateway_server.proofs.FirstBytes.{BeginsRequest-spells}

-- ---- its bytes

none_begins : (message : Message) (n : ℕ) → ¬ (BeginsRequest [] message n)
none_begins message n b = let within = IsBlockEnd-within [] b.head_len b.head.block in
    absurd (omega (arith, within.0))

none_refused : (refusal : Refusal) → ¬ (IsRefused [] refusal)
none_refused HeadTooLarge t = absurd (omega (arith, t.full))
none_refused (Head fault) r = let within = IsBlockEnd-within [] r.0 r.1 in absurd (omega (arith, within.0))

nothing : HasArrivals [] [] (Rest false)
nothing = (
  false,
  record { none = none_begins; refused = none_refused },
  λ parts n h. absurd (let within = IsBlockEnd-within [] n h.block in omega (arith, within.0)),
  refl,
)

drop_whole : (bytes : List ℕ) → drop (length bytes) bytes ≡ []
drop_whole bytes = grind (arith, common_steps)

-- how the arrivals end if this one is the last, and nothing comes behind it
ending_behind : Arrival → Ending
ending_behind (Read message) = if closes message.head then Ending.Closed else Rest false
ending_behind (Refused refusal) = Ending.Closed

ends : (arrival : Arrival) → end_behind arrival ≡ end_of (ending_behind arrival)
unfolding ending_behind
ends (Read message) = elim (cases_Bool (closes message.head)) [
  | inl closed ↦ rw closed refl
  | inr open' ↦ rw open' refl
]
ends (Refused refusal) = refl

silent : (arrival : Arrival) → next_interim [] (ending_behind arrival) ≡ []
unfolding ending_behind
silent (Read message) = elim (cases_Bool (closes message.head)) [
  | inl closed ↦ rw closed refl
  | inr open' ↦ rw open' refl
]
silent (Refused refusal) = refl

module _ (bytes : List ℕ) (n : ℕ) where
  arrives : (arrival : Arrival) → BeginsArrival bytes arrival n
      → HasArrivals (take n bytes) (arrival ∷ []) (ending_behind arrival)
  unfolding ending_behind
  arrives (Read message) begins = (
    length (take n bytes),
    BeginsRequest-spells bytes message n begins,
    λ closed. (refl, rw closed refl),
    λ open'. rw open' (subst (λ bs. HasArrivals bs [] (Rest false)) (sym (drop_whole (take n bytes))) nothing),
  )
  arrives (Refused refusal) begins = (
    subst (λ bs. IsRefused bs refusal) (sym (ap (λ k. take k bytes) begins.1 ∙ take-length bytes)) begins.0,
    refl,
    refl,
  )

  pub arrives_first : (arrival : Arrival) → BeginsArrival bytes arrival n
      → ArrivalsThen AnyFollows (take n bytes) (arrival ∷ []) Ending.Closed
  arrives_first (Read message) begins =
      (length (take n bytes), BeginsRequest-spells bytes message n begins, (λ closed. (refl, refl)), λ open'. tt)
  arrives_first (Refused refusal) begins = (
    subst (λ bs. IsRefused bs refusal) (sym (ap (λ k. take k bytes) begins.1 ∙ take-length bytes)) begins.0,
    refl,
    refl,
  )

-- ---- its text

-- served to its end, it was served
whole : (requests : Keeping) (bytes : List ℕ) (marks : List Mark) (arrival : Arrival) (out : List ℕ)
    → IsServed requests bytes marks (end_behind arrival) out → Serves requests bytes marks (end_behind arrival) out
whole requests bytes marks (Read message) out served = elim (cases_Bool (closes message.head)) [
  | inl closed ↦ rw closed (rw closed at served)
  | inr open' ↦ rw open' (rw open' at served)
]
whole requests bytes marks (Refused refusal) out served = served

-- after requests that have the same firsts as those that are kept
module _ (limit : ℕ) (old_style now plain after : List Request) (same : firsts now ≡ firsts plain) (step : Step)
    (fit : MarkFits limit plain step.arrival step.mark)
    (kept : after ≡ kept_by now (completed_at step.arrival step.mark)) where
  abbrev arrivals : List Arrival
  arrivals = step.arrival ∷ []

  abbrev marks : List Mark
  marks = step.mark ∷ []

  one_text : (ending : Ending) → next_interim [] ending ≡ []
      → text_with old_style now arrivals ending marks ≡ text_of_step old_style plain step
  unfolding text_with
  one_text ending none =
      text_alike old_style now plain same arrivals ending marks
      ∙ ap (λ t. interim_of step.arrival ++ (reply_text_with old_style plain step.arrival step.mark ++ t)) none
      ∙ ap (λ t. interim_of step.arrival ++ t) (append_nil (reply_text_with old_style plain step.arrival step.mark))

  one_marked : AreMarked limit now arrivals marks
  unfolding MarksFit
  one_marked = record { all = refl; fit = marks_fit_alike limit plain now (sym same) arrivals marks (fit, tt) }

  one_kept : after ≡ kept_by now (completed arrivals marks)
  unfolding completed
  one_kept = kept ∙ ap (kept_by now) (sym (append_nil (completed_at step.arrival step.mark)))

  module _ (bytes : List ℕ) (n : ℕ) (begins : BeginsArrival bytes step.arrival n) where
    pub step_served : Serves (keeping limit old_style now after) (take n bytes) marks (end_behind step.arrival)
        (text_of_step old_style plain step)
    step_served =
        whole (keeping limit old_style now after) (take n bytes) marks step.arrival (text_of_step old_style plain step)
        (record {
          arrivals = arrivals;
          ending = ending_behind step.arrival;
          splits = arrives bytes n step.arrival begins;
          marked = one_marked;
          written = sym (one_text (ending_behind step.arrival) (silent step.arrival));
          kept = one_kept;
          end = ends step.arrival;
        })

    pub step_cut_short : (out : List ℕ) → IsPrefixOf out (text_of_step old_style plain step)
        → IsCutShort (keeping limit old_style now after) (take n bytes) marks out
    step_cut_short out front = record {
      arrivals = arrivals;
      ending = Ending.Closed;
      begins = arrives_first bytes n step.arrival begins;
      marked = one_marked;
      written = subst (IsPrefixOf out) (sym (one_text Ending.Closed refl)) front;
      kept = one_kept;
    }

    -- whatever it got of its text
    step_gets : (ended : Ended) (out : List ℕ)
        → GetsText (text_of_step old_style plain step) (end_behind step.arrival) ended out
        → Serves (keeping limit old_style now after) (take n bytes) marks ended out
    step_gets Closed out gets =
        subst (λ text. Serves (keeping limit old_style now after) (take n bytes) marks Closed text) (sym gets.1)
        (subst (λ ended. Serves (keeping limit old_style now after) (take n bytes) marks ended (text_of_step old_style
        plain step)) gets.0 step_served)
    step_gets InputEnded out gets =
        subst (λ text. Serves (keeping limit old_style now after) (take n bytes) marks InputEnded text) (sym gets.1)
        (subst (λ ended. Serves (keeping limit old_style now after) (take n bytes) marks ended (text_of_step old_style
        plain step)) gets.0 step_served)
    step_gets (Fault fault) out gets = step_cut_short out gets

-- ---- one after another

module _ (limit : ℕ) (old_style : List Request) where
  steps_in_turn : (now plain after : List Request) (steps : List Step) (connections : List Connection)
      → firsts now ≡ firsts plain → after ≡ kept_by now (all_completed steps) → StepsFit limit plain steps
      → AreOfSteps old_style plain steps connections → ServeInTurn (keeping limit old_style now after) connections
  steps_in_turn now plain after [] [] same kept fit are = kept
  steps_in_turn now plain after [] (connection ∷ connections) same kept fit are = absurd are
  steps_in_turn now plain after (step ∷ steps) [] same kept fit are = absurd are
  steps_in_turn now plain after (step ∷ steps) (connection ∷ connections) same kept fit are =
      let done = completed_at step.arrival step.mark in
      let between = kept_by now done in
      let is = are.0 in
      let serves =
      step_gets limit old_style now plain between same step fit.0 refl is.came is.count is.begins
      connection.output.ended connection.output.bytes is.gets in (
        between,
        subst (λ bytes. Serves (keeping limit old_style now between) bytes connection.output.marks
            connection.output.ended connection.output.bytes) (sym is.read)
            (subst (λ marks. Serves (keeping limit old_style now between) (take is.count is.came) marks
            connection.output.ended connection.output.bytes) (sym is.marks) serves),
        steps_in_turn between (plain ++ done) after steps connections
            (firsts-kept_by now done ∙ firsts_alike now plain same done)
            (kept ∙ sym (kept_by-append now done (all_completed steps))) fit.1 are.1,
      )

pub in_turn : (limit : ℕ) (old_style before : List Request) (steps : List Step) (connections : List Connection)
    → StepsFit limit before steps → AreOfSteps old_style before steps connections
    → ServeInTurn (keeping limit old_style before (kept_by before (all_completed steps))) connections
in_turn limit old_style before steps connections =
    steps_in_turn limit old_style before before (kept_by before (all_completed steps)) steps connections refl refl

-- ---- after other steps

pub kept_more : (before : List Request) (steps : List Step) (step : Step)
    → kept_by before (all_completed (steps ++ step ∷ []))
    ≡ kept_by (kept_by before (all_completed steps)) (completed_at step.arrival step.mark)
kept_more before steps step =
    ap (kept_by before) (completed_more steps step)
    ∙ sym (kept_by-append before (all_completed steps) (completed_at step.arrival step.mark))
