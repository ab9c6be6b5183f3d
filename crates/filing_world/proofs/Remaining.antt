-- An entry remains over every run.
use Rattle.std.proofs.Common.{◌≡◌, ◌≢◌, ℕ, true, false, List, [], ◌∷◌, Option, Some, None, refl, sym, ap, ◌∙◌, subst}
use Rattle.std.proofs.Common.{⊎_elim}
use Rattle.std.proofs.lemmas.Bool.{cases_Bool}
use Rattle.http_messages.specs.Reply.{ReplyParts}
use Rattle.filing_model.specs.Outbox.{State, Open, Confirmed, Refused, Clashed, moved, Entry}
use Rattle.filing_model.specs.Stopping.{Crash}
use Rattle.filing_world.specs.World.{Outbox, World, Event, Put, Send, Stranger, Deliver, Hand, RestartServer}
use Rattle.filing_world.specs.World.{RestartOutbox, numbered, renewed}
use Rattle.filing_world.specs.Step.{takes, with_entry, heard_by, box_after, Step, Run}
use Rattle.filing_world.specs.Laws.{Remains}
use Rattle.filing_world.proofs.Lists.{renewed_numbered, renewed_other, numbered_grows, same_element}

-- a settled state is moved by nothing that is heard
settled_stays : (state : State) (heard : Option ReplyParts) → state ≢ Open → heard_by state heard ≡ state
unfolding moved
settled_stays state None settled = refl
settled_stays Open (Some reply) settled = absurd (settled refl)
settled_stays (Confirmed n) (Some reply) settled = refl
settled_stays Refused (Some reply) settled = refl
settled_stays Clashed (Some reply) settled = refl

-- ---- one outbox

-- an entry after another
record IsSame (old new : Entry) : Type 0 where
  key : new.key ≡ old.key
  target : new.target ≡ old.target
  body : new.body ≡ old.body
  settled : old.state ≢ Open → new.state ≡ old.state

same_entry : (entry : Entry) → IsSame entry entry
same_entry entry = record { key = refl; target = refl; body = refl; settled = λ _. refl }

-- an outbox after another
abbrev IsLater : Outbox → Outbox → Type 0
IsLater old new =
    (new.filer ≡ old.filer) × ((number : ℕ) (entry : Entry) → numbered old.entries number ≡ Some entry
    → (now : Entry) × (numbered new.entries number ≡ Some now) × IsSame entry now)

later_put : (box : Outbox) (entry : Entry) → IsLater box (with_entry box entry)
later_put box entry = ⊎_elim
    (λ (h : takes box entry ≡ true). rw h (
      refl,
      λ number which here. (
        which,
        numbered_grows box.entries (entry ∷ []) number which here,
        same_entry which,
      ),
    ))
    (λ (h : takes box entry ≡ false). rw h (refl, λ number which here. (which, here, same_entry which)))
    (cases_Bool (takes box entry))

later_heard : (box : Outbox) (number : ℕ) (entry : Entry) (heard : Option ReplyParts) (crash : Crash)
    → numbered box.entries number ≡ Some entry → IsLater box (box_after box number entry heard crash)
later_heard box number entry heard crash here = (refl, each)
  where
    now : Entry
    now = record entry { state = heard_by entry.state heard }

    each : (other : ℕ) (which : Entry) → numbered box.entries other ≡ Some which
        → (still : Entry) × (numbered (renewed box.entries number now) other ≡ Some still) × IsSame which still
    each other which there = ⊎_elim
        (λ (e : other ≡ number).
        let same : entry ≡ which =
        same_element (numbered box.entries number) entry which here
        (subst (λ k. numbered box.entries k ≡ Some which) e there) in (
          now,
          subst (λ k. numbered (renewed box.entries number now) k ≡ Some now) (sym e)
              (renewed_numbered box.entries number now entry here),
          subst (λ (x : Entry). IsSame x now) same it_is,
        ))
        (λ (e : numbered (renewed box.entries number now) other ≡ Some which). (which, e, same_entry which))
        (renewed_other box.entries number other now which there)
      where
        it_is : IsSame entry now
        it_is = record { key = refl; target = refl; body = refl; settled = settled_stays entry.state heard }

-- ---- all outboxes

abbrev AllRemain : List Outbox → World → Type 0
AllRemain boxes new = (outbox number : ℕ) (box : Outbox) (entry : Entry) → numbered boxes outbox ≡ Some box
    → numbered box.entries number ≡ Some entry → Remains new outbox number box.filer entry

all_same : (boxes : List Outbox) (new : World) → new.outboxes ≡ boxes → AllRemain boxes new
all_same boxes new same outbox number box entry here there = record {
  box = box;
  here = ap (λ bs. numbered bs outbox) same ∙ here;
  filer' = refl;
  still = entry;
  there = there;
  key = refl;
  target = refl;
  body = refl;
  settled = λ _. refl;
}

one_later : (boxes : List Outbox) (outbox : ℕ) (old later : Outbox) (new : World) → numbered boxes outbox ≡ Some old
    → IsLater old later → new.outboxes ≡ renewed boxes outbox later → AllRemain boxes new
one_later boxes outbox old later new here is becomes which number box entry at there = ⊎_elim
    (λ (e : which ≡ outbox).
    let same : old ≡ box =
    same_element (numbered boxes outbox) old box here (subst (λ o. numbered boxes o ≡ Some box) e at) in
    let now = is.1 number entry (subst (λ (b : Outbox). numbered b.entries number ≡ Some entry) (sym same) there) in
    record {
      box = later;
      here = ap (λ bs. numbered bs which) becomes
          ∙ subst (λ o. numbered (renewed boxes outbox later) o ≡ Some later) (sym e)
          (renewed_numbered boxes outbox later old here);
      filer' = is.0 ∙ ap (λ (b : Outbox). b.filer) same;
      still = now.0;
      there = now.1;
      key = now.2.key;
      target = now.2.target;
      body = now.2.body;
      settled = now.2.settled;
    })
    (λ (e : numbered (renewed boxes outbox later) which ≡ Some box). all_same (renewed boxes outbox later) new becomes
    which number box entry e there)
    (renewed_other boxes outbox which later box at)

step_remains : (old : World) (event : Event) (new : World) → Step old event new → AllRemain old.outboxes new
step_remains old (Put outbox key target body) new step =
    let entry : Entry = record { key = key; target = target; body = body; state = Open } in
    one_later old.outboxes outbox step.box (with_entry step.box entry) new step.here (later_put step.box entry)
    (ap (λ (w : World). w.outboxes) step.becomes)
step_remains old (Send outbox entry) new step = all_same old.outboxes new (ap (λ (w : World). w.outboxes) step.becomes)
step_remains old (Stranger bytes) new step = all_same old.outboxes new (ap (λ (w : World). w.outboxes) step)
step_remains old (Deliver item given crash) new step =
    all_same old.outboxes new (ap (λ (w : World). w.outboxes) step.becomes)
step_remains old (Hand output given crash) new step =
    one_later old.outboxes step.outbox step.box (box_after step.box step.number step.entry step.heard crash) new
    step.box_here
    (later_heard step.box step.number step.entry step.heard crash step.entry_here)
    (ap (λ (w : World). w.outboxes) step.becomes)
step_remains old RestartServer new step = all_same old.outboxes new (ap (λ (w : World). w.outboxes) step)
step_remains old (RestartOutbox outbox) new step =
    one_later old.outboxes outbox step.box (record step.box { up = true }) new step.here (
      refl,
      λ number entry here. (entry, here, same_entry entry),
    ) (ap (λ (w : World). w.outboxes) step.becomes)

-- what remains of what remains does
remains_on : (between new : World) (outbox number : ℕ) (filer : List ℕ) (entry : Entry)
    → (first : Remains between outbox number filer entry) → Remains new outbox number first.box.filer first.still
    → Remains new outbox number filer entry
remains_on between new outbox number filer entry first second = record {
  box = second.box;
  here = second.here;
  filer' = second.filer' ∙ first.filer';
  still = second.still;
  there = second.there;
  key = second.key ∙ first.key;
  target = second.target ∙ first.target;
  body = second.body ∙ first.body;
  settled = λ settled.
      let same = first.settled settled in
      second.settled (λ open'. settled (sym same ∙ open')) ∙ same;
}

pub run_remains : (old new : World) (events : List Event) (outbox number : ℕ) (box : Outbox) (entry : Entry)
    → Run old events new → numbered old.outboxes outbox ≡ Some box → numbered box.entries number ≡ Some entry
    → Remains new outbox number box.filer entry
run_remains old new [] outbox number box entry run here there =
    all_same old.outboxes new (ap (λ (w : World). w.outboxes) run) outbox number box entry here there
run_remains old new (event ∷ events) outbox number box entry run here there =
    let first = step_remains old event run.0 run.1 outbox number box entry here there in
    remains_on run.0 new outbox number box.filer entry first
    (run_remains run.0 new events outbox number first.box first.still run.2 first.here first.there)
