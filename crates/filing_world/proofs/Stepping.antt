-- What every step does.
use Rattle.std.proofs.Common.{◌≡◌, ◌≢◌, ◌⊎◌, ◌↔◌, ℕ, ◌<◌, ◌≤◌, ◌-◌, Bool, true, false, List, [], ◌∷◌, ◌++◌, length}
use Rattle.std.proofs.Common.{take, drop, min, max, Option, Some, None, refl, sym, ap, ◌∙◌, subst, ⊎_elim, inl, inr}
use Rattle.std.proofs.Common.{arith, length-append}
use Rattle.std.proofs.lemmas.Option.{some_pair_parts}
use Rattle.std.specs.Prelude.{bytes_eq}
use Rattle.std.specs.List.{list_any}
use Rattle.std.proofs.lemmas.Bool.{le-leb}
use Rattle.std.proofs.lemmas.Bool.Decides.{nat_tests}
use Rattle.std.proofs.lemmas.Slice.Eq.{bytes_eq-Decides}
use Rattle.http_messages.specs.Head.{max_body_len}
use Rattle.std.proofs.lemmas.Grind.{common_steps}
use Rattle.std.proofs.lemmas.List.{take-append-drop}
use Rattle.key_string.specs.Key.{IsKey}
use Rattle.http_messages.specs.Message.{Arrival, Ending}
use Rattle.http_messages.specs.Reads.{max_reads}
use Rattle.http_messages.specs.Reply.{ReplyParts}
use Rattle.http_messages.specs.Request.{Request as Message}
use Rattle.http_messages.specs.Response.{GivesReply, BeginsReply}
use Rattle.http_messages.proofs.UniqueReply.{BeginsReply-more, BeginsReply-unique}
use Rattle.http_messages.specs.Posting.{IsTarget}
use Rattle.filing_model.specs.declared.served.Mark.{Mark}
use Rattle.filing_model.specs.declared.served.Mark.TheVariants.{Done, Unavailable, NotFiled}
use Rattle.filing_model.specs.declared.served.Ended.{Ended}
use Rattle.filing_model.specs.Request.{Request}
use Rattle.filing_model.specs.Outbox.{State, Open, moved, Entry, IsSendable, request_of, bytes_of}
use Rattle.filing_model.specs.Serving.{BeginsArrivals}
use Rattle.filing_model.specs.Stopping.{Crash, No, Before, After, marked, IsWhole, IsCut, ServesUntil}
use Rattle.filing_model.specs.Text.{Route, Reject, ListFilings, FileReport, route, requests_of_route, completed}
use Rattle.filing_model.specs.Text.{completed_at}
use Rattle.filing_model.proofs.Lists.{append_nil, take_take}
use Rattle.filing_model.proofs.Stopping.{serves_begin}
use Rattle.filing_world.specs.World.{World, Outbox, Output, Sent, Put, Send, Deliver, Hand, RestartOutbox, numbered}
use Rattle.filing_world.specs.World.{renewed}
use Rattle.filing_world.specs.Step.{is_no, with_entry, Hears, heard_by, box_after, Step, IsAway, CannotPlay}
use Rattle.filing_world.specs.Headline.{HasEntry, states}
use Rattle.filing_world.specs.Laws.{AddsAtMost, IsDelivered, IsAnswerTo, IsDown}
use Rattle.filing_world.proofs.Posting.{FilesAlone}
use Rattle.filing_world.proofs.Hearing.{hears_gives}
use Rattle.filing_world.proofs.Lists.{renewed_numbered, same_element, any_none}
use Rattle.filing_world.proofs.Never.{still}
use Rattle.filing_world.proofs.Posting.{posted, own_front, never_whole, never_refused}

-- ---- what can be played

pub can_put : (old : World) (outbox : ℕ) (box : Outbox) (key : List ℕ) (target : Option ℕ) (body : List ℕ)
    → numbered old.outboxes outbox ≡ Some box → box.up ≡ true → IsKey key → IsTarget target
    → (new : World) × Step old (Put outbox key target body) new
can_put old outbox box key target body here up is_key is_target = (
  record old {
    outboxes = renewed old.outboxes outbox
        (with_entry box (record { key = key; target = target; body = body; state = Open }));
  },
  record { is_key = is_key; is_target = is_target; box = box; here = here; up = up; becomes = refl },
)

pub can_send : (old : World) (outbox number : ℕ) (box : Outbox) (entry : Entry)
    → numbered old.outboxes outbox ≡ Some box → box.up ≡ true → numbered box.entries number ≡ Some entry
    → (new : World) × Step old (Send outbox number) new
    × (new.sent ≡ old.sent ++ record {
      from = Some (outbox, number);
      bytes =
          bytes_of (request_of box.filer entry);
    } ∷ [])
can_send old outbox number box entry here up there = (
  record old {
    sent = old.sent ++ record {
      from = Some (outbox, number);
      bytes =
          bytes_of (request_of box.filer entry);
    } ∷ [];
  },
  record { box = box; here = here; up = up; what = entry; there = there; becomes = refl },
  refl,
)

pub can_restart : (old : World) (outbox : ℕ) (box : Outbox) → numbered old.outboxes outbox ≡ Some box
    → (new : World) × Step old (RestartOutbox outbox) new
    × (numbered new.outboxes outbox ≡ Some (record box { up = true }))
can_restart old outbox box here = (
  record old { outboxes = renewed old.outboxes outbox (record box { up = true }) },
  record { box = box; here = here; becomes = refl },
  renewed_numbered old.outboxes outbox (record box { up = true }) box here,
)

pub put_adds : (old new : World) (outbox : ℕ) (box : Outbox) (key : List ℕ) (target : Option ℕ) (body : List ℕ)
    → numbered old.outboxes outbox ≡ Some box → length body ≤ max_body_len
    → ((number : ℕ) (entry : Entry) → numbered box.entries number ≡ Some entry → entry.key ≢ key)
    → Step old (Put outbox key target body) new → numbered new.outboxes outbox
    ≡ Some (record box {
      entries = box.entries ++ record {
        key = key;
        target = target;
        body = body;
        state =
            Open;
      } ∷ [];
    })
put_adds old new outbox box key target body here short unused step = there ∙ ap Some with_it
  where
    entry : Entry
    entry = record { key = key; target = target; body = body; state = Open }

    is : step.box ≡ box
    is = same_element (numbered old.outboxes outbox) step.box box step.here here

    there : numbered new.outboxes outbox ≡ Some (with_entry box entry)
    there = ap (λ (w : World). numbered w.outboxes outbox) step.becomes
        ∙ renewed_numbered old.outboxes outbox (with_entry step.box entry) step.box step.here
        ∙ ap (λ b. Some (with_entry b entry)) is

    none : list_any (λ e. bytes_eq e.key key) box.entries ≡ false
    none = any_none (λ e. bytes_eq e.key key) box.entries
        (λ number which at same. unused number which at ((bytes_eq-Decides which.key key).0 same))

    with_it : with_entry box entry ≡ record box { entries = box.entries ++ entry ∷ [] }
    with_it = rw (le-leb (length body) max_body_len short, none) refl

-- ---- what a delivery completes

few_of_route : (to : Route) (mark : Mark) → length (requests_of_route to mark) ≤ 1
few_of_route (FileReport r) Done = omega arith
few_of_route (FileReport r) Unavailable = omega arith
few_of_route (FileReport r) NotFiled = omega arith
few_of_route (ListFilings filer number) mark = omega arith
few_of_route (Reject reply) mark = omega arith

few_at : (arrival : Arrival) (mark : Mark) → length (completed_at arrival mark) ≤ 1
few_at (Arrival.Read m) mark = few_of_route (route m) mark
few_at (Arrival.Refused refusal) mark = omega arith

few_completed : (arrivals : List Arrival) (marks : List Mark) → length (completed arrivals marks) ≤ length marks
unfolding completed
few_completed [] marks = omega arith
few_completed (arrival ∷ arrivals) [] = omega arith
few_completed (arrival ∷ arrivals) (mark ∷ marks) =
    omega (
      arith,
      few_at arrival mark,
      few_completed arrivals marks,
      length-append (completed_at arrival mark) (completed arrivals marks),
    )

few_marks : (limit : ℕ) (done : List Request) (bytes : List ℕ) (crash : Crash) (arrivals : List Arrival)
    (marks : List Mark) (ended : Option Ended) (out : List ℕ)
    → ServesUntil limit done bytes crash arrivals marks ended out → length marks ≤ marked crash (length arrivals)
few_marks limit done bytes crash arrivals marks ended out serves = ⊎_elim
    (λ (e : IsWhole done bytes crash arrivals serves.ending marks ended out). omega (arith, e.all))
    (λ (e : IsCut done bytes crash arrivals serves.ending marks ended out). e.few)
    serves.gives

marked-before : (j n : ℕ) → marked (Before j) n ≤ j - 1
marked-before j n = grind (arith, nat_tests)

marked-after : (j n : ℕ) → marked (After j) n ≤ max 1 j
marked-after j n = grind (arith, nat_tests)

pub adds_at_most : (old new : World) (item given : ℕ) (crash : Crash) (n : ℕ)
    → ((arrivals : ℕ) → marked crash arrivals ≤ n) → Step old (Deliver item given crash) new → AddsAtMost n old new
adds_at_most old new item given crash n bound step = record {
  more = completed step.arrivals step.marks;
  adds = ap (λ (w : World). w.done) step.becomes;
  few =
      let marks =
      few_marks old.limit old.done (take given step.from.bytes) crash step.arrivals step.marks step.ended step.out
      step.serves in
      omega (arith, marks, bound (length step.arrivals), few_completed step.arrivals step.marks);
}

pub before_at_most : (old new : World) (item given j : ℕ) → Step old (Deliver item given (Before j)) new
    → AddsAtMost (j - 1) old new
before_at_most old new item given j step = adds_at_most old new item given (Before j) (j - 1) (marked-before j) step

pub after_at_most : (old new : World) (item given j : ℕ) → Step old (Deliver item given (After j)) new
    → AddsAtMost (max 1 j) old new
after_at_most old new item given j step = adds_at_most old new item given (After j) (max 1 j) (marked-after j) step

nothing_more : (more : List Request) → length more ≤ 0 → more ≡ []
nothing_more [] none = refl
nothing_more (r ∷ more) none = absurd (omega (arith, none))

pub before_the_first : (old new : World) (item given j : ℕ) → j ≤ 1 → Step old (Deliver item given (Before j)) new
    → new.done ≡ old.done
before_the_first old new item given j first step =
    let adds = before_at_most old new item given j step in
    adds.adds ∙ ap (λ more. old.done ++ more) (nothing_more adds.more (omega (arith, adds.few, first)))
    ∙ append_nil old.done

-- ---- an entry's request

module _ (old new : World) (item given : ℕ) (crash : Crash) (from : Sent) (r : Request)
    (here : numbered old.sent item ≡ Some from) (sendable : IsSendable r) (own : from.bytes ≡ bytes_of r)
    (step : Step old (Deliver item given crash) new) where
  begins : BeginsArrivals (take given (bytes_of r)) step.arrivals step.serves.ending
  begins =
      let is : step.from ≡ from = same_element (numbered old.sent item) step.from from step.here here in
      subst (λ bytes. BeginsArrivals (take given bytes) step.arrivals step.serves.ending) (ap (λ (x : Sent). x.bytes) is
      ∙ own)
      (serves_begin old.limit old.done (take given step.from.bytes) crash step.arrivals step.marks step.ended step.out
      step.serves)

  grows : (more : List Request) → completed step.arrivals step.marks ≡ more → new.done ≡ old.done ++ more
  grows more is = ap (λ (w : World). w.done) step.becomes ∙ ap (λ rest. old.done ++ rest) is

  same : completed step.arrivals step.marks ≡ [] → new.done ≡ old.done
  same is = grows [] is ∙ append_nil old.done

  none_of : (marks : List Mark) → completed [] marks ≡ []
  unfolding completed
  none_of marks = refl

  one_or_none : (mark : Mark) → (requests_of_route (FileReport r) mark ≡ [])
      ⊎ (requests_of_route (FileReport r) mark ≡ r ∷ [])
  one_or_none Done = inr refl
  one_or_none Unavailable = inl refl
  one_or_none NotFiled = inl refl

  one_of : (m : Message) → FilesAlone m r → (marks : List Mark)
      → (completed (Arrival.Read m ∷ []) marks ≡ []) ⊎ (completed (Arrival.Read m ∷ []) marks ≡ r ∷ [])
  unfolding completed
  one_of m alone [] = inl refl
  one_of m alone (mark ∷ marks) =
      let told : requests_of_route (route m) mark ++ [] ≡ requests_of_route (FileReport r) mark =
      append_nil _ ∙ ap (λ to. requests_of_route to mark) alone.filed in
      ⊎_elim
      (λ (e : requests_of_route (FileReport r) mark ≡ []). inl (told ∙ e))
      (λ (e : requests_of_route (FileReport r) mark ≡ r ∷ []). inr (told ∙ e))
      (one_or_none mark)

  pub of_an_entry : (new.done ≡ old.done) ⊎ (new.done ≡ old.done ++ r ∷ [])
  of_an_entry = ⊎_elim
      (λ (e : (step.arrivals ≡ []) × ((step.serves.ending ≡ Ending.Closed) ⊎ (step.serves.ending ≡ Ending.Rest false))).
      inl (same (ap (λ ps. completed ps step.marks) e.0 ∙ none_of step.marks)))
      (λ (e : (m : Message) × (step.arrivals ≡ Arrival.Read m ∷ []) × (step.serves.ending
      ≡ Ending.Closed) × FilesAlone m r).
      let is = ap (λ ps. completed ps step.marks) e.1 in
      ⊎_elim
      (λ (none : completed (Arrival.Read e.0 ∷ []) step.marks ≡ []). inl (same (is ∙ none)))
      (λ (one : completed (Arrival.Read e.0 ∷ []) step.marks ≡ r ∷ []). inr (grows (r ∷ []) (is ∙ one)))
      (one_of e.0 e.3 step.marks))
      (own_front r (posted r sendable) given step.arrivals step.serves.ending begins)

  pub of_a_cut : given < length from.bytes → new.done ≡ old.done
  of_a_cut short = same (by_arrivals step.arrivals step.serves.ending begins)
    where
      size : given < length (bytes_of r)
      size = omega (arith, short, ap length own)

      by_arrivals : (arrivals : List Arrival) (ending : Ending)
          → BeginsArrivals (take given (bytes_of r)) arrivals ending → completed arrivals step.marks ≡ []
      by_arrivals [] ending front = none_of step.marks
      by_arrivals (Arrival.Read m ∷ arrivals) ending front =
          absurd (never_whole r (posted r sendable) given size m front.0 front.1)
      by_arrivals (Arrival.Refused refusal ∷ arrivals) ending front =
          absurd (never_refused r (posted r sendable) given refusal front.0)

-- ---- a stop

-- an end is up where it did not stop
up_unless : (crash : Crash) → (is_no crash ≡ true) ↔ (crash ≡ No)
up_unless No = (λ _. refl, λ _. refl)
up_unless (Before j) = (λ (e : false ≡ true). absurd (cc), λ (e : Before j ≡ No). absurd (cc))
up_unless (After j) = (λ (e : false ≡ true). absurd (cc), λ (e : After j ≡ No). absurd (cc))

down_if : (crash : Crash) → crash ≢ No → (up : Bool) → (up ≡ true) ↔ (crash ≡ No) → up ≡ false
down_if crash stops true is = absurd (stops (is.0 refl))
down_if crash stops false is = refl

pub intake_up : (old new : World) (item given : ℕ) (crash : Crash) → Step old (Deliver item given crash) new
    → (new.up ≡ true) ↔ (crash ≡ No)
intake_up old new item given crash step =
    subst (λ (b : Bool). (b ≡ true) ↔ (crash ≡ No)) (ap (λ (w : World). w.up) (sym step.becomes)) (up_unless crash)

pub intake_down : (old new : World) (item given : ℕ) (crash : Crash) → Step old (Deliver item given crash) new
    → crash ≢ No → (another more : ℕ) (again : Crash) → CannotPlay new (Deliver another more again)
intake_down old new item given crash step stops another more again =
    inl (down_if crash stops new.up (intake_up old new item given crash step))

-- ---- what an output tells

length-take : (n : ℕ) (xs : List ℕ) → length (take n xs) ≡ min n (length xs)
length-take n xs = grind (arith, common_steps)

pub tells : (old new : World) (item given : ℕ) (crash : Crash) (from : Sent) → numbered old.sent item ≡ Some from
    → Step old (Deliver item given crash) new
    → (output : Output) × IsDelivered old item given crash from output new
tells old new item given crash from here step =
    subst (λ (x : Sent). (output : Output) × IsDelivered old item given crash x output new) is (
      record {
        item = item;
        given = length (take given step.from.bytes);
        before = length old.done;
        marks =
            step.marks;
        ended = step.ended;
        bytes = step.out;
      },
      record {
        adds = ap (λ (w : World). w.outputs) step.becomes;
        which = refl;
        came = length-take given step.from.bytes;
        after = refl;
        arrivals = step.arrivals;
        serves = subst (λ bytes. ServesUntil old.limit old.done bytes crash step.arrivals step.marks step.ended
            step.out)
            (sym (take_take given step.from.bytes)) step.serves;
        completes = ap (λ (w : World). w.done) step.becomes;
      },
    )
  where
    is : step.from ≡ from
    is = same_element (numbered old.sent item) step.from from step.here here

-- ---- a reply that is handed over

deaf_before : (bytes : List ℕ) (j : ℕ) (heard : Option ReplyParts) (state : State) → Hears bytes (Before j) heard
    → heard_by state heard ≡ state
deaf_before bytes j None state hears = refl
deaf_before bytes j (Some reply) state hears = absurd hears

pub before_changes_nothing : (old new : World) (output given j : ℕ) → Step old (Hand output given (Before j)) new
    → states new ≡ states old
before_changes_nothing old new output given j step =
    still old new output given (Before j) step (deaf_before (take given step.from.bytes) j step.heard step.entry.state
    step.hears)

-- bytes give one reply
one_reply : (bytes : List ℕ) (one other : ReplyParts) → GivesReply bytes one → GivesReply bytes other → one ≡ other
one_reply bytes one other first second =
    (BeginsReply-unique bytes one other (length (take first.0 bytes)) (length (take second.0 bytes)) (longer one first)
    (longer other second)).0
  where
    longer : (reply : ReplyParts) → (gives : GivesReply bytes reply)
        → BeginsReply bytes reply (length (take gives.0 bytes))
    longer reply gives =
        subst (λ bs. BeginsReply bs reply (length (take gives.0 bytes))) (take-append-drop gives.0 bytes)
        (BeginsReply-more (take gives.0 bytes) (drop gives.0 bytes) reply (length (take gives.0 bytes)) gives.1)

not_deaf : (bytes : List ℕ) (reply : ReplyParts) → GivesReply bytes reply → length bytes < max_reads
    → ((other : ReplyParts) → ¬ (GivesReply bytes other)) ⊎ (max_reads ≤ length bytes) → ⊥
not_deaf bytes reply gives few deaf = ⊎_elim
    (λ (none : (other : ReplyParts) → ¬ (GivesReply bytes other)). none reply gives)
    (λ (many : max_reads ≤ length bytes). omega (arith, many, few))
    deaf

-- and are heard as it
hears_that : (bytes : List ℕ) (crash : Crash) (heard : Option ReplyParts) (reply : ReplyParts)
    → ((j : ℕ) → crash ≢ Before j) → GivesReply bytes reply → length bytes < max_reads → Hears bytes crash heard
    → heard ≡ Some reply
hears_that bytes crash (Some heard) reply on gives few hears =
    ap Some (one_reply bytes heard reply (hears_gives bytes crash heard hears) gives)
hears_that bytes (Before j) None reply on gives few hears = absurd (on j refl)
hears_that bytes No None reply on gives few hears = absurd (not_deaf bytes reply gives few hears)
hears_that bytes (After j) None reply on gives few hears = absurd (not_deaf bytes reply gives few hears)

module _ (old new : World) (output given outbox number : ℕ) (crash : Crash) (from : Output)
    (answers : IsAnswerTo old output from outbox number) (step : Step old (Hand output given crash) new) where
  same_from : step.from ≡ from
  same_from = same_element (numbered old.outputs output) step.from from step.here answers.here

  sender : (step.outbox ≡ outbox) × (step.number ≡ number)
  sender =
      let item : step.item ≡ answers.item =
      same_element (numbered old.sent from.item) step.item answers.item
      (subst (λ (o : Output). numbered old.sent o.item ≡ Some step.item) same_from step.item_here)
      answers.item_here in
      some_pair_parts step.outbox outbox step.number number (sym step.sender ∙ ap (λ (x : Sent). x.from) item
      ∙ answers.sender)

  abbrev moved_entry : Entry
  moved_entry = record step.entry { state = heard_by step.entry.state step.heard }

  abbrev moved_box : Outbox
  moved_box = box_after step.box step.number step.entry step.heard crash

  box_there : numbered new.outboxes step.outbox ≡ Some moved_box
  box_there =
      ap (λ (w : World). numbered w.outboxes step.outbox) step.becomes
      ∙ renewed_numbered old.outboxes step.outbox moved_box step.box step.box_here

  pub moves : (state : State) (reply : ReplyParts) → HasEntry old outbox number state → ((j : ℕ) → crash ≢ Before j)
      → GivesReply (take given from.bytes) reply → length (take given from.bytes) < max_reads
      → HasEntry new outbox number (moved state reply)
  moves state reply has on gives few =
      subst (λ (at : ℕ × ℕ). HasEntry new at.0 at.1 (moved state reply)) (λ i. (sender.0 i, sender.1 i)) (
        moved_box,
        moved_entry,
        box_there,
        renewed_numbered step.box.entries step.number moved_entry step.entry step.entry_here,
        moved_by,
      )
    where
      heard : step.heard ≡ Some reply
      heard = hears_that (take given from.bytes) crash step.heard reply on gives few
          (subst (λ (o : Output). Hears (take given o.bytes) crash step.heard) same_from step.hears)

      was : step.entry.state ≡ state
      was =
          let box : step.box ≡ has.0 =
          same_element (numbered old.outboxes outbox) step.box has.0
          (subst (λ o. numbered old.outboxes o ≡ Some step.box) sender.0 step.box_here) has.2 in
          let entry : step.entry ≡ has.1 =
          same_element (numbered has.0.entries number) step.entry has.1
          (subst (λ (x : ℕ × Outbox). numbered x.1.entries x.0 ≡ Some step.entry) (λ i. (sender.1 i, box i))
          step.entry_here) has.3 in
          ap (λ (e : Entry). e.state) entry ∙ has.4

      moved_by : heard_by step.entry.state step.heard ≡ moved state reply
      moved_by = ap (heard_by step.entry.state) heard ∙ ap (λ s. moved s reply) was

  -- ---- a stop

  pub outbox_up : (box : Outbox) → numbered new.outboxes outbox ≡ Some box → (box.up ≡ true) ↔ (crash ≡ No)
  outbox_up box here =
      let is : box ≡ moved_box =
      same_element (numbered new.outboxes outbox) box moved_box here
      (subst (λ o. numbered new.outboxes o ≡ Some moved_box) sender.0 box_there) in
      subst (λ (b : Bool). (b ≡ true) ↔ (crash ≡ No)) (ap (λ (b : Outbox). b.up) (sym is)) (up_unless crash)

  pub outbox_down : crash ≢ No → IsDown new outbox
  outbox_down stops = record {
    puts = λ key target body. away;
    sends = λ entry. inl away;
    hands = λ another more place again other answer. inr (
      other,
      answer.item,
      answer.here,
      answer.item_here,
      inr (outbox, place, answer.sender, away),
    );
  }
    where
      away : IsAway new.outboxes outbox
      away box here = down_if crash stops box.up (outbox_up box here)
