-- Each happening may happen without a front too, where the same is kept, and as much was written and answered or more.
use Rattle.std.proofs.Common.{◌≡◌, ◌∙◌, ℕ, List, [], ◌∷◌, ◌++◌, take, Option, Some, None, refl, sym, ap, subst}
use Rattle.http_messages.specs.Response.{GivesReply}
use Rattle.filing_model.specs.declared.served.Mark.{Mark}
use Rattle.filing_model.specs.Answer.{answer}
use Rattle.filing_model.specs.Outbox.{State}
use Rattle.filing_model.specs.Serving.{keeping, Serves}
use Rattle.filing_model.specs.Stopping.{Crash, IsStopped}
use Rattle.filing_model.proofs.Lists.{append_nil}
use Rattle.filing_world.specs.World.{Sent, numbered, renewed}
use Rattle.filing_world.proofs.Lists.{same_element}
use Rattle.outbox_tables.specs.Entries.{Contents, contents_of}
use Rattle.outbox_core.specs.Entries.{opened, set_state}
use Rattle.gateway_server.specs.Connections.{Connection}
use Rattle.programs.specs.Deliveries.{Delivery, IsOf}
use Rattle.programs.specs.Happenings.{Answer, Situation, Happening, Serving, Killing, TurningAway, Putting, Writing}
use Rattle.programs.specs.Happenings.{Hearing, HearingRefusal, Stranger, IsServing, IsKilling, IsTurningAway, IsPutting}
use Rattle.programs.specs.Happenings.{IsWriting, IsHearing, Makes, Happen}
use Rattle.programs.proofs.More.{AreAmong, AnswersAmong, among_both, answers_longer, answers_both}

-- The same requests and outboxes, and all that was written and answered, beside more.
pub record StandsBehind (old plain : Situation) : Type 0 where
  pub requests : plain.requests ≡ old.requests
  pub outboxes : plain.outboxes ≡ old.outboxes
  pub sent : AreAmong old.sent plain.sent
  pub answers : AnswersAmong old.sent old.answers plain.sent plain.answers
  pub refusals : AnswersAmong old.sent old.refusals plain.sent plain.refusals

-- what was written for an item
unfoldable pub answered : (item : ℕ) (bytes : List ℕ) → Answer
answered item bytes = record { item = item; bytes = bytes }

-- and so is the item
came_there : (old plain : Situation) (delivery : Delivery) (connection : Connection) → StandsBehind old plain
    → (came : IsOf old.sent connection delivery) → (number : ℕ) × (numbered plain.sent number ≡ Some came.from)
-- and so is the item
came_there old plain delivery connection stands came = stands.sent delivery.item came.from came.here

-- the outbox is there too
pub box_there : (old plain : Situation) (outbox : ℕ) (contents : Contents) → StandsBehind old plain
    → numbered old.outboxes outbox ≡ Some contents → numbered plain.outboxes outbox ≡ Some contents
box_there old plain outbox contents stands here = ap (λ boxes. numbered boxes outbox) stands.outboxes ∙ here

-- an outbox has other contents
unfoldable pub with_box : Situation → ℕ → Contents → Situation
with_box old outbox contents = record old { outboxes = renewed old.outboxes outbox contents }

pub stands_with_box : (old plain : Situation) (outbox : ℕ) (contents : Contents) → StandsBehind old plain
    → StandsBehind (with_box old outbox contents) (with_box plain outbox contents)
unfolding with_box
stands_with_box old plain outbox contents stands = record {
  requests = stands.requests;
  outboxes = ap (λ boxes. renewed boxes outbox contents) stands.outboxes;
  sent = stands.sent;
  answers = stands.answers;
  refusals = stands.refusals;
}

-- something more was written
unfoldable pub with_sent : Situation → Sent → Situation
with_sent old item = record old { sent = old.sent ++ item ∷ [] }

stands_with_sent : (old plain : Situation) (item : Sent) → StandsBehind old plain
    → StandsBehind (with_sent old item) (with_sent plain item)
unfolding with_sent
stands_with_sent old plain item stands = record {
  requests = stands.requests;
  outboxes = stands.outboxes;
  sent = among_both old.sent plain.sent item stands.sent;
  answers = subst (AnswersAmong (old.sent ++ item ∷ []) old.answers (plain.sent ++ item ∷ []))
      (append_nil plain.answers)
      (answers_longer old.sent (item ∷ []) plain.sent (item ∷ []) old.answers plain.answers [] stands.answers);
  refusals = subst (AnswersAmong (old.sent ++ item ∷ []) old.refusals (plain.sent ++ item ∷ []))
      (append_nil plain.refusals)
      (answers_longer old.sent (item ∷ []) plain.sent (item ∷ []) old.refusals plain.refusals [] stands.refusals);
}

module _ (limit : ℕ) where
  -- more happenings without a front
  pub record GoesOnPlainly (plain new : Situation) : Type 0 where
    pub happenings : List Happening
    pub next : Situation
    pub happen : Happen limit plain happenings next
    pub stands : StandsBehind new next

  one_happening : (plain new next : Situation) (happening : Happening) → Makes limit plain happening next
      → StandsBehind new next → GoesOnPlainly plain new
  one_happening plain new next happening makes stands =
      record { happenings = happening ∷ []; next = next; happen = (next, makes, refl); stands = stands }

  serving : (old new plain : Situation) (delivery : Delivery) (connection : Connection) → StandsBehind old plain
      → IsServing limit old delivery connection new → GoesOnPlainly plain new
  unfolding answered
  serving old new plain delivery connection stands is =
      let there = came_there old plain delivery connection stands is.came in
      let again : Delivery = record { item = there.0; given = delivery.given } in
      let next : Situation = record plain {
        requests = new.requests;
        answers = plain.answers ++ answered there.0 connection.output.bytes ∷ [];
      } in
      one_happening plain new next (Serving again connection) (record {
        came = record { from = is.came.from; here = there.1; read = is.came.read };
        keys = is.keys;
        few = is.few;
        serves = subst (λ q. Serves (keeping is.keys [] q new.requests) connection.read connection.output.marks
            connection.output.ended connection.output.bytes) (sym stands.requests) is.serves;
        becomes = refl;
      }) (subst (λ n. StandsBehind n next) (sym is.becomes) (record {
        requests = refl;
        outboxes = stands.outboxes;
        sent = stands.sent;
        answers =
            answers_both old.sent plain.sent old.answers plain.answers (answered delivery.item connection.output.bytes)
            (answered there.0 connection.output.bytes) is.came.from is.came.here there.1 refl stands.answers;
        refusals = stands.refusals;
      }))

  killing : (old new plain : Situation) (delivery : Delivery) (crash : Crash) (marks : List Mark) (written : List ℕ)
      → StandsBehind old plain → IsKilling limit old delivery crash marks written new → GoesOnPlainly plain new
  unfolding answered
  killing old new plain delivery crash marks written stands is =
      let there = stands.sent delivery.item is.from is.here in
      let again : Delivery = record { item = there.0; given = delivery.given } in
      let next : Situation = record plain {
        requests = new.requests;
        answers = plain.answers ++ answered there.0 written ∷ [];
      } in
      one_happening plain new next (Killing again crash marks written) (record {
        from = is.from;
        here = there.1;
        keys = is.keys;
        within = is.within;
        stopped = subst (λ q. IsStopped (keeping is.keys [] q new.requests) (take delivery.given is.from.bytes) crash
            marks written) (sym stands.requests) is.stopped;
        becomes = refl;
      }) (subst (λ n. StandsBehind n next) (sym is.becomes) (record {
        requests = refl;
        outboxes = stands.outboxes;
        sent = stands.sent;
        answers =
            answers_both old.sent plain.sent old.answers plain.answers (answered delivery.item written)
            (answered there.0 written) is.from is.here there.1 refl stands.answers;
        refusals = stands.refusals;
      }))

  turning_away : (old new plain : Situation) (delivery : Delivery) (connection : Connection) → StandsBehind old plain
      → IsTurningAway old delivery connection new → GoesOnPlainly plain new
  unfolding answered
  turning_away old new plain delivery connection stands is =
      let there = came_there old plain delivery connection stands is.came in
      let again : Delivery = record { item = there.0; given = delivery.given } in
      let next : Situation = record plain {
        refusals = plain.refusals ++ answered there.0 connection.output.bytes ∷ [];
      } in
      one_happening plain new next (TurningAway again connection) (record {
        came = record { from = is.came.from; here = there.1; read = is.came.read };
        turned = is.turned;
        becomes = refl;
      }) (subst (λ n. StandsBehind n next) (sym is.becomes) (record {
        requests = stands.requests;
        outboxes = stands.outboxes;
        sent = stands.sent;
        answers = stands.answers;
        refusals =
            answers_both old.sent plain.sent old.refusals plain.refusals
            (answered delivery.item connection.output.bytes) (answered there.0 connection.output.bytes) is.came.from
            is.came.here there.1 refl stands.refusals;
      }))

  putting : (old new plain : Situation) (outbox : ℕ) (key : List ℕ) (target : Option ℕ) (body : List ℕ)
      → StandsBehind old plain → IsPutting old outbox (opened key target body) new → GoesOnPlainly plain new
  unfolding with_box
  putting old new plain outbox key target body stands is =
      let after = contents_of is.contents.filer (is.contents.entries ++ opened key target body ∷ []) in
      one_happening plain new (with_box plain outbox after) (Putting outbox key target body) (record {
        contents = is.contents;
        here = box_there old plain outbox is.contents stands is.here;
        key = is.key;
        target = is.target;
        taken = is.taken;
        becomes = refl;
      }) (subst (λ n. StandsBehind n (with_box plain outbox after)) (sym is.becomes) (stands_with_box old plain outbox
      after stands))

  writing : (old new plain : Situation) (outbox id : ℕ) (written : List ℕ) → StandsBehind old plain
      → IsWriting old outbox id written new → GoesOnPlainly plain new
  unfolding with_sent
  writing old new plain outbox id written stands is =
      let item : Sent = record { from = Some (outbox, id); bytes = written } in
      one_happening plain new (with_sent plain item) (Writing outbox id written) (record {
        contents = is.contents;
        here = box_there old plain outbox is.contents stands is.here;
        text = is.text;
        request = is.request;
        part = is.part;
        becomes = refl;
      }) (subst (λ n. StandsBehind n (with_sent plain item)) (sym is.becomes) (stands_with_sent old plain item stands))

  stranger : (old new plain : Situation) (written : List ℕ) → StandsBehind old plain
      → new ≡ record old { sent = old.sent ++ record { from = None; bytes = written } ∷ [] } → GoesOnPlainly plain new
  unfolding with_sent
  stranger old new plain written stands becomes =
      let item : Sent = record { from = None; bytes = written } in
      one_happening plain new (with_sent plain item) (Stranger written) refl
      (subst (λ n. StandsBehind n (with_sent plain item)) (sym becomes) (stands_with_sent old plain item stands))

  -- ---- an answer is heard without a front

  -- the answer stands there under this number
  record IsHeardThere (plain : Situation) (answers : List Answer) (outbox id given : ℕ) (to : State) (new
      : Situation) : Type 0 where
    pub number : ℕ
    pub next : Situation
    pub hearing : IsHearing plain answers outbox id number given to next
    pub stands : StandsBehind new next

  hearing : (old new plain : Situation) (heard there : List Answer) (outbox id number given : ℕ) (to : State)
      → StandsBehind old plain → AnswersAmong old.sent heard plain.sent there
      → IsHearing old heard outbox id number given to new → IsHeardThere plain there outbox id given to new
  unfolding with_box
  hearing old new plain heard there outbox id number given to stands among is =
      let also = among number is.from is.from_here in
      let item : also.item ≡ is.item =
      same_element (numbered old.sent is.from.item) also.item is.item also.item_here is.item_here in
      let after = contents_of is.contents.filer (set_state is.contents.entries id to) in
      record {
        number = also.there.number;
        next = with_box plain outbox after;
        hearing = record {
          from = also.there.answer;
          from_here = also.there.here;
          item = also.item;
          item_here = also.there.item_here;
          sender = ap (λ (i : Sent). i.from) item ∙ is.sender;
          contents = is.contents;
          here = box_there old plain outbox is.contents stands is.here;
          text = is.text;
          request = is.request;
          reply = is.reply;
          gives = subst (λ bs. GivesReply (take given bs) is.reply) (sym also.there.same) is.gives;
          moves = is.moves;
          becomes = refl;
        };
        stands = subst (λ n. StandsBehind n (with_box plain outbox after)) (sym is.becomes)
            (stands_with_box old plain outbox after stands);
      }

  pub direct : (old new plain : Situation) (happening : Happening) → StandsBehind old plain
      → Makes limit old happening new → GoesOnPlainly plain new
  direct old new plain (Serving delivery connection) stands is =
      serving old new plain delivery connection stands is
  direct old new plain (Killing delivery crash marks written) stands is =
      killing old new plain delivery crash marks written stands is
  direct old new plain (TurningAway delivery connection) stands is =
      turning_away old new plain delivery connection stands is
  direct old new plain (Putting outbox key target body) stands is =
      putting old new plain outbox key target body stands is
  direct old new plain (Writing outbox id written) stands is = writing old new plain outbox id written stands is
  direct old new plain (Hearing outbox id answer given to) stands is =
      let there = hearing old new plain old.answers plain.answers outbox id answer given to stands stands.answers is in
      one_happening plain new there.next (Hearing outbox id there.number given to) there.hearing there.stands
  direct old new plain (HearingRefusal outbox id refusal given to) stands is =
      let there =
      hearing old new plain old.refusals plain.refusals outbox id refusal given to stands stands.refusals is in
      one_happening plain new there.next (HearingRefusal outbox id there.number given to) there.hearing there.stands
  direct old new plain (Stranger written) stands is = stranger old new plain written stands is
