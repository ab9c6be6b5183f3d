-- Whatever programs do is a run of the world.
use Rattle.std.proofs.Common.{◌≡◌, ◌∙◌, ℕ, zero, suc, ◌^◌, ◌≤◌, true, List, [], ◌∷◌, ◌++◌, length, map, take, Option}
use Rattle.std.proofs.Common.{Some, None, refl, sym, ap, subst, ⊎_elim}
use Rattle.filing_model.specs.declared.served.Ended.{Ended}
use Rattle.filing_model.specs.declared.served.Mark.{Mark}
use Rattle.filing_model.specs.Outbox.{State, Open, request_of, bytes_of}
use Rattle.filing_model.specs.Register.{register, numbers_of}
use Rattle.filing_model.specs.Request.{Request, firsts}
use Rattle.filing_model.specs.Stopping.{Crash, No, IsStopped, ServesUntil}
use Rattle.filing_model.specs.Text.{completed}
use Rattle.filing_model.specs.Serving.{keeping, Serves}
use Rattle.filing_model.proofs.Answers.{register-firsts}
use Rattle.filing_model.proofs.Serving.{carried_until}
use Rattle.filing_model.proofs.Lists.{append_nil, take_prefix, prefix_refl}
use Rattle.filing_world.specs.World.{Outbox, Sent, Output, World, Event, Put, Send, Hand, Deliver, RestartServer}
use Rattle.filing_world.specs.World.{numbered, renewed, new_outbox, Stranger as StrangerSends}
use Rattle.filing_world.specs.Step.{is_no, with_entry, Puts, Delivers, Run}
use Rattle.filing_world.specs.Headline.{AreFilers, start, IsOwn}
use Rattle.filing_world.specs.Invariant.{Keeps, AllOwn}
use Rattle.filing_world.proofs.Keeping.{holds_after, keeps_run, keeps_start}
use Rattle.filing_world.proofs.Lists.{changed_renewed, renewed_same, numbered_push, numbered_grows, same_element}
use Rattle.outbox_tables.specs.Entries.{Contents, contents_of, empty}
use Rattle.outbox_core.specs.Entries.{opened, in_state, set_state}
use Rattle.filer_client.specs.Exchange.{IsOpenRequest}
use Rattle.gateway_server.specs.Connections.{Connection, ServeInTurn}
use Rattle.intake_process.specs.Turning.{IsTurnedAway}
use Rattle.intake_process.specs.Turns.{Turn, Served, TurnedAway, connection_of, all_in, served_in, AreTurnedAway}
use Rattle.programs.specs.Deliveries.{Delivery, IsOf, AreOf, events_of, AreOutputsOf}
use Rattle.programs.proofs.Delivering.{delivered}
use Rattle.programs.specs.Exchanged.{IsBox, ComesOf}
use Rattle.programs.specs.Happenings.{Answer, Situation, at_first, Happening, Serving, Killing, TurningAway, Putting}
use Rattle.programs.specs.Happenings.{Writing, Hearing, HearingRefusal, Stranger, IsServing, IsKilling, IsTurningAway}
use Rattle.programs.specs.Happenings.{box_of, IsPutting, IsWriting, IsHearing, Makes, Happen, AreWrittenOf}
use Rattle.programs.specs.Happenings.{AreAnswersOf, IsKept, IsReached, AreRegistered, TurnsHappen}
use Rattle.programs.proofs.Away.{moves_nothing}
use Rattle.programs.proofs.Exchanging.{sent, handed}
use Rattle.programs.proofs.Limits.{serves_more, stopped_more}
use Rattle.programs.proofs.Situations.{numbered_map, renewed_map, written_numbered, written_one_more, answered_numbered}
use Rattle.programs.proofs.Situations.{answered_one_more}

-- what was written on a connection that was turned away, by the bytes that came on it
record IsRefusalOf (items : List Sent) (refusal : Answer) : Type 0 where
  pub item : Sent
  pub here : numbered items refusal.item ≡ Some item
  pub given : ℕ
  pub marks : List Mark
  pub ended : Ended
  pub turned : IsTurnedAway (take given item.bytes) marks ended refusal.bytes

abbrev AreRefusals : List Sent → List Answer → Type 0
AreRefusals items refusals = (number : ℕ) (refusal : Answer) → numbered refusals number ≡ Some refusal
    → IsRefusalOf items refusal

refusals_grow : (items more : List Sent) (refusals : List Answer) → AreRefusals items refusals
    → AreRefusals (items ++ more) refusals
refusals_grow items more refusals are number refusal here =
    let of = are number refusal here in
    record {
      item = of.item;
      here = numbered_grows items more refusal.item of.item of.here;
      given = of.given;
      marks =
          of.marks;
      ended = of.ended;
      turned = of.turned;
    }

-- a request of an entry that was sent
own_at : (boxes : List Outbox) (items : List Sent) (number outbox id : ℕ) (item : Sent) → AllOwn boxes items
    → numbered items number ≡ Some item → item.from ≡ Some (outbox, id) → IsOwn boxes item outbox id
own_at boxes items zero outbox id item all here from = absurd (cc)
own_at boxes items (suc k) outbox id item all here from = all k outbox id item here from

module _ (limit : ℕ) where
  -- the world is kept so
  record Stands (situation : Situation) (world : World) : Type 0 where
    pub kept : IsKept limit situation world
    pub refused : AreRefusals situation.sent situation.refusals

  -- events lead from a world on to one that is kept so
  record GoesOn (old : World) (new : Situation) : Type 0 where
    pub world : World
    pub events : List Event
    pub run : Run old events world
    pub stands : Stands new world

  -- ---- a connection

  -- the one output of one connection
  record IsOne (connection : Connection) (delivery : Delivery) (more : List Output) : Type 0 where
    pub output : Output
    pub only : more ≡ output ∷ []
    pub item : output.item ≡ delivery.item
    pub bytes : output.bytes ≡ connection.output.bytes

  one_output : (connection : Connection) (delivery : Delivery) (more : List Output)
      → AreOutputsOf (connection ∷ []) (delivery ∷ []) more → IsOne connection delivery more
  one_output connection delivery [] are = absurd are
  one_output connection delivery (output ∷ []) are =
      record { output = output; only = refl; item = are.0.item; bytes = are.0.bytes }
  one_output connection delivery (output ∷ other ∷ more) are = absurd are.1

  serving : (old new : Situation) (world : World) (delivery : Delivery) (connection : Connection) → Stands old world
      → IsServing limit old delivery connection new → GoesOn world new
  serving old new world delivery connection stands is =
      let kept = stands.kept in
      let item = written_numbered old.sent world.sent delivery.item is.came.from kept.sent is.came.here in
      let part = take_prefix delivery.given is.came.from.bytes item.item.bytes item.part in
      let whole : Delivery = record { item = delivery.item; given = part.0 } in
      let of : IsOf world.sent connection whole =
      record { from = item.item; here = item.here; read = is.came.read ∙ part.1 } in
      let more =
      serves_more is.keys limit is.few old.requests new.requests connection.read connection.output.marks
      connection.output.ended connection.output.bytes is.serves in
      let serves : Serves (keeping world.limit [] (firsts world.done) new.requests) connection.read
      connection.output.marks connection.output.ended connection.output.bytes
      = rw (kept.limit_is, sym kept.requests) more in
      let on = delivered world (connection ∷ []) (whole ∷ []) new.requests kept.up (new.requests, serves, refl) (
        of,
        tt,
      ) in
      let one = one_output connection whole on.1.more on.1.are in
      let same = on.1.others in
      record {
        world = on.0;
        events = events_of (whole ∷ []);
        run = on.1.run;
        stands = subst (λ n. Stands n on.0) (sym is.becomes) (record {
          kept = record {
            limit_is = ap (λ w. w.limit) same ∙ kept.limit_is;
            requests = on.1.kept;
            outboxes = ap (λ w. w.outboxes) same ∙ kept.outboxes;
            sent = subst (AreWrittenOf old.sent) (sym (ap (λ w. w.sent) same)) kept.sent;
            answers =
                subst (AreAnswersOf (old.answers ++ record {
                  item = delivery.item;
                  bytes =
                      connection.output.bytes;
                } ∷ [])) (sym (on.1.outputs
                ∙ ap (λ outputs. world.outputs ++ outputs) one.only))
                (answered_one_more old.answers world.outputs (record {
                  item = delivery.item;
                  bytes =
                      connection.output.bytes;
                }) one.output kept.answers one.item one.bytes);
            up = ap (λ w. w.up) same ∙ kept.up;
          };
          refused = stands.refused;
        });
      }

  -- ---- a run that is killed

  killing : (old new : Situation) (world : World) (delivery : Delivery) (crash : Crash) (marks : List Mark)
      (written : List ℕ) → Stands old world → IsKilling limit old delivery crash marks written new → GoesOn world new
  killing old new world delivery crash marks written stands is =
      let kept = stands.kept in
      let item = written_numbered old.sent world.sent delivery.item is.from kept.sent is.here in
      let part = take_prefix delivery.given is.from.bytes item.item.bytes item.part in
      let read = take delivery.given is.from.bytes in
      let more = stopped_more is.keys limit is.within old.requests new.requests read crash marks written is.stopped in
      let stopped : IsStopped (keeping world.limit [] (firsts world.done) new.requests) read crash marks written =
      rw (kept.limit_is, sym kept.requests) more in
      let until =
      carried_until world.limit world.done (firsts world.done) new.requests refl read [] crash marks None written tt
      stopped in
      let output : Output =
      record {
        item = delivery.item;
        given = length (take part.0 item.item.bytes);
        before =
            length world.done;
        marks = marks;
        ended = None;
        bytes = written;
      } in
      let down =
      record world {
        done = world.done ++ completed until.0 marks;
        outputs = world.outputs ++ output ∷ [];
        up =
            is_no crash;
      } in
      let step : Delivers world delivery.item part.0 crash down = record {
        up = kept.up;
        from = item.item;
        here = item.here;
        arrivals = until.0;
        marks = marks;
        ended = None;
        out = written;
        serves = subst (λ bs. ServesUntil world.limit world.done bs crash until.0 marks None written) (append_nil read
            ∙ part.1) until.1;
        becomes = refl;
      } in
      let next = record down { up = true } in
      record {
        world = next;
        events = Deliver delivery.item part.0 crash ∷ RestartServer ∷ [];
        run = (down, step, (next, refl, refl));
        stands = subst (λ n. Stands n next) (sym is.becomes) (record {
          kept = record {
            limit_is = kept.limit_is;
            requests = until.2;
            outboxes = kept.outboxes;
            sent = kept.sent;
            answers =
                answered_one_more old.answers world.outputs (record { item = delivery.item; bytes = written }) output
                kept.answers refl refl;
            up = refl;
          };
          refused = stands.refused;
        });
      }

  -- ---- an entry

  box_here : (old : Situation) (world : World) (outbox : ℕ) (contents : Contents) → IsKept limit old world
      → numbered old.outboxes outbox ≡ Some contents → IsBox world outbox (box_of contents)
  box_here old world outbox contents kept here =
      record {
        here = ap (λ boxes. numbered boxes outbox) kept.outboxes
            ∙ numbered_map box_of old.outboxes outbox contents here;
        up = refl;
      }

  -- an outbox has other entries
  boxes_after : (old : Situation) (world : World) (outbox : ℕ) (contents : Contents) → IsKept limit old world
      → renewed world.outboxes outbox (box_of contents) ≡ map box_of (renewed old.outboxes outbox contents)
  boxes_after old world outbox contents kept =
      ap (λ boxes. renewed boxes outbox (box_of contents)) kept.outboxes
      ∙ renewed_map box_of old.outboxes outbox contents

  putting : (old new : Situation) (world : World) (outbox : ℕ) (key : List ℕ) (target : Option ℕ) (body : List ℕ)
      → Stands old world → IsPutting old outbox (opened key target body) new → GoesOn world new
  putting old new world outbox key target body stands is =
      let kept = stands.kept in
      let box = box_of is.contents in
      let after = contents_of is.contents.filer (is.contents.entries ++ opened key target body ∷ []) in
      let taken : with_entry box (opened key target body) ≡ box_of after = rw is.taken refl in
      let next = record world { outboxes = renewed world.outboxes outbox (with_entry box (opened key target body)) } in
      let step : Puts world outbox (opened key target body) next =
      record {
        is_key = is.key;
        is_target = is.target;
        box = box;
        here =
            (box_here old world outbox is.contents kept is.here).here;
        up = refl;
        becomes = refl;
      } in
      record {
        world = next;
        events = Put outbox key target body ∷ [];
        run = (next, step, refl);
        stands = subst (λ n. Stands n next) (sym is.becomes) (record {
          kept = record {
            limit_is = kept.limit_is;
            requests = kept.requests;
            outboxes = ap (renewed world.outboxes outbox) taken ∙ boxes_after old world outbox after kept;
            sent = kept.sent;
            answers = kept.answers;
            up = kept.up;
          };
          refused = stands.refused;
        });
      }

  -- ---- an exchange

  writing : (old new : Situation) (world : World) (outbox id : ℕ) (written : List ℕ) → Stands old world
      → IsWriting old outbox id written new → GoesOn world new
  writing old new world outbox id written stands is =
      let kept = stands.kept in
      let next =
      sent world outbox id (box_of is.contents) is.text (box_here old world outbox is.contents kept is.here)
      is.request in
      let same = next.1.becomes in
      record {
        world = next.0;
        events = Send outbox id ∷ [];
        run = (next.0, next.1.step, refl);
        stands = subst (λ n. Stands n next.0) (sym is.becomes) (record {
          kept = record {
            limit_is = ap (λ w. w.limit) same ∙ kept.limit_is;
            requests = kept.requests ∙ ap (λ w. firsts w.done) (sym same);
            outboxes = ap (λ w. w.outboxes) same ∙ kept.outboxes;
            sent = subst (AreWrittenOf (old.sent ++ record { from = Some (outbox, id); bytes = written } ∷ []))
                (sym (ap (λ w. w.sent) same))
                (written_one_more old.sent world.sent (record { from = Some (outbox, id); bytes = written })
                (record { from = Some (outbox, id); bytes = is.text }) kept.sent refl is.part);
            answers = subst (AreAnswersOf old.answers) (sym (ap (λ w. w.outputs) same)) kept.answers;
            up = ap (λ w. w.up) same ∙ kept.up;
          };
          refused =
              refusals_grow old.sent (record { from = Some (outbox, id); bytes = written } ∷ []) old.refusals
              stands.refused;
        });
      }

  hearing : (old new : Situation) (world : World) (outbox id answer given : ℕ) (to : State) → Stands old world
      → IsHearing old old.answers outbox id answer given to new → GoesOn world new
  hearing old new world outbox id answer given to stands is =
      let kept = stands.kept in
      let read = take given is.from.bytes in
      let from = answered_numbered old.answers world.outputs answer is.from kept.answers is.from_here in
      let item = written_numbered old.sent world.sent is.from.item is.item kept.sent is.item_here in
      let comes : ComesOf world outbox id answer given (take given is.from.bytes) = record {
        from = from.output;
        here = from.here;
        item = item.item;
        item_here = ap (numbered world.sent) from.item ∙ item.here;
        sender = sym item.from ∙ is.sender;
        first = ap (take given) (sym from.bytes);
      } in
      let next =
      handed world outbox id answer given (box_of is.contents) is.text read (Some []) to
      (box_here old world outbox is.contents kept is.here) is.request comes (
        is.reply,
        (read, sym (append_nil read), is.gives),
        is.moves,
      ) in
      let same = next.1.becomes in
      let after = contents_of is.contents.filer (set_state is.contents.entries id to) in
      record {
        world = next.0;
        events = Hand answer next.1.given No ∷ [];
        run = (next.0, next.1.step, refl);
        stands = subst (λ n. Stands n next.0) (sym is.becomes) (record {
          kept = record {
            limit_is = ap (λ w. w.limit) same ∙ kept.limit_is;
            requests = kept.requests ∙ ap (λ w. firsts w.done) (sym same);
            outboxes = ap (λ w. w.outboxes) same ∙ boxes_after old world outbox after kept;
            sent = subst (AreWrittenOf old.sent) (sym (ap (λ w. w.sent) same)) kept.sent;
            answers = subst (AreAnswersOf old.answers) (sym (ap (λ w. w.outputs) same)) kept.answers;
            up = ap (λ w. w.up) same ∙ kept.up;
          };
          refused = stands.refused;
        });
      }

  -- ---- a connection that is turned away

  turning_away : (old new : Situation) (world : World) (delivery : Delivery) (connection : Connection)
      → Stands old world → IsTurningAway old delivery connection new → GoesOn world new
  turning_away old new world delivery connection stands is =
      let kept = stands.kept in
      let last : Answer = record { item = delivery.item; bytes = connection.output.bytes } in
      let of : IsRefusalOf old.sent last = record {
        item = is.came.from;
        here = is.came.here;
        given = delivery.given;
        marks = connection.output.marks;
        ended = connection.output.ended;
        turned = subst (λ read. IsTurnedAway read connection.output.marks connection.output.ended
            connection.output.bytes) is.came.read is.turned;
      } in
      let refused : AreRefusals old.sent (old.refusals ++ last ∷ []) = λ number refusal here. ⊎_elim
      (λ (before : numbered old.refusals number ≡ Some refusal). stands.refused number refusal before)
      (λ (same : refusal ≡ last). subst (IsRefusalOf old.sent) (sym same) of)
      (numbered_push old.refusals last number refusal here) in
      record {
        world = world;
        events = [];
        run = refl;
        stands = subst (λ n. Stands n world) (sym is.becomes) (record {
          kept = record {
            limit_is = kept.limit_is;
            requests = kept.requests;
            outboxes = kept.outboxes;
            sent =
                kept.sent;
            answers = kept.answers;
            up = kept.up;
          };
          refused = refused;
        });
      }

  -- an entry that is open still
  set_open : (contents : Contents) (id : ℕ) (text : List ℕ) (to : State)
      → IsOpenRequest contents.filer contents.entries id text → to ≡ Open
      → contents_of contents.filer (set_state contents.entries id to) ≡ contents
  set_open contents id text to request is_open =
      let entry = request.entry in
      let same : in_state Open entry ≡ entry = λ i. record entry { state = (sym request.is_open) i } in
      ap (contents_of contents.filer) (ap (set_state contents.entries id) is_open
      ∙ changed_renewed (in_state Open) contents.entries id entry request.at ∙ ap (renewed contents.entries id) same
      ∙ renewed_same contents.entries id entry request.at)

  hearing_refusal : (old new : Situation) (world : World) (outbox id refusal given : ℕ) (to : State) → Keeps world
      → Stands old world → IsHearing old old.refusals outbox id refusal given to new → GoesOn world new
  hearing_refusal old new world outbox id refusal given to keeps stands is =
      let kept = stands.kept in
      let of = stands.refused refusal is.from is.from_here in
      let one : of.item ≡ is.item =
      same_element (numbered old.sent is.from.item) of.item is.item of.here is.item_here in
      let item = written_numbered old.sent world.sent is.from.item is.item kept.sent is.item_here in
      let own =
      own_at world.outboxes world.sent is.from.item outbox id item.item keeps.own item.here (sym item.from
      ∙ is.sender) in
      let box = box_here old world outbox is.contents kept is.here in
      let box_is : own.box ≡ box_of is.contents =
      same_element (numbered world.outboxes outbox) own.box (box_of is.contents) own.here box.here in
      let entry = is.request.entry in
      let entry_is : own.entry ≡ entry =
      same_element (numbered is.contents.entries id) own.entry entry
      (subst (λ (b : Outbox). numbered b.entries id ≡ Some own.entry) box_is own.there) is.request.at in
      let r = request_of is.contents.filer entry in
      let bytes : item.item.bytes ≡ bytes_of r =
      own.bytes ∙ ap bytes_of (ap (λ (b : Outbox). request_of b.filer own.entry) box_is
      ∙ ap (request_of is.contents.filer) entry_is) in
      let part = take_prefix of.given is.item.bytes item.item.bytes item.part in
      let read : take of.given of.item.bytes ≡ take part.0 (bytes_of r) =
      ap (λ (i : Sent). take of.given i.bytes) one ∙ part.1 ∙ ap (take part.0) bytes in
      let sendable = ((keeps.boxes outbox (box_of is.contents) box.here).entries id entry is.request.at).sendable in
      let still =
      moves_nothing r sendable part.0 is.reply is.from.bytes given is.gives of.marks of.ended
      (subst (λ front. IsTurnedAway front of.marks of.ended is.from.bytes) read of.turned) in
      let same =
      ap (renewed old.outboxes outbox) (set_open is.contents id is.text to is.request (is.moves ∙ still))
      ∙ renewed_same old.outboxes outbox is.contents is.here in
      let becomes : new ≡ old = is.becomes ∙ ap (λ outboxes. record old { outboxes = outboxes }) same in
      record { world = world; events = []; run = refl; stands = subst (λ n. Stands n world) (sym becomes) stands }

  -- ---- anything

  stranger : (old new : Situation) (world : World) (written : List ℕ) → Stands old world
      → new ≡ record old { sent = old.sent ++ record { from = None; bytes = written } ∷ [] } → GoesOn world new
  stranger old new world written stands becomes =
      let kept = stands.kept in
      let next = record world { sent = world.sent ++ record { from = None; bytes = written } ∷ [] } in
      record {
        world = next;
        events = StrangerSends written ∷ [];
        run = (next, refl, refl);
        stands = subst (λ n. Stands n next) (sym becomes) (record {
          kept = record {
            limit_is = kept.limit_is;
            requests = kept.requests;
            outboxes = kept.outboxes;
            sent = written_one_more old.sent world.sent (record { from = None; bytes = written })
                (record { from = None; bytes = written }) kept.sent refl (prefix_refl written);
            answers = kept.answers;
            up = kept.up;
          };
          refused = refusals_grow old.sent (record { from = None; bytes = written } ∷ []) old.refusals stands.refused;
        });
      }

  made : (old new : Situation) (world : World) (happening : Happening) → Keeps world → Stands old world
      → Makes limit old happening new → GoesOn world new
  made old new world (Serving delivery connection) keeps stands is = serving old new world delivery connection stands is
  made old new world (Killing delivery crash marks written) keeps stands is =
      killing old new world delivery crash marks written stands is
  made old new world (TurningAway delivery connection) keeps stands is =
      turning_away old new world delivery connection stands is
  made old new world (Putting outbox key target body) keeps stands is =
      putting old new world outbox key target body stands is
  made old new world (Writing outbox id written) keeps stands is = writing old new world outbox id written stands is
  made old new world (Hearing outbox id answer given to) keeps stands is =
      hearing old new world outbox id answer given to stands is
  made old new world (HearingRefusal outbox id refusal given to) keeps stands is =
      hearing_refusal old new world outbox id refusal given to keeps stands is
  made old new world (Stranger written) keeps stands is = stranger old new world written stands is

  run_join : (old : World) (events more : List Event) (between new : World) → Run old events between
      → Run between more new → Run old (events ++ more) new
  run_join old [] more between new first second = subst (λ w. Run w more new) first second
  run_join old (event ∷ events) more between new first second =
      (first.0, first.1, run_join first.0 events more between new first.2 second)

  happened : (old new : Situation) (world : World) (happenings : List Happening) → Keeps world → Stands old world
      → Happen limit old happenings new → GoesOn world new
  happened old new world [] keeps stands is =
      record { world = world; events = []; run = refl; stands = subst (λ n. Stands n world) (sym is) stands }
  happened old new world (happening ∷ happenings) keeps stands is =
      let first = made old is.0 world happening keeps stands is.1 in
      let rest =
      happened is.0 new first.world happenings (keeps_run world first.events first.world keeps first.run)
      first.stands is.2 in
      record {
        world = rest.world;
        events = first.events ++ rest.events;
        run =
            run_join world first.events rest.events first.world rest.world first.run rest.run;
        stands = rest.stands;
      }

  boxes_at_first : (filers : List (List ℕ)) → map new_outbox filers ≡ map box_of (map empty filers)
  boxes_at_first [] = refl
  boxes_at_first (filer ∷ filers) = ap (λ boxes. new_outbox filer ∷ boxes) (boxes_at_first filers)

  kept_at_first : (filers : List (List ℕ)) → IsKept limit (at_first filers) (start filers limit)
  unfolding firsts
  kept_at_first filers =
      record { limit_is = refl; requests = refl; outboxes = boxes_at_first filers; sent = tt; answers = tt; up = refl }

  none_at_first : (number : ℕ) (refusal : Answer) → numbered [] number ≡ Some refusal → IsRefusalOf [] refusal
  none_at_first zero refusal here = absurd (cc)
  none_at_first (suc k) refusal here = absurd (cc)

  stands_at_first : (filers : List (List ℕ)) → Stands (at_first filers) (start filers limit)
  stands_at_first filers = record { kept = kept_at_first filers; refused = none_at_first }

  -- ---- the headline

  pub reached : (filers : List (List ℕ)) (happenings : List Happening) (situation : Situation) → AreFilers filers
      → limit ≤ 2 ^ 62 → Happen limit (at_first filers) happenings situation → IsReached filers limit situation
  reached filers happenings situation are bound happen =
      let on = happened (at_first filers) situation (start filers limit) happenings (keeps_start filers limit are bound)
      (stands_at_first filers) happen in
      record {
        world = on.world;
        events = on.events;
        run = on.run;
        kept = on.stands.kept;
        holds =
            holds_after filers limit on.events on.world are bound on.run;
      }

  pub registered : (filers : List (List ℕ)) (happenings : List Happening) (situation : Situation) → AreFilers filers
      → limit ≤ 2 ^ 62 → Happen limit (at_first filers) happenings situation → AreRegistered situation
  registered filers happenings situation are bound happen outbox id number contents entry here there confirmed =
      let is = reached filers happenings situation are bound happen in
      let box = box_here situation is.world outbox contents is.kept here in
      ap (λ filings. numbers_of (request_of contents.filer entry) filings) (ap register is.kept.requests
      ∙ register-firsts is.world.done)
      ∙ is.holds.confirmed outbox id number (box_of contents) entry box.here there confirmed

  -- ---- a run of `intake serve`

  pub turned : (keys : ℕ) (old : Situation) (turns : List Turn) (deliveries : List Delivery) (after : List Request)
      → keys ≤ limit → ServeInTurn (keeping keys [] old.requests after) (served_in turns) → AreTurnedAway turns
      → AreOf old.sent (all_in turns) deliveries
      → (new : Situation) × TurnsHappen limit old deliveries turns after new
  turned keys old [] [] after few in_turn away are =
      (old, record { happen = refl; requests = sym in_turn; outboxes = refl; sent = refl })
  turned keys old [] (d ∷ ds) after few in_turn away are = absurd are
  turned keys old (Served told ∷ ts) [] after few in_turn away are = absurd are
  turned keys old (TurnedAway told ∷ ts) [] after few in_turn away are = absurd are
  turned keys old (Served told ∷ ts) (d ∷ ds) after few in_turn away are =
      let out = (connection_of told).output in
      let between : Situation =
      record old {
        requests = in_turn.0;
        answers = old.answers ++ record { item = d.item; bytes = out.bytes } ∷ [];
      } in
      let rest = turned keys between ts ds after few in_turn.2 away are.1 in (
        rest.0,
        record {
          happen = (
            between,
            record { came = are.0; keys = keys; few = few; serves = in_turn.1; becomes = refl },
            rest.1.happen,
          );
          requests = rest.1.requests;
          outboxes = rest.1.outboxes;
          sent = rest.1.sent;
        },
      )
  turned keys old (TurnedAway told ∷ ts) (d ∷ ds) after few in_turn away are =
      let out = (connection_of told).output in
      let between : Situation =
      record old { refusals = old.refusals ++ record { item = d.item; bytes = out.bytes } ∷ [] } in
      let rest = turned keys between ts ds after few in_turn away.1 are.1 in (
        rest.0,
        record {
          happen = (between, record { came = are.0; turned = away.0; becomes = refl }, rest.1.happen);
          requests = rest.1.requests;
          outboxes = rest.1.outboxes;
          sent = rest.1.sent;
        },
      )
