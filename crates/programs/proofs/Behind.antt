-- What is heard through a front is heard of the entry's own request, written and served again: so happenings without a
-- front keep the same requests and outboxes.
use Rattle.std.proofs.Common.{◌≡◌, ◌∙◌, ℕ, zero, suc, ◌^◌, ◌≤◌, true, List, [], ◌∷◌, ◌++◌, length, map, take, Some}
use Rattle.std.proofs.Common.{refl, sym, ap, subst, ⊎_elim, arith}
use Rattle.xbrl_report.specs.Findings.{tree}
use Rattle.http_messages.specs.Reply.{ReplyParts, render}
use Rattle.http_messages.specs.Response.{GivesReply, SpellsReply}
use Rattle.http_messages.proofs.ReplyRead.{reply-spells}
use Rattle.filing_model.specs.declared.served.Ended.TheVariants.{Closed}
use Rattle.filing_model.specs.declared.served.Mark.TheVariants.{Done}
use Rattle.filing_model.specs.declared.served.Style.TheVariants.{Problem}
use Rattle.filing_model.specs.Answer.{answer}
use Rattle.filing_model.specs.Outbox.{State, Open, moved, state_told, request_of, bytes_of, IsSendable}
use Rattle.filing_model.specs.Prefix.{IsPrefixOf}
use Rattle.filing_model.specs.Register.{register, numbers_of}
use Rattle.filing_model.specs.Reply.{reply_of}
use Rattle.filing_model.specs.Request.{Request, has_key, firsts}
use Rattle.filing_model.proofs.Answers.{answer-firsts}
use Rattle.filing_model.proofs.Finals.{answer-readable}
use Rattle.filing_model.proofs.Firsts.{has_key-firsts, firsts-firsts}
use Rattle.filing_model.proofs.Lists.{append_nil, prefix_refl, take_all}
use Rattle.filing_world.specs.World.{Sent, Output, World, numbered, renewed}
use Rattle.filing_world.specs.Headline.{AreFilers, start, IsOutput, Holds}
use Rattle.filing_world.specs.Invariant.{Keeps}
use Rattle.filing_world.proofs.Keeping.{keeps_run, keeps_start}
use Rattle.filing_world.proofs.Lists.{changed_renewed, renewed_same, same_element}
use Rattle.filing_world.proofs.Posting.{IsPosted, posted}
use Rattle.outbox_tables.specs.Entries.{Contents, contents_of}
use Rattle.outbox_core.specs.Entries.{in_state, set_state}
use Rattle.filer_client.specs.Exchange.{IsOpenRequest}
use Rattle.gateway_server.specs.Connections.{Connection}
use Rattle.programs.specs.Deliveries.{Delivery}
use Rattle.programs.specs.Fronts.{IsPassedOn, IsHearingThrough, Passing, Direct, HearingThrough, Passes, HappenBehind}
use Rattle.programs.specs.Fronts.{IsKeptWithout, IsReachedBehind}
use Rattle.programs.specs.Happenings.{Answer, Situation, at_first, Happening, Serving, Writing, Hearing, IsServing}
use Rattle.programs.specs.Happenings.{box_of, IsWriting, IsHearing, Happen, IsKept, IsReached, AreRegistered}
use Rattle.programs.proofs.Happening.{reached, registered}
use Rattle.programs.proofs.Situations.{numbered_map, written_numbered, answered_numbered}
use Rattle.programs.proofs.Told.{IsToldOf, told_first, served_again}
use Rattle.programs.proofs.More.{last_numbered, IsAlsoThere, AnswersAmong, among_longer, answers_there}
use Rattle.programs.proofs.Plain.{StandsBehind, GoesOnPlainly, answered, box_there, with_box, stands_with_box}
use Rattle.programs.proofs.Plain.{with_sent, direct}
use Rattle.http_messages.specs.Message.{BeginsRequest}
use Rattle.http_messages.proofs.MoreBytes.{BeginsRequest-more}

-- the status and the content alone move an entry
pub same_state : (reply told : ReplyParts) → reply.status ≡ told.status → reply.content ≡ told.content
    → moved Open reply ≡ moved Open told
unfolding moved
same_state reply told status content = λ i. state_told (status i) (tree (content i))

output_at : (world : World) → Holds world → (number : ℕ) (output : Output) → numbered world.outputs number ≡ Some output
    → IsOutput world.limit world.done world.sent output
output_at world holds zero output here = absurd (cc)
output_at world holds (suc k) output here = holds.outputs k output here

module _ (limit : ℕ) where
  -- ---- a reply that settles nothing

  -- an entry that is open still
  set_open : (contents : Contents) (id : ℕ) (text : List ℕ) (to : State)
      → IsOpenRequest contents.filer contents.entries id text → to ≡ Open
      → contents_of contents.filer (set_state contents.entries id to) ≡ contents
  set_open contents id text to request is_open =
      let entry = request.entry in
      let same : in_state Open entry ≡ entry = λ i. record entry { state = (sym request.is_open) i } in
      ap (contents_of contents.filer) (ap (set_state contents.entries id) is_open
      ∙ changed_renewed (in_state Open) contents.entries id entry request.at ∙ ap (renewed contents.entries id) same
      ∙ renewed_same contents.entries id entry request.at)

  nothing_settled : (old new plain : Situation) (outbox id : ℕ) (bytes : List ℕ) (to : State) → StandsBehind old plain
      → IsHearingThrough old outbox id bytes to new → to ≡ Open → GoesOnPlainly limit plain new
  nothing_settled old new plain outbox id bytes to stands is still =
      let same =
      ap (renewed old.outboxes outbox) (set_open is.contents id is.text to is.request still)
      ∙ renewed_same old.outboxes outbox is.contents is.here in
      let becomes : new ≡ old = is.becomes ∙ ap (λ outboxes. record old { outboxes = outboxes }) same in
      record {
        happenings = [];
        next = plain;
        happen = refl;
        stands = subst (λ n. StandsBehind n plain) (sym becomes) stands;
      }

  -- ---- an answer that was passed on

  -- what the intake answers first is told of the world's requests
  told_in : (old plain : Situation) (world : World) (r : Request) (reply : ReplyParts) → StandsBehind old plain
      → IsKept limit plain world → Holds world → Keeps world → (passed : IsPassedOn old r reply)
      → IsToldOf world.done r passed.told
  told_in old plain world r reply stands kept holds keeps passed =
      let also = stands.answers passed.answer passed.from passed.from_here in
      let item : also.item ≡ passed.item =
      same_element (numbered old.sent passed.from.item) also.item passed.item also.item_here passed.item_here in
      let as' =
      answered_numbered plain.answers world.outputs also.there.number also.there.answer kept.answers also.there.here in
      let whole =
      written_numbered plain.sent world.sent also.there.answer.item also.item kept.sent also.there.item_here in
      let out = output_at world holds also.there.number as'.output as'.here in
      let item_is : out.item ≡ whole.item =
      same_element (numbered world.sent as'.output.item) out.item whole.item out.here
      (ap (numbered world.sent) as'.item ∙ whole.here) in
      let bytes : passed.item.bytes ++ whole.part.0 ≡ out.item.bytes =
      ap (λ (i : Sent). i.bytes ++ whole.part.0) (sym item) ∙ sym whole.part.1
      ∙ ap (λ (i : Sent). i.bytes) (sym item_is) in
      let few : length (firsts world.done) ≤ 2 ^ 62 = omega (arith, keeps.few, keeps.limit) in
      let begins =
      subst (λ bs. BeginsRequest bs passed.message passed.message_len) bytes
      (BeginsRequest-more passed.item.bytes whole.part.0 passed.message passed.message_len passed.begins) in
      let gives =
      subst (λ bs. GivesReply bs passed.told) (sym (as'.bytes ∙ also.there.same)) passed.gives in
      told_first world.limit world.done out.before out.later r passed.message passed.message_len passed.asks
      out.item.bytes as'.output.given begins few as'.output.bytes passed.told gives out.arrivals out.ending
      as'.output.marks out.begins out.fit out.stands out.stable out.written

  -- The entry's own request is written, served after the requests that the register keeps, and its answer is heard.
  asked_again : (old new plain : Situation) (outbox id : ℕ) (bytes : List ℕ) (to : State) → StandsBehind old plain
      → (is : IsHearingThrough old outbox id bytes to new) → (r : Request)
      → r ≡ request_of is.contents.filer is.request.entry → IsPosted r → has_key plain.requests r ≡ true
      → firsts plain.requests ≡ plain.requests → length plain.requests ≤ 2 ^ 62
      → to ≡ moved Open (reply_of (answer plain.requests r)) → GoesOnPlainly limit plain new
  unfolding with_box with_sent answered
  asked_again old new plain outbox id bytes to stands is r r_is post known same few moves =
      let reply = reply_of (answer plain.requests r) in
      let readable =
      answer-readable Problem plain.requests r (omega (arith, few, ap length same)) in
      let out = render reply true in
      let item : Sent = record { from = Some (outbox, id); bytes = bytes_of r } in
      let written = with_sent plain item in
      let delivery : Delivery = record { item = suc (length plain.sent); given = length (bytes_of r) } in
      let connection : Connection = record {
        read = bytes_of r;
        output = record { marks = Done ∷ []; ended = Closed; bytes = out };
      } in
      let answer' = answered (suc (length plain.sent)) out in
      let served : Situation = record written { answers = plain.answers ++ answer' ∷ [] } in
      let after = contents_of is.contents.filer (set_state is.contents.entries id to) in
      let next = with_box served outbox after in
      let here = box_there old plain outbox is.contents stands is.here in
      let writes : IsWriting plain outbox id (bytes_of r) written = record {
        contents = is.contents;
        here = here;
        text = is.text;
        request = is.request;
        part = subst (λ bs. IsPrefixOf bs is.text) (is.request.bytes ∙ sym (ap bytes_of r_is)) (prefix_refl is.text);
        becomes = refl;
      } in
      let serves : IsServing limit written delivery connection served = record {
        came = record { from = item; here = last_numbered plain.sent item; read = sym (take_all (bytes_of r)) };
        keys = limit;
        few = omega arith;
        serves = served_again limit plain.requests r post known same;
        becomes = refl;
      } in
      let hears : IsHearing served served.answers outbox id (suc (length plain.answers)) (length out) to next = record {
        from = answer';
        from_here = last_numbered plain.answers answer';
        item = item;
        item_here = last_numbered plain.sent item;
        sender = refl;
        contents = is.contents;
        here = here;
        text = is.text;
        request = is.request;
        reply = reply;
        gives = (
          length out,
          subst (λ bs. SpellsReply bs reply) (sym (ap (take (length out)) (take_all out) ∙ take_all out))
              (reply-spells reply true readable),
        );
        moves = moves;
        becomes = refl;
      } in
      let behind : StandsBehind old served = record {
        requests = stands.requests;
        outboxes = stands.outboxes;
        sent = among_longer old.sent plain.sent (item ∷ []) stands.sent;
        answers = answers_there old.sent plain.sent (item ∷ []) old.answers plain.answers (answer' ∷ []) stands.answers;
        refusals = subst (AnswersAmong old.sent old.refusals (plain.sent ++ item ∷ [])) (append_nil plain.refusals)
            (answers_there old.sent plain.sent (item ∷ []) old.refusals plain.refusals [] stands.refusals);
      } in
      record {
        happenings = Writing outbox id (bytes_of r) ∷ Serving delivery connection
            ∷ Hearing outbox id (suc (length plain.answers)) (length out) to ∷ [];
        next = next;
        happen = (written, writes, (served, serves, (next, hears, refl)));
        stands = subst (λ n. StandsBehind n next) (sym is.becomes) (stands_with_box old served outbox after behind);
      }

  hearing_through : (filers : List (List ℕ)) (happenings : List Happening) (old new plain : Situation) (outbox id : ℕ)
      (bytes : List ℕ) (to : State) → AreFilers filers → limit ≤ 2 ^ 62
      → Happen limit (at_first filers) happenings plain → StandsBehind old plain
      → IsHearingThrough old outbox id bytes to new → GoesOnPlainly limit plain new
  hearing_through filers happenings old new plain outbox id bytes to are bound happen stands is = ⊎_elim
      (λ (passed : IsPassedOn old (request_of is.contents.filer is.request.entry) is.reply). by_told passed)
      (λ (still : moved Open is.reply ≡ Open). nothing_settled old new plain outbox id bytes to stands is (is.moves
      ∙ still))
      is.front
    where
      r : Request
      r = request_of is.contents.filer is.request.entry

      reach : IsReached filers limit plain
      reach = reached limit filers happenings plain are bound happen

      keeps : Keeps reach.world
      keeps = keeps_run (start filers limit) reach.events reach.world (keeps_start filers limit are bound) reach.run

      sendable : IsSendable r
      sendable =
          let here =
          ap (λ boxes. numbered boxes outbox) reach.kept.outboxes
          ∙ numbered_map box_of plain.outboxes outbox is.contents (box_there old plain outbox is.contents stands
          is.here) in
          ((keeps.boxes outbox (box_of is.contents) here).entries id is.request.entry is.request.at).sendable

      by_told : IsPassedOn old r is.reply → GoesOnPlainly limit plain new
      by_told passed =
          let alike : to ≡ moved Open passed.told =
          is.moves ∙ same_state is.reply passed.told passed.status passed.content in
          ⊎_elim
          (λ (still : moved Open passed.told ≡ Open). nothing_settled old new plain outbox id bytes to stands is (alike
          ∙ still))
          (λ (told : (has_key reach.world.done r ≡ true) × (passed.told ≡ reply_of (answer reach.world.done r))).
          asked_again old new plain outbox id bytes to stands is r refl (posted r sendable)
          (ap (λ q. has_key q r) reach.kept.requests ∙ has_key-firsts reach.world.done r ∙ told.0)
          (ap firsts reach.kept.requests ∙ firsts-firsts reach.world.done ∙ sym reach.kept.requests)
          (omega (arith, keeps.few, keeps.limit, ap length reach.kept.requests))
          (alike ∙ ap (moved Open) (told.1 ∙ ap reply_of (sym (answer-firsts reach.world.done r))
          ∙ ap (λ q. reply_of (answer q r)) (sym reach.kept.requests))))
          (told_in old plain reach.world r is.reply stands reach.kept reach.holds keeps passed)

  -- ---- any such happenings

  happen_join : (old : Situation) (happenings more : List Happening) (between new : Situation)
      → Happen limit old happenings between → Happen limit between more new → Happen limit old (happenings ++ more) new
  happen_join old [] more between new first second = subst (λ s. Happen limit s more new) first second
  happen_join old (happening ∷ happenings) more between new first second =
      (first.0, first.1, happen_join first.0 happenings more between new first.2 second)

  -- happenings without a front, from the start on
  record IsPlain (filers : List (List ℕ)) (situation : Situation) : Type 0 where
    pub happenings : List Happening
    pub plain : Situation
    pub happen : Happen limit (at_first filers) happenings plain
    pub stands : StandsBehind situation plain

  module _ (filers : List (List ℕ)) (are : AreFilers filers) (bound : limit ≤ 2 ^ 62) where
    then_plain : (old new : Situation) → (is : IsPlain filers old) → GoesOnPlainly limit is.plain new
        → IsPlain filers new
    then_plain old new is on = record {
      happenings = is.happenings ++ on.happenings;
      plain = on.next;
      happen =
          happen_join (at_first filers) is.happenings on.happenings is.plain on.next is.happen on.happen;
      stands = on.stands;
    }

    one_passing : (old new : Situation) (passing : Passing) → IsPlain filers old → Passes limit old passing new
        → IsPlain filers new
    one_passing old new (Direct happening) is passes =
        then_plain old new is (direct limit old new is.plain happening is.stands passes)
    one_passing old new (HearingThrough outbox id bytes to) is passes =
        then_plain old new is
        (hearing_through filers is.happenings old new is.plain outbox id bytes to are bound is.happen is.stands passes)

    all_passings : (old new : Situation) (passings : List Passing) → IsPlain filers old
        → HappenBehind limit old passings new → IsPlain filers new
    all_passings old new [] is happen = subst (IsPlain filers) (sym happen) is
    all_passings old new (passing ∷ passings) is happen =
        all_passings happen.0 new passings (one_passing old happen.0 passing is happen.1) happen.2

    none_there : (number : ℕ) (answer : Answer) → numbered [] number ≡ Some answer → IsAlsoThere [] answer [] []
    none_there zero answer here = absurd (cc)
    none_there (suc k) answer here = absurd (cc)

    plain_at_first : IsPlain filers (at_first filers)
    plain_at_first = record {
      happenings = [];
      plain = at_first filers;
      happen = refl;
      stands = record {
        requests = refl;
        outboxes = refl;
        sent = λ number item here. (number, here);
        answers = none_there;
        refusals = none_there;
      };
    }

    module _ (passings : List Passing) (situation : Situation)
        (happen : HappenBehind limit (at_first filers) passings situation) where
      is_plain : IsPlain filers situation
      is_plain = all_passings (at_first filers) situation passings plain_at_first happen

      pub kept_without : IsKeptWithout filers limit situation
      kept_without = record {
        happenings = is_plain.happenings;
        plain = is_plain.plain;
        happen = is_plain.happen;
        requests = is_plain.stands.requests;
        outboxes = is_plain.stands.outboxes;
      }

      pub reached_behind : IsReachedBehind filers limit situation
      reached_behind =
          let reach = reached limit filers is_plain.happenings is_plain.plain are bound is_plain.happen in
          record {
            world = reach.world;
            events = reach.events;
            run = reach.run;
            requests = sym is_plain.stands.requests ∙ reach.kept.requests;
            outboxes = reach.kept.outboxes ∙ ap (map box_of) is_plain.stands.outboxes;
            holds = reach.holds;
          }

      pub registered_behind : AreRegistered situation
      registered_behind outbox id number contents entry here there confirmed =
          let all = registered limit filers is_plain.happenings is_plain.plain are bound is_plain.happen in
          ap (λ q. numbers_of (request_of contents.filer entry) (register q)) (sym is_plain.stands.requests)
          ∙ all outbox id number contents entry (ap (λ boxes. numbered boxes outbox) is_plain.stands.outboxes ∙ here)
          there confirmed
