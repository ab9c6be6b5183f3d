-- Every event keeps what the headline says.
use Rattle.std.proofs.Common.{◌≡◌, ℕ, zero, suc, ◌^◌, ◌≤◌, true, false, not, List, [], ◌∷◌, ◌++◌, map, length, take}
use Rattle.std.proofs.Common.{Option, Some, None, refl, sym, ap, ◌∙◌, subst, ⊎_elim, arith, append_assoc}
use Rattle.std.specs.Prelude.{slice_get, bytes_eq}
use Rattle.std.specs.List.{list_any}
use Rattle.std.proofs.lemmas.Bool.{cases_Bool, and_parts, both_ways, leb-true, not-true}
use Rattle.std.proofs.lemmas.Slice.Eq.{bytes_eq-Decides}
use Rattle.std.proofs.lemmas.Option.{some_pair_parts}
use Rattle.key_string.specs.Key.{IsKey}
use Rattle.http_messages.specs.Head.{max_body_len}
use Rattle.http_messages.specs.Reply.{ReplyParts}
use Rattle.http_messages.specs.Response.{GivesReply}
use Rattle.http_messages.specs.Posting.{IsTarget}
use Rattle.filing_model.specs.Request.{Request, firsts}
use Rattle.filing_model.specs.Answer.{IsRegistered}
use Rattle.filing_model.specs.Outbox.{State, Open, Confirmed, Refused, Clashed, moved, Entry, request_of, bytes_of}
use Rattle.filing_model.specs.Serving.{BeginsArrivals}
use Rattle.filing_model.specs.Stopping.{Crash}
use Rattle.filing_model.specs.Text.{completed}
use Rattle.filing_model.proofs.Lists.{append_nil, take_take}
use Rattle.filing_model.proofs.Firsts.{firsts_none}
use Rattle.filing_model.proofs.Marks.{completed_within, replies_stand}
use Rattle.filing_model.proofs.Stopping.{serves_begin, serves_front}
use Rattle.filing_model.proofs.Answers.{registered_grows, registered_number}
use Rattle.filing_model.proofs.Keeping.{register_numbered}
use Rattle.filing_model.proofs.Valid.{register_valid}
use Rattle.filing_world.specs.World.{Outbox, Sent, Output, World, Event, Put, Send, Stranger, Deliver, Hand}
use Rattle.filing_world.specs.World.{RestartServer, RestartOutbox, numbered, renewed, new_outbox}
use Rattle.filing_world.specs.Step.{is_no, takes, with_entry, Puts, Sends, Delivers, Hears, heard_by, box_after, Hands}
use Rattle.filing_world.specs.Step.{Restarts, Step, Run}
use Rattle.filing_world.specs.Headline.{AreFilers, start, IsOutput, CompleteInTurn, HaveOwnKeys, IsOwn, Holds}
use Rattle.filing_world.specs.Invariant.{IsSound, IsSoundOutbox, AllOutboxes, AllOutputs, AllOwn, Keeps}
use Rattle.filing_world.proofs.Lists.{numbered_renewed, renewed_numbered, renewed_other, numbered_push, numbered_last}
use Rattle.filing_world.proofs.Lists.{numbered_grows, get_push, same_element, any_at}
use Rattle.filing_world.proofs.Hearing.{hears, hears_gives}
use Rattle.filing_world.proofs.Stability.{answers_stand}

-- ---- a changed outbox

-- each entry with its request
abbrev KeepsBox : Outbox → Outbox → Type 0
KeepsBox old new = (number : ℕ) (entry : Entry) → numbered old.entries number ≡ Some entry
    → (now : Entry) × (numbered new.entries number ≡ Some now) × (request_of new.filer now ≡ request_of old.filer entry)

boxes_renewed : (done : List Request) (boxes : List Outbox) (outbox : ℕ) (new : Outbox) → AllOutboxes done boxes
    → IsSoundOutbox done new → AllOutboxes done (renewed boxes outbox new)
boxes_renewed done boxes outbox new all sound which box here = ⊎_elim
    (λ (e : (which ≡ outbox) × (box ≡ new)). subst (IsSoundOutbox done) (sym e.1) sound)
    (λ (e : numbered boxes which ≡ Some box). all which box e)
    (numbered_renewed boxes outbox which new box here)

own_renewed : (boxes : List Outbox) (sent : List Sent) (outbox : ℕ) (old new : Outbox)
    → numbered boxes outbox ≡ Some old → KeepsBox old new → AllOwn boxes sent → AllOwn (renewed boxes outbox new) sent
own_renewed boxes sent outbox old new here keeps all k which number item there from =
    let own = all k which number item there from in
    ⊎_elim
    (λ (e : which ≡ outbox).
    let same : old ≡ own.box =
    same_element (numbered boxes outbox) old own.box here
    (subst (λ o. numbered boxes o ≡ Some own.box) e own.here) in
    let now =
    keeps number own.entry (subst (λ (b : Outbox). numbered b.entries number ≡ Some own.entry) (sym same)
    own.there) in
    record {
      box = new;
      here = subst (λ o. numbered (renewed boxes outbox new) o ≡ Some new) (sym e)
          (renewed_numbered boxes outbox new old here);
      entry = now.0;
      there = now.1;
      bytes = own.bytes ∙ sym (ap bytes_of (now.2 ∙ ap (λ (b : Outbox). request_of b.filer own.entry) same));
    })
    (λ (e : numbered (renewed boxes outbox new) which ≡ Some own.box). record {
      box = own.box;
      here = e;
      entry =
          own.entry;
      there = own.there;
      bytes = own.bytes;
    })
    (renewed_other boxes outbox which new own.box own.here)

-- ---- a list of requests, or of what was sent, that goes on

output_done : (limit : ℕ) (done more : List Request) (sent : List Sent) (output : Output)
    → IsOutput limit done sent output → IsOutput limit (done ++ more) sent output
output_done limit done more sent output out = record {
  item = out.item;
  here = out.here;
  before = out.before;
  later = out.later ++ more;
  arrivals = out.arrivals;
  ending = out.ending;
  begins = out.begins;
  fit = out.fit;
  stands = longer;
  count = out.count;
  written = out.written;
  stable = replies_stand (done ++ more) out.before out.arrivals output.marks (out.later ++ more) longer;
}
  where
    longer : done ++ more ≡ out.before ++ (completed out.arrivals output.marks ++ (out.later ++ more))
    longer =
        ap (λ requests. requests ++ more) out.stands
        ∙ append_assoc out.before (completed out.arrivals output.marks ++ out.later) more
        ∙ ap (λ rest. out.before ++ rest) (append_assoc (completed out.arrivals output.marks) out.later more)

output_sent : (limit : ℕ) (done : List Request) (sent more : List Sent) (output : Output)
    → IsOutput limit done sent output → IsOutput limit done (sent ++ more) output
output_sent limit done sent more output out = record {
  item = out.item;
  here = numbered_grows sent more output.item out.item out.here;
  before = out.before;
  later = out.later;
  arrivals = out.arrivals;
  ending = out.ending;
  begins = out.begins;
  fit = out.fit;
  stands = out.stands;
  count = out.count;
  written = out.written;
  stable = out.stable;
}

sound_done : (done more : List Request) (box : Outbox) → IsSoundOutbox done box → IsSoundOutbox (done ++ more) box
sound_done done more box sound = record {
  is_filer' = sound.is_filer';
  entries = λ number entry here.
      let was = sound.entries number entry here in
      record {
        sendable = was.sendable;
        registered =
            λ n e. registered_grows done more (request_of box.filer entry) n (was.registered n e);
      };
  keys = sound.keys;
}

-- ---- what the outputs completed, where the requests or what was sent go on

turn_sent : (limit : ℕ) (done before : List Request) (sent more : List Sent) (outputs : List Output)
    → CompleteInTurn limit done sent before outputs → CompleteInTurn limit done (sent ++ more) before outputs
unfolding output_sent
turn_sent limit done before sent more [] all = all
turn_sent limit done before sent more (output ∷ outputs) all = (
  output_sent limit done sent more output all.0,
  all.1,
  turn_sent limit done (before ++ completed all.0.arrivals output.marks) sent more outputs all.2,
)

-- an output more, which completed what was added
turn_push : (limit : ℕ) (done more before : List Request) (sent : List Sent) (outputs : List Output) (last : Output)
    (out : IsOutput limit (done ++ more) sent last) → out.before ≡ done → completed out.arrivals last.marks ≡ more
    → CompleteInTurn limit done sent before outputs
    → CompleteInTurn limit (done ++ more) sent before (outputs ++ last ∷ [])
unfolding output_done
turn_push limit done more before sent [] last out begins adds all =
    (out, begins ∙ all, ap (λ requests. requests ++ more) all ∙ ap (λ requests. before ++ requests) (sym adds))
turn_push limit done more before sent (output ∷ outputs) last out begins adds all = (
  output_done limit done more sent output all.0,
  all.1,
  turn_push limit done more (before ++ completed all.0.arrivals output.marks) sent outputs last out begins adds
      all.2,
)

-- ---- the events

puts_box : (done : List Request) (box : Outbox) (entry : Entry) → IsKey entry.key → IsTarget entry.target
    → entry.state ≡ Open → IsSoundOutbox done box
    → IsSoundOutbox done (with_entry box entry) × KeepsBox box (with_entry box entry)
puts_box done box entry is_key is_target open' sound = ⊎_elim
    (λ (h : takes box entry ≡ true). rw h (added (leb-true _ _ (and_parts _ _ h).0) (and_parts _ _ h).1))
    (λ (h : takes box entry ≡ false). rw h (sound, λ number which here. (which, here, refl)))
    (cases_Bool (takes box entry))
  where
    more : Outbox
    more = record box { entries = box.entries ++ entry ∷ [] }

    fresh : length entry.body ≤ max_body_len → IsSound done box.filer entry
    fresh short = record {
      sendable = record { filer = sound.is_filer'; key = is_key; target = is_target; body = short };
      registered = λ n e. absurd (unconfirmed n (sym open' ∙ e));
    }
      where
        unconfirmed : (n : ℕ) → Open ≡ Confirmed n → ⊥
        unconfirmed n e = cc

    -- the key is no entry's
    unused : not (list_any (λ e. bytes_eq e.key entry.key) box.entries) ≡ true → (number : ℕ) (which : Entry)
        → numbered box.entries number ≡ Some which → which.key ≡ entry.key → ⊥
    unused none number which here same =
        both_ways (list_any (λ e. bytes_eq e.key entry.key) box.entries) (not-true _ none)
        (any_at (λ e. bytes_eq e.key entry.key) box.entries number which here
        ((bytes_eq-Decides which.key entry.key).1 same))

    own_keys : not (list_any (λ e. bytes_eq e.key entry.key) box.entries) ≡ true → HaveOwnKeys more.entries
    own_keys none one other first second here there same = ⊎_elim
        (λ (h : numbered box.entries one ≡ Some first). ⊎_elim
        (λ (t : numbered box.entries other ≡ Some second). sound.keys one other first second h t same)
        (λ (t : (other ≡ suc (length box.entries)) × (second ≡ entry)).
        absurd (unused none one first h (same ∙ ap (λ (e : Entry). e.key) t.1)))
        (numbered_last box.entries entry other second there))
        (λ (h : (one ≡ suc (length box.entries)) × (first ≡ entry)). ⊎_elim
        (λ (t : numbered box.entries other ≡ Some second).
        absurd (unused none other second t (sym same ∙ ap (λ (e : Entry). e.key) h.1)))
        (λ (t : (other ≡ suc (length box.entries)) × (second ≡ entry)). h.0 ∙ sym t.0)
        (numbered_last box.entries entry other second there))
        (numbered_last box.entries entry one first here)

    added : length entry.body ≤ max_body_len → not (list_any (λ e. bytes_eq e.key entry.key) box.entries) ≡ true
        → IsSoundOutbox done more × KeepsBox box more
    added short none = (
      record {
        is_filer' = sound.is_filer';
        entries = λ number which here. ⊎_elim
            (λ (e : numbered box.entries number ≡ Some which). sound.entries number which e)
            (λ (e : which ≡ entry). subst (IsSound done box.filer) (sym e) (fresh short))
            (numbered_push box.entries entry number which here);
        keys = own_keys none;
      },
      λ number which here. (which, numbered_grows box.entries (entry ∷ []) number which here, refl),
    )

pub keeps_put : (old : World) (outbox : ℕ) (entry : Entry) (new : World) → entry.state ≡ Open → Keeps old
    → Puts old outbox entry new → Keeps new
keeps_put old outbox entry new open' keeps step = subst Keeps (sym step.becomes) after
  where
    parts : IsSoundOutbox old.done (with_entry step.box entry) × KeepsBox step.box (with_entry step.box entry)
    parts = puts_box old.done step.box entry step.is_key step.is_target open' (keeps.boxes outbox step.box step.here)

    after : Keeps (record old { outboxes = renewed old.outboxes outbox (with_entry step.box entry) })
    after = record {
      outputs = keeps.outputs;
      completed = keeps.completed;
      own = own_renewed old.outboxes old.sent outbox step.box (with_entry step.box entry) step.here parts.1 keeps.own;
      boxes = boxes_renewed old.done old.outboxes outbox (with_entry step.box entry) keeps.boxes parts.0;
      few = keeps.few;
      limit = keeps.limit;
    }

-- something more was sent, by nobody or by the entry whose request it is
pub keeps_sent : (old : World) (item : Sent) → Keeps old
    → ((outbox number : ℕ) → item.from ≡ Some (outbox, number) → IsOwn old.outboxes item outbox number)
    → Keeps (record old { sent = old.sent ++ item ∷ [] })
keeps_sent old item keeps own = record {
  outputs = λ k output there. output_sent old.limit old.done old.sent (item ∷ []) output (keeps.outputs k output there);
  completed = turn_sent old.limit old.done [] old.sent (item ∷ []) old.outputs keeps.completed;
  own = λ k outbox number which there from. ⊎_elim
      (λ (e : slice_get old.sent k ≡ Some which). keeps.own k outbox number which e from)
      (λ (e : which ≡ item). subst (λ x. IsOwn old.outboxes x outbox number) (sym e)
      (own outbox number (subst (λ (x : Sent). x.from ≡ Some (outbox, number)) e from)))
      (get_push old.sent item k which there);
  boxes = keeps.boxes;
  few = keeps.few;
  limit = keeps.limit;
}

pub keeps_send : (old : World) (outbox entry : ℕ) (new : World) → Keeps old → Sends old outbox entry new → Keeps new
keeps_send old outbox entry new keeps step = subst Keeps (sym step.becomes) (keeps_sent old item keeps own)
  where
    item : Sent
    item = record { from = Some (outbox, entry); bytes = bytes_of (request_of step.box.filer step.what) }

    it_is : IsOwn old.outboxes item outbox entry
    it_is = record { box = step.box; here = step.here; entry = step.what; there = step.there; bytes = refl }

    own : (o number : ℕ) → item.from ≡ Some (o, number) → IsOwn old.outboxes item o number
    own o number from =
        let same = some_pair_parts outbox o entry number from in
        subst (λ (x : ℕ × ℕ). IsOwn old.outboxes item x.0 x.1) (λ i. (same.0 i, same.1 i)) it_is

pub keeps_deliver : (old : World) (item given : ℕ) (crash : Crash) (new : World) → Keeps old
    → Delivers old item given crash new → Keeps new
keeps_deliver old item given crash new keeps step = subst Keeps (sym step.becomes) after
  where
    more : List Request
    more = completed step.arrivals step.marks

    output : Output
    output = record {
      item = item;
      given = length (take given step.from.bytes);
      before = length old.done;
      marks =
          step.marks;
      ended = step.ended;
      bytes = step.out;
    }

    stands : old.done ++ more ≡ old.done ++ (more ++ [])
    stands = ap (λ rest. old.done ++ rest) (sym (append_nil more))

    it_is : IsOutput old.limit (old.done ++ more) old.sent output
    it_is = record {
      item = step.from;
      here = step.here;
      before = old.done;
      later = [];
      arrivals = step.arrivals;
      ending = step.serves.ending;
      begins = subst (λ bytes. BeginsArrivals bytes step.arrivals step.serves.ending)
          (sym (take_take given step.from.bytes))
          (serves_begin old.limit old.done (take given step.from.bytes) crash step.arrivals step.marks step.ended
          step.out step.serves);
      fit = step.serves.fit;
      stands = stands;
      stable = replies_stand (old.done ++ more) old.done step.arrivals step.marks [] stands;
      count = refl;
      written =
          serves_front old.limit old.done (take given step.from.bytes) crash step.arrivals step.marks step.ended
          step.out step.serves;
    }

    after : Keeps (record old { done = old.done ++ more; outputs = old.outputs ++ output ∷ []; up = is_no crash })
    after = record {
      outputs = λ k which there. ⊎_elim
          (λ (e : slice_get old.outputs k ≡ Some which). output_done old.limit old.done more old.sent which
          (keeps.outputs k which e))
          (λ (e : which ≡ output). subst (IsOutput old.limit (old.done ++ more) old.sent) (sym e) it_is)
          (get_push old.outputs output k which there);
      completed = turn_push old.limit old.done more [] old.sent old.outputs output it_is refl refl keeps.completed;
      own = keeps.own;
      boxes = λ outbox box here. sound_done old.done more box (keeps.boxes outbox box here);
      few = completed_within old.limit old.done step.arrivals step.marks step.serves.fit keeps.few;
      limit = keeps.limit;
    }

output_numbered : (limit : ℕ) (done : List Request) (sent : List Sent) (outputs : List Output)
    → AllOutputs limit done sent outputs → (number : ℕ) (output : Output) → numbered outputs number ≡ Some output
    → IsOutput limit done sent output
output_numbered limit done sent outputs all zero output here = absurd (cc)
output_numbered limit done sent outputs all (suc k) output here = all k output here

own_numbered : (boxes : List Outbox) (sent : List Sent) → AllOwn boxes sent
    → (number : ℕ) (item : Sent) (outbox entry : ℕ) → numbered sent number ≡ Some item
    → item.from ≡ Some (outbox, entry) → IsOwn boxes item outbox entry
own_numbered boxes sent all zero item outbox entry here from = absurd (cc)
own_numbered boxes sent all (suc k) item outbox entry here from = all k outbox entry item here from

-- what was heard confirms only what is registered
heard_sound : (done : List Request) (filer : List ℕ) (entry : Entry) (bytes : List ℕ) (crash : Crash)
    (heard : Option ReplyParts) → IsSound done filer entry
    → ((reply : ReplyParts) → GivesReply bytes reply → (n : ℕ) → moved Open reply ≡ Confirmed n
    → IsRegistered done (request_of filer entry) n) → Hears bytes crash heard
    → IsSound done filer (record entry { state = heard_by entry.state heard })
unfolding moved
heard_sound done filer entry bytes crash heard sound tells hears =
    record { sendable = sound.sendable; registered = registered heard hears }
  where
    by_reply : (reply : ReplyParts) → GivesReply bytes reply → (state : State) → entry.state ≡ state → (n : ℕ)
        → moved state reply ≡ Confirmed n → IsRegistered done (request_of filer entry) n
    by_reply reply gives Open was n e = tells reply gives n e
    by_reply reply gives (Confirmed m) was n e = sound.registered n (was ∙ e)
    by_reply reply gives Refused was n e = absurd (cc)
    by_reply reply gives Clashed was n e = absurd (cc)

    registered : (heard : Option ReplyParts) → Hears bytes crash heard → (n : ℕ)
        → heard_by entry.state heard ≡ Confirmed n → IsRegistered done (request_of filer entry) n
    registered None hears n e = sound.registered n e
    registered (Some reply) hears n e = by_reply reply (hears_gives bytes crash reply hears) entry.state refl n e

pub keeps_hand : (old : World) (output given : ℕ) (crash : Crash) (new : World) → Keeps old
    → Hands old output given crash new → Keeps new
keeps_hand old output given crash new keeps step = subst Keeps (sym step.becomes) after
  where
    entry : Entry
    entry = record step.entry { state = heard_by step.entry.state step.heard }

    box : Outbox
    box = box_after step.box step.number step.entry step.heard crash

    was : IsSoundOutbox old.done step.box
    was = keeps.boxes step.outbox step.box step.box_here

    sound : IsSound old.done step.box.filer step.entry
    sound = was.entries step.number step.entry step.entry_here

    out : IsOutput old.limit old.done old.sent step.from
    out = output_numbered old.limit old.done old.sent old.outputs keeps.outputs output step.from step.here

    own : IsOwn old.outboxes step.item step.outbox step.number
    own = own_numbered old.outboxes old.sent keeps.own step.from.item step.item step.outbox step.number step.item_here
        step.sender

    bytes : out.item.bytes ≡ bytes_of (request_of step.box.filer step.entry)
    bytes =
        let same_item : out.item ≡ step.item =
        same_element (numbered old.sent step.from.item) out.item step.item out.here step.item_here in
        let same_box : own.box ≡ step.box =
        same_element (numbered old.outboxes step.outbox) own.box step.box own.here step.box_here in
        let same_entry : own.entry ≡ step.entry =
        same_element (numbered step.box.entries step.number) own.entry step.entry
        (subst (λ (b : Outbox). numbered b.entries step.number ≡ Some own.entry) same_box own.there)
        step.entry_here in
        ap (λ (x : Sent). x.bytes) same_item ∙ own.bytes
        ∙ (λ i. bytes_of (request_of (same_box i).filer (same_entry i)))

    tells : (reply : ReplyParts) → GivesReply (take given step.from.bytes) reply → (n : ℕ)
        → moved Open reply ≡ Confirmed n → IsRegistered old.done (request_of step.box.filer step.entry) n
    tells reply gives n e =
        hears old.limit old.done old.sent step.from (request_of step.box.filer step.entry) out
        (omega (arith, keeps.few, keeps.limit)) sound.sendable bytes given reply gives n e

    new_entry : IsSound old.done step.box.filer entry
    new_entry =
        heard_sound old.done step.box.filer step.entry (take given step.from.bytes) crash step.heard sound tells
        step.hears

    -- each entry has the key that stood there
    key_at : (number : ℕ) (which : Entry) → numbered box.entries number ≡ Some which
        → (was : Entry) × (numbered step.box.entries number ≡ Some was) × (was.key ≡ which.key)
    key_at number which here = ⊎_elim
        (λ (e : (number ≡ step.number) × (which ≡ entry)). (
          step.entry,
          subst (λ k. numbered step.box.entries k ≡ Some step.entry) (sym e.0) step.entry_here,
          ap (λ (x : Entry). x.key) (sym e.1),
        ))
        (λ (e : numbered step.box.entries number ≡ Some which). (which, e, refl))
        (numbered_renewed step.box.entries step.number number entry which here)

    own_keys : HaveOwnKeys box.entries
    own_keys one other first second here there same =
        let a = key_at one first here in
        let b = key_at other second there in
        was.keys one other a.0 b.0 a.1 b.1 (a.2 ∙ same ∙ sym b.2)

    new_box : IsSoundOutbox old.done box
    new_box = record {
      is_filer' = was.is_filer';
      entries = λ number which here. ⊎_elim
          (λ (e : (number ≡ step.number) × (which ≡ entry)). subst (IsSound old.done step.box.filer) (sym e.1)
          new_entry)
          (λ (e : numbered step.box.entries number ≡ Some which). was.entries number which e)
          (numbered_renewed step.box.entries step.number number entry which here);
      keys = own_keys;
    }

    keeps_box : KeepsBox step.box box
    keeps_box number which here = ⊎_elim
        (λ (e : number ≡ step.number).
        let same : step.entry ≡ which =
        same_element (numbered step.box.entries step.number) step.entry which step.entry_here
        (subst (λ k. numbered step.box.entries k ≡ Some which) e here) in (
          entry,
          subst (λ k. numbered box.entries k ≡ Some entry) (sym e)
              (renewed_numbered step.box.entries step.number entry step.entry step.entry_here),
          ap (request_of step.box.filer) same,
        ))
        (λ (e : numbered box.entries number ≡ Some which). (which, e, refl))
        (renewed_other step.box.entries step.number number entry which here)

    after : Keeps (record old { outboxes = renewed old.outboxes step.outbox box })
    after = record {
      outputs = keeps.outputs;
      completed = keeps.completed;
      own = own_renewed old.outboxes old.sent step.outbox step.box box step.box_here keeps_box keeps.own;
      boxes = boxes_renewed old.done old.outboxes step.outbox box keeps.boxes new_box;
      few = keeps.few;
      limit = keeps.limit;
    }

pub keeps_restart : (old : World) (outbox : ℕ) (new : World) → Keeps old → Restarts old outbox new → Keeps new
keeps_restart old outbox new keeps step = subst Keeps (sym step.becomes) after
  where
    was : IsSoundOutbox old.done step.box
    was = keeps.boxes outbox step.box step.here

    box : Outbox
    box = record step.box { up = true }

    after : Keeps (record old { outboxes = renewed old.outboxes outbox box })
    after = record {
      outputs = keeps.outputs;
      completed = keeps.completed;
      own = own_renewed old.outboxes old.sent outbox step.box box step.here ((λ number which here. (which, here, refl)))
          keeps.own;
      boxes = boxes_renewed old.done old.outboxes outbox box keeps.boxes
          (record { is_filer' = was.is_filer'; entries = was.entries; keys = was.keys });
      few = keeps.few;
      limit = keeps.limit;
    }

-- whatever happens next, the world keeps it
pub keeps_step : (old : World) (event : Event) (new : World) → Keeps old → Step old event new → Keeps new
keeps_step old (Put outbox key target body) new keeps step =
    keeps_put old outbox (record { key = key; target = target; body = body; state = Open }) new refl keeps step
keeps_step old (Send outbox entry) new keeps step = keeps_send old outbox entry new keeps step
keeps_step old (Stranger bytes) new keeps step =
    subst Keeps (sym step) (keeps_sent old (record { from = None; bytes = bytes }) keeps
    (λ outbox number from. absurd (cc)))
keeps_step old (Deliver item given crash) new keeps step = keeps_deliver old item given crash new keeps step
keeps_step old (Hand output given crash) new keeps step = keeps_hand old output given crash new keeps step
keeps_step old RestartServer new keeps step =
    subst Keeps (sym step) (record {
      outputs = keeps.outputs;
      completed = keeps.completed;
      own = keeps.own;
      boxes =
          keeps.boxes;
      few = keeps.few;
      limit = keeps.limit;
    })
keeps_step old (RestartOutbox outbox) new keeps step = keeps_restart old outbox new keeps step

pub keeps_run : (old : World) (events : List Event) (new : World) → Keeps old → Run old events new → Keeps new
keeps_run old [] new keeps run = subst Keeps (sym run) keeps
keeps_run old (event ∷ events) new keeps run = keeps_run run.0 events new (keeps_step old event run.0 keeps run.1) run.2

-- ---- at first, and what follows

boxes_at_first : (filers : List (List ℕ)) → AreFilers filers → (k : ℕ) (box : Outbox)
    → slice_get (map new_outbox filers) k ≡ Some box → IsSoundOutbox [] box
boxes_at_first [] are k box here = absurd (cc)
boxes_at_first (filer ∷ filers) are zero box here =
    let new : new_outbox filer ≡ box = cc in
    subst (IsSoundOutbox []) new (record {
      is_filer' = (and_parts _ _ are).0;
      entries =
          λ number entry there. absurd (none number entry there);
      keys =
          λ one other entry again here. absurd (none one entry here);
    })
  where
    none : (number : ℕ) (entry : Entry) → numbered [] number ≡ Some entry → ⊥
    none zero entry e = cc
    none (suc k) entry e = cc
boxes_at_first (filer ∷ filers) are (suc k) box here = boxes_at_first filers (and_parts _ _ are).1 k box here

pub keeps_start : (filers : List (List ℕ)) (limit : ℕ) → AreFilers filers → limit ≤ 2 ^ 62 → Keeps (start filers limit)
keeps_start filers limit are small = record {
  outputs = λ k output here. absurd (no_output k output here);
  completed = refl;
  own = λ k outbox number item here from. absurd (no_item k item here);
  boxes = boxes;
  few = none;
  limit = small;
}
  where
    no_output : (k : ℕ) (output : Output) → slice_get [] k ≡ Some output → ⊥
    no_output k output e = cc

    no_item : (k : ℕ) (item : Sent) → slice_get [] k ≡ Some item → ⊥
    no_item k item e = cc

    none : length (firsts []) ≤ limit
    none = omega (arith, firsts_none)

    boxes : AllOutboxes [] (map new_outbox filers)
    boxes zero box here = absurd (cc)
    boxes (suc k) box here = boxes_at_first filers are k box here

pub holds : (world : World) → Keeps world → Holds world
holds world keeps = record {
  registered = record { valid = register_valid world.done; numbered = register_numbered world.done };
  outputs = keeps.outputs;
  stable = λ one other first second r reply again at then.
      answers_stand world.done first.before first.arrivals one.marks r reply first.stable at
      ∙ sym (answers_stand world.done second.before second.arrivals other.marks r again second.stable then);
  confirmed = λ outbox number n box entry here there is.
      registered_number world.done (request_of box.filer entry) n
      (((keeps.boxes outbox box here).entries number entry there).registered n is);
  sent = keeps.own;
  completed = keeps.completed;
  keys = λ outbox box here. (keeps.boxes outbox box here).keys;
}

pub holds_after : (filers : List (List ℕ)) (limit : ℕ) (events : List Event) (world : World) → AreFilers filers
    → limit ≤ 2 ^ 62 → Run (start filers limit) events world → Holds world
holds_after filers limit events world are small run =
    holds world (keeps_run (start filers limit) events world (keeps_start filers limit are small) run)

-- a run that goes on by one event
pub run_push : (old : World) (events : List Event) (between : World) (event : Event) (new : World)
    → Run old events between → Step between event new → Run old (events ++ event ∷ []) new
run_push old [] between event new run step = (new, subst (λ w. Step w event new) run step, refl)
run_push old (first ∷ events) between event new run step =
    (run.0, run.1, run_push run.0 events between event new run.2 step)
