-- Events on outboxes of one entry each, and what the world is after them.
use Rattle.std.proofs.Common.{◌≡◌, ◌⊎◌, ℕ, ◌<◌, ◌≤◌, Bool, true, false, List, [], ◌∷◌, ◌++◌, length, take, Option, Some}
use Rattle.std.proofs.Common.{None, refl, sym, ap, ◌∙◌, subst, inl, arith}
use Rattle.std.proofs.lemmas.Bool.{both_ways, le-leb}
use Rattle.std.proofs.lemmas.Grind.{common_steps}
use Rattle.http_messages.specs.Head.{closes, max_body_len}
use Rattle.http_messages.specs.Message.{Arrival, Read, Ending, Rest, HasArrivals, awaits}
use Rattle.http_messages.specs.Reply.{ReplyParts, render}
use Rattle.http_messages.specs.Response.{BeginsReply, SpellsReply, GivesReply, IsReadable}
use Rattle.http_messages.proofs.ReplyRead.{reply-spells}
use Rattle.http_messages.proofs.UniqueReply.{BeginsReply-more, BeginsReply-unique}
use Rattle.filing_model.specs.declared.served.Mark.{Mark}
use Rattle.filing_model.specs.declared.served.Mark.TheVariants.{Done}
use Rattle.filing_model.specs.declared.served.Ended.{Ended}
use Rattle.filing_model.specs.declared.served.Ended.TheVariants.{Closed, InputEnded}
use Rattle.filing_model.specs.Prefix.{IsPrefixOf}
use Rattle.filing_model.specs.Request.{Request, has_key, firsts}
use Rattle.filing_model.specs.Answer.{answer}
use Rattle.filing_model.specs.Reply.{reply_of}
use Rattle.filing_model.specs.Outbox.{State, Open, moved, bytes_of, IsSendable}
use Rattle.filing_model.specs.Stopping.{Crash, No, Before, After, ServesUntil}
use Rattle.filing_model.specs.Text.{RouteFits, requests_of_route, completed, MarksFit, interim_of, reply_text_with}
use Rattle.filing_model.specs.Text.{text, text_with}
use Rattle.filing_model.proofs.Lists.{append_nil, prefix_trans, take_within}
use Rattle.filing_model.proofs.Stopping.{HasArrivals-begins}
use Rattle.filing_world.specs.World.{Output, World, Put, Send, Deliver, Hand, RestartOutbox, numbered, renewed}
use Rattle.filing_world.specs.World.{new_outbox}
use Rattle.filing_world.proofs.Single.{entry_with, outbox_with, sent_by, item_of}
use Rattle.filing_world.specs.Step.{is_no, Hears, heard_by, Step}
use Rattle.filing_world.proofs.Posting.{posted, head_is, never_refused, never_whole, IsPosted}

-- ---- the ends

abbrev pub after_put : World → ℕ → Request → World
after_put old outbox r = record old { outboxes = renewed old.outboxes outbox (outbox_with r Open) }

pub plays_put : (old : World) (outbox : ℕ) (r : Request) → IsSendable r
    → numbered old.outboxes outbox ≡ Some (new_outbox r.filer)
    → Step old (Put outbox r.key r.target r.body) (after_put old outbox r)
plays_put old outbox r sendable here = record {
  is_key = sendable.key;
  is_target = sendable.target;
  box = new_outbox r.filer;
  here = here;
  up = refl;
  becomes = rw (le-leb (length r.body) max_body_len sendable.body) refl;
}

abbrev pub after_send : World → ℕ → Request → World
after_send old outbox r = record old { sent = old.sent ++ item_of outbox r ∷ [] }

pub plays_send : (old : World) (outbox : ℕ) (r : Request) (state : State)
    → numbered old.outboxes outbox ≡ Some (outbox_with r state) → Step old (Send outbox 1) (after_send old outbox r)
plays_send old outbox r state here =
    record {
      box = outbox_with r state;
      here = here;
      up = refl;
      what = entry_with r state;
      there = refl;
      becomes =
          refl;
    }

-- a stranger sends the request
abbrev pub after_stranger : World → Request → World
after_stranger old r = record old { sent = old.sent ++ sent_by None r ∷ [] }

abbrev pub after_restart : World → World
after_restart old = record old { up = true }

abbrev pub after_outbox : World → ℕ → Request → State → World
after_outbox old outbox r state = record old { outboxes = renewed old.outboxes outbox (outbox_with r state) }

-- the same where the outbox is down
abbrev pub after_fall : World → ℕ → Request → State → World
after_fall old outbox r state =
    record old { outboxes = renewed old.outboxes outbox (record (outbox_with r state) { up = false }) }

pub plays_rise : (old : World) (outbox : ℕ) (r : Request) (state : State)
    → numbered old.outboxes outbox ≡ Some (record (outbox_with r state) { up = false })
    → Step old (RestartOutbox outbox) (after_outbox old outbox r state)
plays_rise old outbox r state here =
    record { box = record (outbox_with r state) { up = false }; here = here; becomes = refl }

-- ---- a delivery

module _ (r : Request) (sendable : IsSendable r) where
  is : IsPosted r
  is = posted r sendable

  abbrev bytes : List ℕ
  bytes = bytes_of r

  arrivals_whole : HasArrivals bytes (Read is.message ∷ []) Ending.Closed
  arrivals_whole = (
    length bytes,
    is.spells,
    (λ _. (refl, refl)),
    λ (open' : closes is.message.head ≡ false). absurd (both_ways _ open' is.closes'),
  )

  -- a part that is not the whole holds nothing
  arrivals_part : (n : ℕ) → n < length bytes → HasArrivals (take n bytes) [] (Rest false)
  arrivals_part n short = (
    false,
    record { none = never_whole r is n short; refused = never_refused r is n },
    λ parts k h. ap awaits (head_is r is n parts k h) ∙ is.alone.silent,
    refl,
  )

  completed_one : completed (Read is.message ∷ []) (Done ∷ []) ≡ r ∷ []
  unfolding completed
  completed_one = ap (λ to. requests_of_route to Done ++ []) is.alone.filed

  silent : interim_of (Read is.message) ≡ []
  silent = rw is.alone.silent refl

  fit_one : (limit : ℕ) (done : List Request) → (has_key done r ≡ true) ⊎ (length (firsts done) < limit)
      → MarksFit limit done (Read is.message ∷ []) (Done ∷ [])
  unfolding MarksFit
  fit_one limit done room = (subst (λ to. RouteFits limit done to Done) (sym is.alone.filed) room, tt)

  fit_none : (limit : ℕ) (done : List Request) → MarksFit limit done (Read is.message ∷ []) []
  unfolding MarksFit
  fit_none limit done = tt

  text_one : (done : List Request) → render (reply_of (answer done r)) true
      ≡ text done (Read is.message ∷ []) Ending.Closed (Done ∷ [])
  unfolding text_with
  text_one done =
      let reply : reply_text_with [] done (Read is.message) Done ≡ render (reply_of (answer done r)) true =
      rw (is.closes', is.alone.filed) refl in
      sym (ap (λ front. front ++ (reply_text_with [] done (Read is.message) Done ++ [])) silent ∙ append_nil _ ∙ reply)

  text_none : (done : List Request) → [] ≡ text done (Read is.message ∷ []) Ending.Closed []
  unfolding text_with
  text_none done = sym silent

  -- the whole request was served, and perhaps stopped
  serves_done : (limit : ℕ) (done : List Request) → (has_key done r ≡ true) ⊎ (length (firsts done) < limit)
      → ServesUntil limit done bytes No (Read is.message ∷ []) (Done ∷ []) (Some Closed)
      (render (reply_of (answer done r)) true)
  serves_done limit done room = record {
    ending = Ending.Closed;
    fit = fit_one limit done room;
    gives = inl (record { splits = arrivals_whole; all = refl; written = text_one done; end = refl });
  }

  serves_after : (limit : ℕ) (done : List Request) → (has_key done r ≡ true) ⊎ (length (firsts done) < limit)
      → ServesUntil limit done bytes (After 1) (Read is.message ∷ []) (Done ∷ []) None []
  serves_after limit done room = record {
    ending = Ending.Closed;
    fit = fit_one limit done room;
    gives = inl (record {
      splits = HasArrivals-begins bytes (Read is.message ∷ []) Ending.Closed arrivals_whole;
      all =
          refl;
      written = text_none done;
      end = refl;
    });
  }

  serves_before : (limit : ℕ) (done : List Request)
      → ServesUntil limit done bytes (Before 1) (Read is.message ∷ []) [] None []
  serves_before limit done = record {
    ending = Ending.Closed;
    fit = fit_none limit done;
    gives = inl (record {
      splits = HasArrivals-begins bytes (Read is.message ∷ []) Ending.Closed arrivals_whole;
      all =
          refl;
      written = text_none done;
      end = refl;
    });
  }

  serves_part : (limit : ℕ) (done : List Request) (n : ℕ) → n < length bytes
      → ServesUntil limit done (take n bytes) No [] [] (Some InputEnded) []
  unfolding text_with MarksFit
  serves_part limit done n short = record {
    ending = Rest false;
    fit = tt;
    gives = inl (record { splits = arrivals_part n short; all = refl; written = refl; end = refl });
  }

-- ---- deliveries of an entry's request

all_of : (n : ℕ) (xs : List ℕ) → length xs ≤ n → xs ≡ take n xs
all_of n xs enough = grind (arith, common_steps)

part_of : (n : ℕ) (xs : List ℕ) → n < length xs → n ≡ length (take n xs)
part_of n xs short = grind (arith, common_steps)

-- what a delivery leaves: these completed requests, an output of these parts, and an intake that is up or not
abbrev after_delivery : World → ℕ → ℕ → List Request → List Mark → Option Ended → List ℕ → Bool → World
after_delivery old item given done marks ended out up = record old {
  done = done;
  outputs =
      old.outputs ++ record {
        item = item;
        given = given;
        before = length old.done;
        marks = marks;
        ended = ended;
        bytes = out;
      } ∷ [];
  up = up;
}

-- the request is completed and answered
abbrev pub after_done : World → ℕ → Request → World
after_done old item r =
    after_delivery old item (length (bytes_of r)) (old.done ++ r ∷ []) (Done ∷ []) (Some Closed)
    (render (reply_of (answer old.done r)) true) true

-- completed, and the intake stopped before the first byte of the reply
abbrev pub after_commit : World → ℕ → Request → World
after_commit old item r =
    after_delivery old item (length (bytes_of r)) (old.done ++ r ∷ []) (Done ∷ []) None [] false

-- not completed, since the intake stopped before it
abbrev pub after_stop : World → ℕ → Request → World
after_stop old item r = after_delivery old item (length (bytes_of r)) old.done [] None [] false

-- a part of the request came
abbrev pub after_part : World → ℕ → ℕ → World
after_part old item n = after_delivery old item n old.done [] (Some InputEnded) [] true

module _ (old : World) (item : ℕ) (sender : Option (ℕ × ℕ)) (all : ℕ) (r : Request) (sendable : IsSendable r)
    (up : old.up ≡ true) (here : numbered old.sent item ≡ Some (sent_by sender r)) where
  abbrev came : List Arrival
  came = Read (is r sendable).message ∷ []

  delivered : (n given : ℕ) (crash : Crash) (arrivals : List Arrival) (marks : List Mark) (ended : Option Ended)
      (out : List ℕ) (done : List Request)
      → ServesUntil old.limit old.done (take n (bytes_of r)) crash arrivals marks ended out
      → length (take n (bytes_of r)) ≡ given → old.done ++ completed arrivals marks ≡ done
      → Step old (Deliver item n crash) (after_delivery old item given done marks ended out (is_no crash))
  delivered n given crash arrivals marks ended out done serves size completes = record {
    up = up;
    from = sent_by sender r;
    here = here;
    arrivals = arrivals;
    marks = marks;
    ended = ended;
    out = out;
    serves = serves;
    becomes = λ i. after_delivery old item (sym size i) (sym completes i) marks ended out (is_no crash);
  }

  -- all of the bytes came
  delivered_all : (crash : Crash) (arrivals : List Arrival) (marks : List Mark) (ended : Option Ended)
      (out : List ℕ) (done : List Request) → length (bytes_of r) ≤ all
      → ServesUntil old.limit old.done (bytes_of r) crash arrivals marks ended out
      → old.done ++ completed arrivals marks ≡ done
      → Step old (Deliver item all crash)
      (after_delivery old item (length (bytes_of r)) done marks ended out (is_no crash))
  delivered_all crash arrivals marks ended out done enough serves =
      let whole = all_of all (bytes_of r) enough in
      delivered all (length (bytes_of r)) crash arrivals marks ended out done
      (subst (λ bs. ServesUntil old.limit old.done bs crash arrivals marks ended out) whole serves)
      (ap length (sym whole))

  completes_it : old.done ++ completed came (Done ∷ []) ≡ old.done ++ r ∷ []
  completes_it = ap (λ more. old.done ++ more) (completed_one r sendable)

  pub plays_done : length (bytes_of r) ≤ all → (has_key old.done r ≡ true) ⊎ (length (firsts old.done) < old.limit)
      → Step old (Deliver item all No) (after_done old item r)
  plays_done enough room =
      delivered_all No came (Done ∷ []) (Some Closed) _ _ enough (serves_done r sendable old.limit old.done room)
      completes_it

  pub plays_commit : length (bytes_of r) ≤ all → (has_key old.done r ≡ true) ⊎ (length (firsts old.done) < old.limit)
      → Step old (Deliver item all (After 1)) (after_commit old item r)
  plays_commit enough room =
      delivered_all (After 1) came (Done ∷ []) None [] _ enough (serves_after r sendable old.limit old.done room)
      completes_it

  pub plays_stop : length (bytes_of r) ≤ all → Step old (Deliver item all (Before 1)) (after_stop old item r)
  unfolding completed
  plays_stop enough =
      delivered_all (Before 1) came [] None [] _ enough (serves_before r sendable old.limit old.done)
      (append_nil old.done)

  pub plays_part : (n : ℕ) → n < length (bytes_of r) → Step old (Deliver item n No) (after_part old item n)
  unfolding completed
  plays_part n short =
      delivered n n No [] [] (Some InputEnded) [] _ (serves_part r sendable old.limit old.done n short)
      (sym (part_of n (bytes_of r) short)) (append_nil old.done)

-- ---- a reply

module _ (old : World) (output outbox given : ℕ) (r : Request) (state : State) (from : Output)
    (here : numbered old.outputs output ≡ Some from) (item_here : numbered old.sent from.item ≡ Some (item_of outbox r))
    (box_here : numbered old.outboxes outbox ≡ Some (outbox_with r state)) where
  handed : (crash : Crash) (heard : Option ReplyParts) (to : State) → Hears (take given from.bytes) crash heard
      → heard_by state heard ≡ to → Step old (Hand output given crash) (record old {
        outboxes = renewed old.outboxes outbox (record (outbox_with r to) { up = is_no crash });
      })
  handed crash heard to hears moves = record {
    from = from;
    here = here;
    item = item_of outbox r;
    item_here = item_here;
    outbox = outbox;
    number = 1;
    sender = refl;
    box = outbox_with r state;
    box_here = box_here;
    up = refl;
    entry = entry_with r state;
    entry_here = refl;
    heard = heard;
    hears = hears;
    becomes =
        ap (λ s. record old { outboxes = renewed old.outboxes outbox (record (outbox_with r s) { up = is_no crash }) })
        (sym moves);
  }

  -- a reply is heard, and moves the entry
  pub plays_hand : (reply : ReplyParts) (to : State) → GivesReply (take given from.bytes) reply → moved state reply ≡ to
      → Step old (Hand output given No) (after_outbox old outbox r to)
  plays_hand reply to gives moves = handed No (Some reply) to gives moves

  -- it is heard, and the outbox stops
  pub plays_heard : (reply : ReplyParts) (to : State) → GivesReply (take given from.bytes) reply
      → moved state reply ≡ to → Step old (Hand output given (After 1)) (after_fall old outbox r to)
  plays_heard reply to gives moves = handed (After 1) (Some reply) to gives moves

  -- the outbox stops before
  pub plays_unheard : Step old (Hand output given (Before 1)) (after_fall old outbox r state)
  plays_unheard = handed (Before 1) None state tt refl

  -- none is heard
  pub plays_deaf : ((reply : ReplyParts) → ¬ (GivesReply (take given from.bytes) reply))
      → Step old (Hand output given No) (after_outbox old outbox r state)
  plays_deaf silent = handed No None state (inl silent) refl

-- the whole of a written reply gives it
pub gives_whole : (reply : ReplyParts) (close : Bool) (all : ℕ) → IsReadable reply → length (render reply close) ≤ all
    → GivesReply (take all (render reply close)) reply
gives_whole reply close all readable enough =
    let whole = all_of all (render reply close) enough in
    (all, subst (λ bs. SpellsReply bs reply) (whole ∙ ap (take all) whole) (reply-spells reply close readable))

-- and a part that is not the whole gives none
pub gives_none : (reply other : ReplyParts) (close : Bool) (part : List ℕ) → IsReadable reply
    → IsPrefixOf part (render reply close) → length part < length (render reply close) → ¬ (GivesReply part other)
gives_none reply other close part readable begins short gives =
    let whole = render reply close in
    let given = take gives.0 part in
    let front = prefix_trans given part whole (take_within gives.0 part) begins in
    let long =
    subst (λ bs. BeginsReply bs other (length given)) (sym front.1)
    (BeginsReply-more given front.0 other (length given) gives.1) in
    let same =
    (BeginsReply-unique whole other reply (length given) (length whole) long
    (reply-spells reply close readable)).1 in
    let size : length given ≤ length part = grind (arith, common_steps) in
    omega (arith, same, size, short)

-- as its first bytes
pub gives_none_first : (reply other : ReplyParts) (close : Bool) (n : ℕ) → IsReadable reply
    → n < length (render reply close) → ¬ (GivesReply (take n (render reply close)) other)
gives_none_first reply other close n readable short =
    let size : length (take n (render reply close)) ≤ n = grind (arith, common_steps) in
    gives_none reply other close (take n (render reply close)) readable (take_within n (render reply close))
    (omega (arith, size, short))
