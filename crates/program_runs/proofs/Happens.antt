-- What programs do beside each other happens.
use Rattle.std.proofs.Common.{◌≡◌, ◌∙◌, ℕ, zero, suc, List, [], ◌∷◌, ◌++◌}
use Rattle.std.proofs.Common.{Some, None, refl, sym, ap, subst, inl, inr}
use Rattle.std.specs.Prelude.{slice_get}
use Rattle.filing_model.specs.Numbered.{changed_at}
use Rattle.http_messages.specs.Reply.{ReplyParts}
use Rattle.http_messages.specs.Response.{GivesReply}
use Rattle.filing_model.specs.Outbox.{request_of}
use Rattle.filing_model.specs.Request.{Request}
use Rattle.filing_world.specs.World.{numbered, renewed}
use Rattle.filing_world.proofs.Lists.{renewed_same}
use Rattle.outbox_tables.specs.Entries.{Contents}
use Rattle.programs.specs.Happenings.{Situation, Putting, Writing, Hearing, HearingRefusal, Stranger}
use Rattle.programs.specs.Fronts.{Passing, Direct, HearingThrough, Passes, IsFront}
use Rattle.program_runs.specs.Deeds.{Deed, Added, Wrote, Heard, Asked, Becomes}
use Rattle.program_runs.specs.Beside.{OfOutbox, IsCarried, carries, network_of, seen_on}

-- a front gives back what the network alone shows
front_of : (old : Situation) (r : Request) (reply : ReplyParts) → IsFront (seen_on (network_of old)) r reply
    → IsFront old r reply
front_of old r reply is = elim is [
  | inl passed ↦ inl (record {
    answer = passed.answer;
    from = passed.from;
    from_here = passed.from_here;
    item = passed.item;
    item_here = passed.item_here;
    message = passed.message;
    message_len = passed.message_len;
    begins = passed.begins;
    asks = passed.asks;
    told = passed.told;
    gives = passed.gives;
    status = passed.status;
    content = passed.content;
  })
  | inr settles ↦ inr settles
]

-- ---- one deed

module _ (limit : ℕ) where
  -- a deed of an outbox happens
  pub record DeedHappens (old : Situation) (outbox : ℕ) (deed : Deed) (it' : Contents) : Type 0 where
    pub passing : Passing
    pub new : Situation
    pub passes : Passes limit old passing new
    pub requests : new.requests ≡ old.requests
    pub outboxes : new.outboxes ≡ renewed old.outboxes outbox it'
    pub network : network_of new ≡ carries (network_of old) (OfOutbox outbox deed)

  pub deed_happens : (old : Situation) (outbox : ℕ) (it it' : Contents) (deed : Deed)
      → numbered old.outboxes outbox ≡ Some it → Becomes it deed it' → IsCarried (network_of old) (OfOutbox outbox deed)
      → DeedHappens old outbox deed it'
  deed_happens old outbox it it' (Added key target body) here is carried = record {
    passing = Direct (Putting outbox key target body);
    new = record old { outboxes = renewed old.outboxes outbox it' };
    passes = record {
      contents = it;
      here = here;
      key = is.key;
      target = is.target;
      taken = is.taken;
      becomes = ap (λ (c : Contents). record old { outboxes = renewed old.outboxes outbox c }) is.becomes;
    };
    requests = refl;
    outboxes = refl;
    network = refl;
  }
  deed_happens old outbox it it' (Wrote id written) here is carried = record {
    passing = Direct (Writing outbox id written);
    new = record old { sent = old.sent ++ record { from = Some (outbox, id); bytes = written } ∷ [] };
    passes = record {
      contents = it;
      here = here;
      text = is.text;
      request = is.request;
      part = is.part;
      becomes = refl;
    };
    requests = refl;
    outboxes = sym (ap (renewed old.outboxes outbox) is.becomes ∙ renewed_same old.outboxes outbox it here);
    network = refl;
  }
  deed_happens old outbox it it' (Heard id asks read to) here is carried = elim carried [
    | inl c ↦ record {
      passing = Direct (Hearing outbox id c.answer c.given to);
      new = record old { outboxes = renewed old.outboxes outbox it' };
      passes = record {
        from = c.from;
        from_here = c.from_here;
        item = c.item;
        item_here = c.item_here;
        sender = c.sender;
        contents = it;
        here = here;
        text = is.text;
        request = is.request;
        reply = is.reply;
        gives = subst (λ bytes. GivesReply bytes is.reply) c.first is.gives;
        moves = is.moves;
        becomes = ap (λ (x : Contents). record old { outboxes = renewed old.outboxes outbox x }) is.becomes;
      };
      requests = refl;
      outboxes = refl;
      network = refl;
    }
    | inr others ↦ elim others [
      | inl c ↦ record {
        passing = Direct (HearingRefusal outbox id c.answer c.given to);
        new = record old { outboxes = renewed old.outboxes outbox it' };
        passes = record {
          from = c.from;
          from_here = c.from_here;
          item = c.item;
          item_here = c.item_here;
          sender = c.sender;
          contents = it;
          here = here;
          text = is.text;
          request = is.request;
          reply = is.reply;
          gives = subst (λ bytes. GivesReply bytes is.reply) c.first is.gives;
          moves = is.moves;
          becomes = ap (λ (x : Contents). record old { outboxes = renewed old.outboxes outbox x }) is.becomes;
        };
        requests = refl;
        outboxes = refl;
        network = refl;
      }
      | inr back ↦ record {
        passing = HearingThrough outbox id read to;
        new = record old { outboxes = renewed old.outboxes outbox it' };
        passes = record {
          contents = it;
          here = here;
          text = is.text;
          request = is.request;
          reply = is.reply;
          gives = is.gives;
          front = front_of old (request_of it.filer is.request.entry) is.reply
              (subst (λ r. IsFront (seen_on (network_of old)) r is.reply) is.asks_is (back is.reply is.gives));
          moves = is.moves;
          becomes = ap (λ (x : Contents). record old { outboxes = renewed old.outboxes outbox x }) is.becomes;
        };
        requests = refl;
        outboxes = refl;
        network = refl;
      }
    ]
  ]
  deed_happens old outbox it it' (Asked written) here is carried = record {
    passing = Direct (Stranger written);
    new = record old { sent = old.sent ++ record { from = None; bytes = written } ∷ [] };
    passes = refl;
    requests = refl;
    outboxes = sym (ap (renewed old.outboxes outbox) is ∙ renewed_same old.outboxes outbox it here);
    network = refl;
  }

-- ---- lists with an element renewed

at_same : {X : Type 0} (xs : List X) (k : ℕ) (x y : X) → slice_get xs k ≡ Some y
    → slice_get (changed_at (λ old. x) xs k) k ≡ Some x
at_same [] k x y here = absurd (cc)
at_same (z ∷ xs) zero x y here = refl
at_same (z ∷ xs) (suc k) x y here = at_same xs k x y here

pub renewed_here : {X : Type 0} (xs : List X) (n : ℕ) (x y : X) → numbered xs n ≡ Some y
    → numbered (renewed xs n x) n ≡ Some x
renewed_here xs zero x y here = absurd (cc)
renewed_here xs (suc k) x y here = at_same xs k x y here

at_other : {X : Type 0} (xs : List X) (k j : ℕ) (x : X) → (k ≡ j → ⊥)
    → slice_get (changed_at (λ old. x) xs k) j ≡ slice_get xs j
at_other [] k j x other = refl
at_other (z ∷ xs) zero zero x other = absurd (other refl)
at_other (z ∷ xs) zero (suc j) x other = refl
at_other (z ∷ xs) (suc k) zero x other = refl
at_other (z ∷ xs) (suc k) (suc j) x other = at_other xs k j x (λ same. other (ap suc same))

pub renewed_there : {X : Type 0} (xs : List X) (n m : ℕ) (x : X) → (n ≡ m → ⊥)
    → numbered (renewed xs n x) m ≡ numbered xs m
renewed_there xs zero m x other = refl
renewed_there xs (suc k) zero x other = refl
renewed_there xs (suc k) (suc j) x other = at_other xs k j x (λ same. other (ap suc same))
