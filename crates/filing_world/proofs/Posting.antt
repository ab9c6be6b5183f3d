-- The front of an entry's request holds no resource, or the one that files it.
use Rattle.std.proofs.Common.{◌≡◌, ℕ, true, false, List, [], ◌∷◌, ◌++◌, length, take, drop, refl, sym, ap, ◌∙◌, subst}
use Rattle.std.proofs.Common.{inl, inr, arith, ◌<◌, ◌≤◌, ◌⊎◌}
use Rattle.std.proofs.lemmas.Bool.{both_ways}
use Rattle.std.proofs.lemmas.Grind.{common_steps}
use Rattle.std.proofs.lemmas.List.{take-append-drop}
use Rattle.http_messages.specs.Head.{RequestParts, closes}
use Rattle.http_messages.specs.Message.{Arrival, Read, Refused, Ending, Rest, BeginsHead, BeginsRequest, IsRefused}
use Rattle.http_messages.specs.Message.{SpellsRequest, awaits}
use Rattle.http_messages.specs.Posting.{resource_of, post_request}
use Rattle.http_messages.specs.Request.{Request as Message}
use Rattle.http_messages.specs.declared.refusal.Refusal.{Refusal}
use Rattle.http_messages.proofs.MoreBytes.{BeginsHead-more, BeginsRequest-more, IsRefused-more}
use Rattle.http_messages.proofs.PostLaws.{post-spells, post_parts-silent, post_parts-closes, post_parts-key}
use Rattle.http_messages.proofs.PostLaws.{post_parts-uncoded}
use Rattle.http_messages.proofs.Unique.{BeginsHead-unique, BeginsRequest-unique, IsRefused-excludes}
use Rattle.filing_model.specs.Request.{Request}
use Rattle.filing_model.specs.Outbox.{bytes_of, IsSendable}
use Rattle.filing_model.specs.Serving.{BeginsArrivals}
use Rattle.filing_model.proofs.Posted.{route-post}
use Rattle.filing_model.specs.Text.{FileReport, route}

-- a message that files the request and asks for no interim response
pub record FilesAlone (m : Message) (r : Request) : Type 0 where
  pub filed : route m ≡ FileReport r
  pub silent : awaits m.head ≡ false

-- the bytes that are sent for the request are one message, which files it and closes the connection
pub record IsPosted (r : Request) : Type 0 where
  pub message : Message
  pub spells : SpellsRequest (bytes_of r) message
  pub closes' : closes message.head ≡ true
  pub alone : FilesAlone message r

-- no resource, or the one that files the request; and nothing asks for an interim response
abbrev pub IsAlone : List Arrival → Ending → Request → Type 0
IsAlone arrivals ending r =
    ((arrivals ≡ []) × ((ending ≡ Ending.Closed) ⊎ (ending ≡ Ending.Rest false)))
    ⊎ ((m : Message) × (arrivals ≡ Arrival.Read m ∷ []) × (ending ≡ Ending.Closed) × FilesAlone m r)

-- the bytes that are sent for a request are one message, which files it
pub posted : (r : Request) → IsSendable r → IsPosted r
posted r sendable =
    let resource : List ℕ = resource_of r.filer r.target in
    record {
      message = post_request r.filer r.target r.key r.body;
      spells = post-spells r.filer r.target r.key r.body sendable.filer sendable.target sendable.key sendable.body;
      closes' = post_parts-closes resource r.key (length r.body);
      alone = record {
        filed = route-post (post_request r.filer r.target r.key r.body) r.filer r.target r.key sendable.filer
            sendable.target sendable.key (record {
              method = refl;
              path = refl;
              keys = post_parts-key resource r.key (length r.body);
              uncoded = post_parts-uncoded resource r.key (length r.body);
            });
        silent = post_parts-silent resource r.key (length r.body);
      };
    }

module _ (r : Request) (is : IsPosted r) (n : ℕ) where
  abbrev front : List ℕ
  front = take n (bytes_of r)

  whole : front ++ drop n (bytes_of r) ≡ bytes_of r
  whole = take-append-drop n (bytes_of r)

  -- what the front begins with, the whole does
  pub head_is : (parts : RequestParts) (k : ℕ) → BeginsHead front parts k → parts ≡ is.message.head
  head_is parts k h =
      let long =
      subst (λ bytes. BeginsHead bytes parts k) whole (BeginsHead-more front (drop n (bytes_of r)) parts k h) in
      (BeginsHead-unique (bytes_of r) parts is.message.head k is.spells.head_len long is.spells.head).0

  message_is : (m : Message) (k : ℕ) → BeginsRequest front m k → m ≡ is.message
  message_is m k b =
      let long =
      subst (λ bytes. BeginsRequest bytes m k) whole (BeginsRequest-more front (drop n (bytes_of r)) m k b) in
      (BeginsRequest-unique (bytes_of r) m is.message k (length (bytes_of r)) long is.spells).0

  -- a front that is not the whole is no request
  pub never_whole : n < length (bytes_of r) → (m : Message) (k : ℕ) → ¬ (BeginsRequest front m k)
  never_whole short m k b =
      let long =
      subst (λ bytes. BeginsRequest bytes m k) whole (BeginsRequest-more front (drop n (bytes_of r)) m k b) in
      let all = (BeginsRequest-unique (bytes_of r) m is.message k (length (bytes_of r)) long is.spells).1 in
      let size : length front ≤ n = grind (arith, common_steps) in
      omega (arith, b.whole, all, size, short)

  pub never_refused : (refusal : Refusal) → ¬ (IsRefused front refusal)
  never_refused refusal refused =
      let long =
      subst (λ bytes. IsRefused bytes refusal) whole (IsRefused-more front (drop n (bytes_of r)) refusal refused) in
      IsRefused-excludes (bytes_of r) is.message.head is.spells.head_len refusal is.spells.head long

  pub own_front : (arrivals : List Arrival) (ending : Ending) → BeginsArrivals front arrivals ending
      → IsAlone arrivals ending r
  own_front [] Ending.Closed h = inl (refl, inl refl)
  own_front [] (Rest false) h = inl (refl, inr refl)
  own_front [] (Rest true) h =
      let same = head_is h.0 h.1 h.2 in
      absurd (both_ways _ (ap awaits same ∙ is.alone.silent) h.3)
  own_front (Refused refusal ∷ arrivals) ending h = absurd (never_refused refusal h.0)
  own_front (Read m ∷ arrivals) ending h =
      let same = message_is m h.0 h.1 in
      let last = h.2 (ap (λ (x : Message). closes x.head) same ∙ is.closes') in
      inr (m, ap (λ rest. Read m ∷ rest) last.0, last.1, subst (λ x. FilesAlone x r) (sym same) is.alone)
