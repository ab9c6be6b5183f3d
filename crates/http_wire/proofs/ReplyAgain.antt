-- What is written of a reply is read again, however the reader gives it.
use Rattle.std.proofs.Common.{◌≡◌, ℕ, ◌<◌, Bool, List, [], ◌∷◌, ◌++◌, length, length-append, take, Option, Some, None}
use Rattle.std.proofs.Common.{refl, sym, ap, ◌∙◌, subst, arith}
use Rattle.std.specs.Io.KnownBytes.{Consumes, IsAtEnd}
use Rattle.std.proofs.lemmas.Grind.{common_steps}
use Rattle.std.proofs.lemmas.List.{append-nil}
use Rattle.http_messages.specs.declared.refusal.ReplyFault.{ReplyFault}
use Rattle.http_messages.specs.declared.refusal.ReplyFault.TheVariants.{Cut, Malformed, NoLength, TooLarge, Read}
use Rattle.http_messages.specs.declared.refusal.ReplyFault.TheVariants.{ReadLimit, Memory}
use Rattle.http_messages.specs.Reply.{ReplyParts, render}
use Rattle.http_messages.specs.Response.{BeginsReply, SpellsReply, GivesReply, IsReadable}
use Rattle.http_messages.specs.ReplyFaults.{IsRefusedReply, IsCutReply}
use Rattle.http_wire.specs.ReplyFaults.{HasGiven, IsReplyFailure, IsOfReader}
use Rattle.http_messages.proofs.RefusedReply.{GivesReply-begins}
use Rattle.http_messages.proofs.ReplyRead.{reply-spells}
use Rattle.http_messages.proofs.UniqueReply.{BeginsReply-more, BeginsReply-unique}
use Rattle.http_messages.proofs.NotRefused.{front-not_refused}

-- what was given of known bytes is their front
given-front : (text : List ℕ) (after : Option (List ℕ)) (bytes : List ℕ) → Consumes (Some text) after bytes
    → (rest : List ℕ) × (text ≡ bytes ++ rest) × (IsAtEnd after → rest ≡ []) × (after ≡ Some rest)
given-front text None bytes c = absurd c
given-front text (Some rest) bytes c = (rest, c, λ end. end, refl)

-- a rest that isn't nothing
some_rest : (rest : List ℕ) → ¬ (rest ≡ []) → 0 < length rest
some_rest [] none = absurd (none refl)
some_rest (byte ∷ rest) none = omega arith

module _ (reply : ReplyParts) (close : Bool) (after : Option (List ℕ)) (is : IsReadable reply) where
  text : List ℕ
  text = render reply close

  spelled : SpellsReply text reply
  unfolding text
  spelled = reply-spells reply close is

  -- another reply isn't read
  pub given-same : (other : ReplyParts) → HasGiven (Some (render reply close)) after (λ bytes. GivesReply bytes other)
      → other ≡ reply
  unfolding text
  given-same other g =
      let front = given-front text after g.0 g.1 in
      let begins = GivesReply-begins g.0 other g.2 in
      let whole =
      subst (λ l. BeginsReply l other begins.0) (sym front.1)
      (BeginsReply-more g.0 front.0 other begins.0 begins.1) in
      (BeginsReply-unique text other reply begins.0 (length text) whole spelled).0

  not_refused : (fault : ReplyFault) → ¬ (HasGiven (Some text) after (λ bytes. IsRefusedReply bytes fault))
  not_refused fault g =
      let front = given-front text after g.0 g.1 in
      front-not_refused g.0 front.0 reply (length text) fault
      (subst (λ l. BeginsReply l reply (length text)) front.1 spelled) g.2

  -- nothing of it is missing where no rest is left
  not_cut : (bytes rest : List ℕ) → text ≡ bytes ++ rest → IsCutReply bytes → ¬ (rest ≡ [])
  not_cut bytes rest joined cut none =
      let all : text ≡ bytes = joined ∙ ap (λ l. bytes ++ l) none ∙ append-nil bytes in
      let whole : take (length text) text ≡ text = grind (arith, common_steps) in
      cut.none reply (subst (λ l. GivesReply l reply) all (
        length text,
        subst (λ l. SpellsReply l reply) (sym whole) spelled,
      ))

  -- nothing is wrong with it
  pub given-fault : (old new : ℕ) (fault : ReplyFault) → IsReplyFailure (Some (render reply close)) after old new fault
      → IsOfReader (render reply close) after fault
  unfolding text
  given-fault old new Cut (stands, end, given) =
      let front = given-front text after given.0 given.1 in
      not_cut given.0 front.0 front.1 given.2 (front.2 end)
  given-fault old new Malformed f = not_refused Malformed f.1
  given-fault old new NoLength f = not_refused NoLength f.1
  given-fault old new TooLarge f = not_refused TooLarge f.1
  given-fault old new Read f = tt
  given-fault old new ReadLimit (stands, (bytes, consumed, (many, cut))) =
      let front = given-front text after bytes consumed in
      let size = ap length front.1 ∙ length-append bytes front.0 in
      (front.0, front.3, some_rest front.0 (not_cut bytes front.0 front.1 cut), omega (arith, size, many))
  given-fault old new Memory f = tt
