-- An arrival that is decided, marked and answered.
use Rattle.std.proofs.Common.{◌≡◌, ℕ, ◌≤◌, Bool, true, List, [], ◌∷◌, ◌++◌, length, take, Option, Result, Ok, Err, refl}
use Rattle.std.proofs.Common.{sym, ap, ◌∙◌, subst, IfOk, IfErr, OnOk}
use Rattle.std.specs.declared.alloc.AllocError.{AllocError}
use Rattle.std.specs.Io.KnownBytes.{Appends}
use Rattle.http_messages.specs.declared.refusal.ConnFault.{ConnFault}
use Rattle.http_messages.specs.declared.refusal.ConnFault.TheVariants.{Read as ReadFault, Write, ReadLimit, Memory}
use Rattle.http_messages.specs.declared.refusal.Refusal.{Refusal}
use Rattle.http_messages.specs.declared.reply.Reply.{Reply}
use Rattle.http_messages.specs.Head.{closes}
use Rattle.http_messages.specs.Message.{Arrival, Read, Refused}
use Rattle.http_messages.specs.Replies.{reply_parts}
use Rattle.http_messages.specs.Reply.{ReplyParts, render}
use Rattle.http_messages.specs.Request.{Request as Message}
use Rattle.filing_model.specs.declared.served.Mark.{Mark}
use Rattle.filing_model.specs.declared.served.Mark.TheVariants.{Done, Unavailable, NotFiled}
use Rattle.filing_model.specs.Request.{Request}
use Rattle.filing_model.specs.Text.{Route, route, reply_text_with, refusal_reply}
use Rattle.http_wire.specs.declared.device.Sink.{Ghosts as Writes}
use Rattle.http_wire.specs.Write.{IsWriteFault}
use Rattle.gateway_server.specs.Answered.{IsMarked, IsDecided, WritesPart, WritesText}
use Rattle.gateway_server.specs.declared.decide.Decided.{Decided}
use Rattle.gateway_server.specs.Decided.{Decides, marked_reply}

-- ---- what was decided

reply_text-marked : (old_style before : List Request) (m : Message) (mark : Mark)
    → render (marked_reply old_style before (route m) mark) (closes m.head)
    ≡ reply_text_with old_style before (Read m) mark
reply_text-marked old_style before m Done = refl
reply_text-marked old_style before m Unavailable = refl
reply_text-marked old_style before m NotFiled = refl

-- the bytes of a reply of these parts
rendered : (r : Result Reply AllocError) (parts : ReplyParts) (close : Bool) (text : List ℕ) → render parts close ≡ text
    → IfOk r (λ reply. reply_parts reply ≡ parts) → IfOk r (λ reply. render (reply_parts reply) close ≡ text)
rendered (Ok reply) parts close text e same = ap (λ p. render p close) same ∙ e
rendered (Err fault) parts close text e same = tt

-- a message that was decided, and its mark added
pub IsDecided-message : (limit : ℕ) (old_style before after : List Request) (m : Message) (to' : Route) (d : Decided)
    (old new : List Mark) → route m ≡ to' → Decides limit old_style before after to' d → new ≡ old ++ d.mark ∷ []
    → IsDecided limit old_style before after (Read m) old new d
IsDecided-message limit old_style before after m to' d old new asked decides marks =
    let here = subst (λ (r : Route). Decides limit old_style before after r d) (sym asked) decides in
    record {
      marked = record { mark = d.mark; marks = marks; fit = here.fit; kept = here.kept };
      reply = rendered d.reply (marked_reply old_style before (route m) d.mark) (closes m.head)
          (reply_text_with old_style before (Read m) d.mark) (reply_text-marked old_style before m d.mark) here.reply;
    }

-- what was refused, and its mark added
pub IsDecided-refusal : (limit : ℕ) (old_style before : List Request) (refusal : Refusal)
    (reply : Result Reply AllocError) (old new : List Mark) → IfOk reply (λ r. reply_parts r ≡ refusal_reply refusal)
    → new ≡ old ++ NotFiled ∷ []
    → IsDecided limit old_style before before (Refused refusal) old new (record { mark = NotFiled; reply = reply })
IsDecided-refusal limit old_style before refusal reply old new is marks = record {
  marked = record { mark = NotFiled; marks = marks; fit = tt; kept = refl };
  reply = rendered reply (refusal_reply refusal) true (render (refusal_reply refusal) true) refl is;
}

-- ---- what was written of the reply

-- the reply was written
pub record IsAnswered (limit : ℕ) (old_style before after : List Request) (arrival : Arrival) (old new : List Mark)
    (from to : Option (List ℕ)) : Type 0 where
  pub marked : IsMarked limit before after arrival old new
  pub written : Appends from to (reply_text_with old_style before arrival marked.mark)

-- a part of it was, before a fault
pub record IsPartly (limit : ℕ) (old_style before after : List Request) (arrival : Arrival) (old new : List Mark)
    (from to : Option (List ℕ)) (fault : ConnFault) : Type 0 where
  pub marked : IsMarked limit before after arrival old new
  pub written : WritesPart from to (reply_text_with old_style before arrival marked.mark) fault

-- what `write_reply` says of the text is what is wanted of it
pub WritesText-reply : {W : Type 0} (w : Writes W) (from to : W) (text own : List ℕ) (r : Result (Unit {0}) ConnFault)
    → own ≡ text → OnOk r (Appends (w.written from) (w.written to) own) → IfErr r (IsWriteFault w from to own)
    → WritesText (w.written from) (w.written to) text r
WritesText-reply w from to text own (Ok done) same ok err = subst (Appends (w.written from) (w.written to)) same ok
WritesText-reply w from to text own (Err ReadFault) same ok err = absurd err
WritesText-reply w from to text own (Err (Write sent)) same ok err =
    subst (λ t. (sent ≤ length t) × Appends (w.written from) (w.written to) (take sent t)) same (err.1, err.2)
WritesText-reply w from to text own (Err ReadLimit) same ok err = absurd err
WritesText-reply w from to text own (Err Memory) same ok err = err.1

-- nothing was marked, kept or written
pub record IsUntouched (before after : List Request) (old new : List Mark) (from to : Option (List ℕ)) : Type 0 where
  pub kept : after ≡ before
  pub marks : new ≡ old
  pub written : Appends from to []
