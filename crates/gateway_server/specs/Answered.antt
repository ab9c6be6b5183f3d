-- What answering one arrival does. No public clause cites this file.
use Rattle.std.specs.Prelude.{◌≡◌, ℕ, ◌≤◌, Bool, true, List, [], ◌∷◌, ◌++◌, length, take, Option, Result, IfOk}
use Rattle.std.specs.Prelude.{MatchResult}
use Rattle.std.specs.declared.alloc.AllocError.{AllocError}
use Rattle.std.specs.Io.KnownBytes.{Appends}
use Rattle.http_messages.specs.declared.refusal.ConnFault.{ConnFault}
use Rattle.http_messages.specs.declared.refusal.ConnFault.TheVariants.{Read as ReadFault, Write, ReadLimit, Memory}
use Rattle.http_wire.specs.Device.{HasFailed}
use Rattle.http_messages.specs.Head.{closes}
use Rattle.http_messages.specs.Message.{Arrival, Read, Refused}
use Rattle.http_messages.specs.Replies.{reply_parts}
use Rattle.http_messages.specs.Reply.{render}
use Rattle.filing_model.specs.declared.served.Mark.{Mark}
use Rattle.filing_model.specs.Request.{Request}
use Rattle.filing_model.specs.Serving.{kept_by}
use Rattle.filing_model.specs.Text.{MarkFits, completed_at, reply_text_with}
use Rattle.gateway_server.specs.declared.decide.Decided.{Decided}

-- whether the connection closes after the reply to the arrival
abbrev pub closes_after : Arrival → Bool
closes_after (Read message) = closes message.head
closes_after (Refused refusal) = true

-- the arrival got a mark, and what is kept follows from it
pub record IsMarked (limit : ℕ) (before after : List Request) (arrival : Arrival) (old new : List Mark) : Type 0 where
  pub mark : Mark
  pub marks : new ≡ old ++ mark ∷ []
  pub fit : MarkFits limit before arrival mark
  pub kept : after ≡ kept_by before (completed_at arrival mark)

-- the arrival is marked, and the reply that was decided for it, if there was memory for one, is its reply
pub record IsDecided (limit : ℕ) (old_style before after : List Request) (arrival : Arrival) (old new : List Mark)
    (d : Decided) : Type 0 where
  pub marked : IsMarked limit before after arrival old new
  pub reply : IfOk d.reply (λ r. render (reply_parts r) (closes_after arrival)
      ≡ reply_text_with old_style before arrival marked.mark)

-- the arrival was decided, or nothing was marked and kept
abbrev pub Marks : ℕ → List Request → List Request → List Request → Arrival → List Mark → List Mark
    → Result Decided AllocError → Type 0
Marks limit old_style before after arrival old new result =
    MatchResult result (λ d. IsDecided limit old_style before after arrival old new d) (λ _. (after ≡ before)
    × (new ≡ old))

-- what of a text was written before a fault: as many bytes as a failed write says, or nothing if memory ran out
abbrev pub WritesPart : Option (List ℕ) → Option (List ℕ) → List ℕ → ConnFault → Type 0
WritesPart from to text ReadFault = ⊥
WritesPart from to text (Write sent) = (sent ≤ length text) × Appends from to (take sent text)
WritesPart from to text ReadLimit = ⊥
WritesPart from to text Memory = Appends from to []

-- the text was written, or that part of it
abbrev pub WritesText : Option (List ℕ) → Option (List ℕ) → List ℕ → Result (Unit {0}) ConnFault → Type 0
WritesText from to text result = MatchResult result (λ _. Appends from to text) (WritesPart from to text)

-- why a reply failed, by the writer's failures before and after: the writer failed, or memory ran out and it did not
abbrev pub IsReplyFault : ℕ → ℕ → ConnFault → Type 0
IsReplyFault failures failures' ReadFault = ⊥
IsReplyFault failures failures' (Write sent) = HasFailed failures failures'
IsReplyFault failures failures' ReadLimit = ⊥
IsReplyFault failures failures' Memory = failures' ≡ failures
