-- What went out on a connection, whatever the disk did.
use Rattle.std.specs.Prelude.{◌≡◌, ◌⊎◌, ℕ, ◌≤◌, Bool, List, [], ◌++◌, length, take, Option, Some}
use Rattle.std.specs.List.{All, concat}
use Rattle.std.specs.Io.KnownBytes.{Appends}
use Rattle.http_messages.specs.declared.refusal.ConnFault.TheVariants as fault
use Rattle.http_messages.specs.Message.{interim}
use Rattle.http_messages.specs.Reply.{ReplyParts, render}
use Rattle.filing_model.specs.declared.served.Ended.{Ended}
use Rattle.filing_model.specs.declared.served.Ended.TheVariants.{Fault}

-- a text that a connection writes: the interim response, or a reply
abbrev pub IsText : List ℕ → Type 0
IsText text = (text ≡ interim) ⊎ ((reply : ReplyParts) × (close : Bool) × (text ≡ render reply close))

-- the part of a further text that went out: its first bytes after a failed write, as many as the fault says, and
-- otherwise nothing
abbrev pub IsPart : Option Ended → List ℕ → Type 0
IsPart (Some (Fault (fault.Write sent))) part =
    (text : List ℕ) × IsText text × (sent ≤ length text) × (part ≡ take sent text)
IsPart _ part = part ≡ []

-- Whole texts went out, and behind them a part of one more if a write failed. Nothing else did.
pub record WritesTexts (before after : Option (List ℕ)) (ended : Option Ended) : Type 0 where
  pub texts : List (List ℕ)
  pub are_texts : All IsText texts
  pub part : List ℕ
  pub is_part : IsPart ended part
  pub wrote : Appends before after (concat texts ++ part)
