-- What a run of `outbox` does, one deed after another: what becomes of its outbox, and what it writes and reads, as far
-- as its own contract says it; own rules. Of other programs and of the network nothing is said here.
use Rattle.std.specs.Prelude.{◌≡◌, ℕ, true, List, [], ◌∷◌, Option}
use Rattle.key_string.specs.Key.{IsKey}
use Rattle.http_messages.specs.Posting.{IsTarget}
use Rattle.http_messages.specs.Reply.{ReplyParts}
use Rattle.http_messages.specs.Response.{GivesReply}
use Rattle.filing_model.specs.Outbox.{Entry, State, Open, moved, request_of}
use Rattle.filing_model.specs.Prefix.{IsPrefixOf}
use Rattle.filing_model.specs.Request.{Request}
use Rattle.filing_world.specs.Step.{takes}
use Rattle.outbox_tables.specs.Entries.{Contents, contents_of}
use Rattle.outbox_core.specs.Entries.{opened, set_state, with_entry}
use Rattle.filer_client.specs.Exchange.{IsOpenRequest}
use Rattle.programs.specs.Happenings.{box_of}

pub data Deed : Type 0 where
  -- an entry was put in
  Added : (key : List ℕ) (target : Option ℕ) (body : List ℕ) → Deed
  -- this was written for an open entry, its whole request or a first part
  Wrote : (id : ℕ) (written : List ℕ) → Deed
  -- this was read for an open entry, which asks for this and came to this state
  Heard : (id : ℕ) (asks : Request) (read : List ℕ) (to : State) → Deed
  -- this was written, and whatever is read then changes nothing
  Asked : (written : List ℕ) → Deed

-- The outbox took the entry, which is the last one now.
pub record TakesEntry (old : Contents) (entry : Entry) (new : Contents) : Type 0 where
  pub key : IsKey entry.key
  pub target : IsTarget entry.target
  pub taken : takes (box_of old) entry ≡ true
  pub becomes : new ≡ with_entry old entry

-- A first part of the request of an open entry was written.
pub record WritesPart (old : Contents) (id : ℕ) (written : List ℕ) (new : Contents) : Type 0 where
  pub text : List ℕ
  pub request : IsOpenRequest old.filer old.entries id text
  pub part : IsPrefixOf written text
  pub becomes : new ≡ old

-- What was read gives a reply, by which the entry moved, which was open and asks for this.
pub record HearsReply (old : Contents) (id : ℕ) (asks : Request) (read : List ℕ) (to : State) (new : Contents)
    : Type 0 where
  pub text : List ℕ
  pub request : IsOpenRequest old.filer old.entries id text
  pub asks_is : asks ≡ request_of old.filer request.entry
  pub reply : ReplyParts
  pub gives : GivesReply read reply
  pub moves : to ≡ moved Open reply
  pub becomes : new ≡ contents_of old.filer (set_state old.entries id to)

-- what one deed makes of an outbox
abbrev pub Becomes : Contents → Deed → Contents → Type 0
Becomes old (Added key target body) new = TakesEntry old (opened key target body) new
Becomes old (Wrote id written) new = WritesPart old id written new
Becomes old (Heard id asks read to) new = HearsReply old id asks read to new
Becomes old (Asked written) new = new ≡ old

-- deeds one after another
abbrev pub AreDone : Contents → List Deed → Contents → Type 0
AreDone old [] new = new ≡ old
AreDone old (deed ∷ deeds) new = (between : Contents) × Becomes old deed between × AreDone between deeds new
