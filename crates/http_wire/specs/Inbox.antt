-- What contracts see of an inbox, and what its calls do.
use Rattle.std.specs.Prelude.{◌≡◌, ◌⊎◌, ℕ, ◌+◌, ◌≤◌, Bool, true, false, List, [], ◌++◌, length, drop, Option, Some}
use Rattle.std.specs.Prelude.{None, ◌||◌}
use Rattle.std.specs.Io.KnownBytes.{Consumes, Appends, IsAtEnd}
use Rattle.http_connection.specs.Connection as machine
use Rattle.http_wire.specs.declared.inbox.Inbox.{Inbox}
use Rattle.http_wire.specs.declared.inbox.Next.{Next}
use Rattle.http_wire.specs.declared.inbox.Next.TheVariants.{Message, Refuse, End}
use Rattle.http_wire.specs.Calls.{interim_if, WritesAsked}
use Rattle.http_messages.specs.Head.{closes}
use Rattle.http_messages.specs.Message.{BeginsRequest, IsRefused, IsRest}
use Rattle.http_messages.specs.Request.{Request}

-- how many reads are counted, each of which gave a byte at least
abbrev pub reads : Inbox → ℕ
reads i = i.reading.reads

-- the bytes that were read and not yet dropped
abbrev pub held : Inbox → List ℕ
held i = machine.held i.reading.connection

-- for how many of them it has taken memory
abbrev pub memory : Inbox → ℕ
memory i = machine.memory i.reading.connection

-- how many of them belong to the request that is lent
abbrev pub lent_len : Inbox → ℕ
lent_len i = machine.lent_len i.reading.connection

-- the bytes after it
abbrev pub unread : Inbox → List ℕ
unread i = drop (lent_len i) (held i)

-- the request that is lent
abbrev pub lent_request : Inbox → Option Request
lent_request i = machine.lent i.reading.connection

-- nothing arrives any more
abbrev pub is_over : Inbox → Bool
is_over i = machine.is_over i.reading.connection || machine.lent_closes i.reading.connection

-- a call failed before
abbrev pub is_failed : Inbox → Bool
is_failed i = i.has_failed

-- nothing was read, and there is memory for a first read
pub record IsNew (i : Inbox) : Type 0 where
  pub count : reads i ≡ 0
  pub memory_is : memory i ≡ 16384
  pub empty : held i ≡ []
  pub more : is_over i ≡ false
  pub none : lent_request i ≡ None

-- the bytes that were read between the two
abbrev pub got : Inbox → Inbox → List ℕ
got old new = drop (length (unread old)) (held new)

-- What is held now is what was unread, and what the reader gave since: at least a byte in each read that is counted.
pub record ReadsOn (before after : Option (List ℕ)) (old new : Inbox) : Type 0 where
  pub held_is : held new ≡ unread old ++ got old new
  pub given : Consumes before after (got old new)
  pub count : reads old ≤ reads new
  pub each : reads new ≤ reads old + length (got old new)

-- nothing was read between the two
pub record ReadsNothing {R : Type 0} (before after : R) (old new : Inbox) : Type 0 where
  pub reader : after ≡ before
  pub count : reads new ≡ reads old
  pub held_is : held new ≡ unread old

-- nothing was read or dropped, and the request that was lent is still lent
pub record KeepsBytes (old new : Inbox) : Type 0 where
  pub held_is : held new ≡ held old
  pub lent : lent_request new ≡ lent_request old
  pub count : reads new ≡ reads old

-- the request that is lent begins the bytes that are held, and is the last one if it closes
pub record LendsFirst (i : Inbox) : Type 0 where
  pub request : Request
  pub lent : lent_request i ≡ Some request
  pub begins : BeginsRequest (held i) request (lent_len i)
  pub last : is_over i ≡ closes request.head

-- what `next` answered is what stands first in the bytes that are held
abbrev pub IsNext : Option (List ℕ) → Inbox → Inbox → Next → Type 0
IsNext after old new Message = (is_over old ≡ false) × LendsFirst new
IsNext after old new (Refuse refusal) = (is_over old ≡ false) × (is_over new ≡ true) × IsRefused (held new) refusal
IsNext after old new End = (is_over new ≡ true) × ((is_over old ≡ true) ⊎ (IsRest (held new) × IsAtEnd after))

-- the head of the request that is lent asks for an interim response
abbrev pub lent_awaits : Inbox → Bool
lent_awaits i = machine.lent_awaits i.reading.connection

-- what was written: the interim response that what `next` answered asks for, and nothing else
abbrev pub WritesInterim : Option (List ℕ) → Option (List ℕ) → Inbox → Inbox → Next → Type 0
WritesInterim before after old new Message = Appends before after (interim_if (lent_awaits new))
WritesInterim before after old new (Refuse refusal) = Appends before after []
WritesInterim before after old new End =
    ((is_over old ≡ true) × Appends before after []) ⊎ WritesAsked before after (held new)
