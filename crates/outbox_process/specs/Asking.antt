-- A settled entry is asked about: its request is sent again, and the reply is printed. Of a confirmed one the register
-- is asked first whether it lists the filing; own rules.
use Rattle.std.specs.Prelude.{◌≡◌, ◌≢◌, ◌⊎◌, ◌≤◌, ℕ, List, [], length, take, Option, Some, Result, Ok, Err, IfOk, IfErr}
use Rattle.std.specs.Io.KnownBytes.{Appends}
use Rattle.sqlite.specs.Store.{Ghosts}
use Rattle.table_rows.specs.Standing.{CommitsNothing}
use Rattle.http_messages.specs.Reply.{ReplyParts}
use Rattle.http_messages.specs.Replies.{reply_parts}
use Rattle.http_messages.specs.declared.reply.Reply.{Reply}
use Rattle.http_wire.specs.Wire.{Wire}
use Rattle.finding_lines.specs.declared.form.Form.{Form}
use Rattle.filing_model.specs.Outbox.{Entry, State as Shown, Open, bytes_of, request_of}
use Rattle.filing_model.specs.Views.{view_state}
use Rattle.filing_model.specs.declared.state.State.{State}
use Rattle.filing_model.specs.declared.state.State.TheVariants as stored
use Rattle.outbox_core.specs.Entries.{found_at}
use Rattle.outbox_core.specs.Reading.{view_entry}
use Rattle.outbox_core.specs.Saying.{Says}
use Rattle.outbox_core.specs.declared.entry.Entry.{Entry as Read}
use Rattle.outbox_core.specs.declared.fault.TakeFault.{TakeFault}
use Rattle.outbox_core.specs.declared.state.Said.TheVariants.{Nothing, Same, Otherwise}
use Rattle.outbox_core.specs.OutboxParts.{OutboxParts, shows, HasEntries, ForEntries}
use Rattle.filer_client.specs.Exchange.{Hears, IsFault}
use Rattle.filer_client.specs.declared.fault.ExchangeFault.{ExchangeFault}
use Rattle.filer_client.specs.declared.fault.ExchangeFault.TheVariants.{Write, Reply as Unread, Take}
use Rattle.outbox_process.specs.declared.tasks.asking.Question.{Question}
use Rattle.outbox_process.specs.declared.fault.Why.{Why}
use Rattle.outbox_process.specs.declared.fault.Why.TheVariants.{IsOpen, Exchange, Contradicts, Memory}
use Rattle.outbox_process.specs.Answering.{PrintsAnswer}
use Rattle.outbox_process.specs.Dials.{Traffic}
use Rattle.outbox_process.specs.Faults.{IsUnconnected, IsNotPrinted}
use Rattle.outbox_process.specs.Listing.{list_request, IsFound}
use Rattle.outbox_process.specs.Looking.{IsNotFound}
use Rattle.outbox_process.specs.Sending.{IsOneConnection, IsOpenAt}

-- ---- what is asked

-- this is the entry of an id, and these are the bytes of its request
abbrev pub IsAbout : List ℕ → List Entry → ℕ → Read → List ℕ → Type 0
IsAbout filer entries id entry request =
    (Some (view_entry entry) ≡ found_at entries id) × (request ≡ bytes_of (request_of filer (view_entry entry).1))

-- why nothing is asked: the entry was not found, or it is open; or its request could not be built
abbrev pub IsNotAsked : {S : Type 0} → Ghosts S → OutboxParts S → OutboxParts S → ℕ → Why → Type 0
IsNotAsked g box box' id why =
    IsNotFound g box box' id why
    ⊎ (((why ≡ IsOpen id) × ForEntries g box box' (λ entries. IsOpenAt entries id))
    ⊎ ((fault : TakeFault) × (why ≡ Exchange id (Take fault))
    × ForEntries g box box' (λ entries. ¬ IsOpenAt entries id)))

-- The outbox was only read: it has the entries that it had, and nothing was committed.
pub record OnlyReads {S : Type 0} (g : Ghosts S) (box box' : OutboxParts S) : Type 0 where
  pub kept : ForEntries g box box' (HasEntries g box')
  pub filer : box'.filer ≡ box.filer
  pub nothing : CommitsNothing (shows g box) (shows g box')

-- the settled entry of an id and its request were found; or they were not
pub record FindsQuestion {S : Type 0} (g : Ghosts S) (box box' : OutboxParts S) (id : ℕ)
    (result : Result Question Why) : Type 0 where
  pub found : ForEntries g box box' (λ entries. IfOk result
      (λ question. IsAbout box.filer entries id question.entry question.request.items))
  pub settled : IfOk result (λ question. view_state question.entry.state ≢ Open)
  pub refused : IfErr result (IsNotAsked g box box' id)
  pub reads : OnlyReads g box box'

-- ---- the reply

-- a request was written whole, or a first part of it was written
abbrev pub WritesQuestion : {X : Type 0} → List ℕ → Option (List ℕ) → Option (List ℕ) → Result X ExchangeFault → Type 0
WritesQuestion request written written' (Ok reply) = Appends written written' request
WritesQuestion request written written' (Err (Write sent)) =
    (sent ≤ length request) × Appends written written' (take sent request)
WritesQuestion request written written' (Err (Unread why)) = Appends written written' request
WritesQuestion request written written' (Err (Take why)) = ⊥

-- A connection was made for the entry of this id, a first part of the request was written on it, and it failed for the
-- cause that the fault says, by the failures of the reader and the writer.
abbrev pub IsUnanswered : ℕ → List ℕ → Traffic → Traffic → ExchangeFault → Type 0
IsUnanswered id request old new fault =
    (bytes : List ℕ) × (from to : Wire) × WritesQuestion {X = Reply} request (Some []) (Some bytes) (Err fault)
    × IsOneConnection old new from.left (record { id = id; came = Err fault; bytes = bytes })
    × IsFault from.left to.left from.read_failures to.read_failures from.write_failures to.write_failures fault

-- On a connection of its own, which was made for the entry of this id in this state, the whole request was written and
-- this reply was read. Or no connection was made; or one was, and no reply was read.
abbrev pub IsReplied : ℕ → State → List ℕ → Traffic → Traffic → Result Reply Why → Type 0
IsReplied id state request old new (Ok reply) =
    (left left' : Option (List ℕ)) × IsOneConnection old new left (record { id = id; came = Ok state; bytes = request })
    × Hears left left' (λ heard. heard ≡ reply_parts reply)
IsReplied id state request old new (Err why) =
    (IsUnconnected why × (new ≡ old))
    ⊎ ((fault : ExchangeFault) × (why ≡ Exchange id fault) × IsUnanswered id request old new fault)

-- ---- whether the filing is listed

-- what is answered is what the reply says of the filing; or no reply was read
abbrev pub IsListed : List ℕ → ℕ → ℕ → Entry → Result Reply Why → Result (Unit {0}) Why → Type 0
IsListed filer id number entry (Ok reply) result = IsFound filer id number entry (reply_parts reply) result
IsListed filer id number entry (Err why) result = result ≡ Err why

-- On a connection of its own, which was made for the entry of this id, the register was asked for the filing of a
-- number of this filer. Or memory ran out, and no connection was made.
abbrev pub Looks : List ℕ → ℕ → ℕ → Entry → Traffic → Traffic → Result (Unit {0}) Why → Type 0
Looks filer id number entry old new result =
    ((came : Result Reply Why) × IsReplied id stored.Open (list_request filer number) old new came
    × IsListed filer id number entry came result)
    ⊎ ((result ≡ Err Memory) × (new ≡ old))

-- of a confirmed entry the register was asked for its filing; of any other no connection was made
abbrev pub LooksFirst : List ℕ → ℕ → Entry → State → Traffic → Traffic → Result (Unit {0}) Why → Type 0
LooksFirst filer id entry (stored.Confirmed number) old new result = Looks filer id number entry old new result
LooksFirst filer id entry other old new result = (result ≡ Ok tt) × (new ≡ old)

-- ---- all of it

-- a reply says nothing of an entry in this state, or as what it is settled
abbrev pub Agrees : Shown → ReplyParts → Type 0
Agrees state reply = Says state reply Nothing ⊎ Says state reply Same

-- The reply was printed, and it agrees with the entry of an id in this state. Or it could not be printed; or it was,
-- and it contradicts the entry, as the fault says.
abbrev pub TellsReply : {X : Type 0} → Form → List ℕ → ℕ → State → ℕ × Entry → ReplyParts → Option (List ℕ)
    → Option (List ℕ) → Result X Why → Type 0
TellsReply form filer id state entry reply out out' (Ok done) =
    PrintsAnswer form filer entry reply out out' × Agrees (view_state state) reply
TellsReply form filer id state entry reply out out' (Err why) =
    IsNotPrinted why
    ⊎ ((told : State) × (why ≡ Contradicts id state told) × Says (view_state state) reply (Otherwise told)
    × PrintsAnswer form filer entry reply out out')

-- what was said of the reply; or no reply was read, and nothing was printed
abbrev pub IsAnswered : {X : Type 0} → Form → List ℕ → ℕ → State → ℕ × Entry → Result Reply Why
    → Option (List ℕ) → Option (List ℕ) → Result X Why → Type 0
IsAnswered form filer id state entry (Ok reply) out out' result =
    TellsReply form filer id state entry (reply_parts reply) out out' result
IsAnswered form filer id state entry (Err why) out out' result = (result ≡ Err why) × (out' ≡ out)

-- the request of the entry of an id was sent again, and this is what was said of the reply
abbrev pub AsksAgain : {X : Type 0} → Form → List ℕ → ℕ → Read → List ℕ → Traffic → Traffic → Option (List ℕ)
    → Option (List ℕ) → Result X Why → Type 0
AsksAgain form filer id entry request old new out out' result =
    (came : Result Reply Why) × IsReplied id entry.state request old new came
    × IsAnswered form filer id entry.state (view_entry entry) came out out' result

-- the same after a look that found the filing, or was not needed; after a fault nothing was sent or printed
abbrev pub AsksAfter : {X : Type 0} → Result (Unit {0}) Why → Form → List ℕ → ℕ → Read → List ℕ → Traffic
    → Traffic → Option (List ℕ) → Option (List ℕ) → Result X Why → Type 0
AsksAfter (Ok found) form filer id entry request old new out out' result =
    AsksAgain form filer id entry request old new out out' result
AsksAfter (Err why) form filer id entry request old new out out' result =
    (result ≡ Err why) × (new ≡ old) × (out' ≡ out)

-- The settled entry of an id was asked about. Of a confirmed one its request was sent again only if the register lists
-- the filing.
pub record Asks {S X : Type 0} (g : Ghosts S) (form : Form) (id : ℕ) (old new : Traffic) (box box' : OutboxParts S)
    (out out' : Option (List ℕ)) (result : Result X Why) : Type 0 where
  pub entry : Read
  pub request : List ℕ
  pub about : ForEntries g box box' (λ entries. IsAbout box.filer entries id entry request)
  pub settled : view_state entry.state ≢ Open
  pub looked : Result (Unit {0}) Why
  pub between : Traffic
  pub looks : LooksFirst box.filer id (view_entry entry).1 entry.state old between looked
  pub asks : AsksAfter looked form box.filer id entry request between new out out' result

-- the settled entry of an id was asked about, or it was not, and nothing was sent or printed; the outbox was only read
abbrev pub AsksEntry : {S X : Type 0} → Ghosts S → Form → ℕ → Traffic → Traffic → OutboxParts S → OutboxParts S
    → Option (List ℕ) → Option (List ℕ) → Result X Why → Type 0
AsksEntry g form id old new box box' out out' result =
    OnlyReads g box box'
    × (Asks g form id old new box box' out out' result
    ⊎ ((why : Why) × (result ≡ Err why) × IsNotAsked g box box' id why × (new ≡ old) × (out' ≡ out)))
