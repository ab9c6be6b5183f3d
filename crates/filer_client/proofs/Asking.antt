-- What was found of an entry, and what it has to send.
use Rattle.std.proofs.Common.{◌≡◌, ◌≢◌, ℕ, List, Option, Some, None, option_map, Result, Ok, Err, refl, sym, ap}
use Rattle.sqlite.specs.Store.{Ghosts}
use Rattle.filing_model.specs.Outbox.{Entry, Open, bytes_of, request_of}
use Rattle.filing_model.specs.Views.{view_state}
use Rattle.filing_model.specs.declared.state.State.{State as Stored}
use Rattle.outbox_tables.specs.Entries.{entry_at}
use Rattle.outbox_core.specs.Entries.{found_at}
use Rattle.outbox_core.specs.Reading.{view_entry}
use Rattle.outbox_core.specs.OutboxParts.{OutboxParts}
use Rattle.outbox_core.specs.declared.entry.Entry.{Entry as Read}
use Rattle.outbox_core.specs.declared.fault.TakeFault.{TakeFault}
use Rattle.outbox_core.specs.declared.fault.TakeFault.TheVariants.{Memory}
use Rattle.filer_client.specs.declared.request.ToSend.{ToSend}
use Rattle.filer_client.specs.declared.request.ToSend.TheVariants.{Request, Settled}
use Rattle.filer_client.specs.Exchange.{IsToSend}
use Rattle.filer_client.specs.Calls.{AnswersOf}

-- the entry of an id was looked for
abbrev Finds : {S : Type 0} → Ghosts S → OutboxParts S → OutboxParts S → ℕ → Result Read TakeFault → Type 0
Finds g old new id result =
    AnswersOf g old new id (λ entries entry. Some (view_entry entry) ≡ found_at entries id) result

-- and it was asked what it has to send
abbrev pub Asks : {S : Type 0} → Ghosts S → OutboxParts S → OutboxParts S → ℕ → Result ToSend TakeFault → Type 0
Asks g old new id result = AnswersOf g old new id (λ entries. IsToSend old.filer entries id) result

found_entry : (entries : List Entry) (id : ℕ) (entry : Read) → Some (view_entry entry) ≡ found_at entries id
    → entry_at entries id ≡ Some (view_entry entry).1
found_entry entries id entry found = go (entry_at entries id) found where
  go : (o : Option Entry) → Some (view_entry entry) ≡ option_map (λ e. (id, e)) o → o ≡ Some (view_entry entry).1
  go None found = cc
  go (Some e) found = let same : view_entry entry ≡ (id, e) = cc in ap (λ (x : ℕ × Entry). Some x.1) (sym same)

-- an answer of another kind, from the same reading
answers_as : {S X Y : Type 0} (g : Ghosts S) (old new : OutboxParts S) (id : ℕ) (P : List Entry → X
    → Type 0) (Q : List Entry → Y → Type 0) (x : X) (y : Y)
    → ((entries : List Entry) → P entries x → Q entries y) → AnswersOf g old new id P (Ok x)
    → AnswersOf g old new id Q (Ok y)
answers_as g old new id P Q x y more found = record {
  built = λ clean entries had. more entries (found.built clean entries had);
  no_entry = λ clean entries had refused. cc;
  kept = found.kept;
  stopped = λ failed. let stopped = found.stopped failed in cc;
  stops = (λ down. let stopped = found.stops.0 down in cc, λ refused. cc);
  filer = found.filer;
  clean = found.clean;
  crash = found.crash;
  durable = found.durable;
}

abbrev HasBytes : ToSend → List ℕ → Type 0
HasBytes (Request text) bytes = text.items ≡ bytes
HasBytes (Settled state) bytes = ⊥

-- an open entry, of which the request was made
pub asks-open : {S : Type 0} (g : Ghosts S) (old new : OutboxParts S) (id : ℕ) (entry : Read) (filer : List ℕ)
    (text : _) → Finds g old new id (Ok entry) → entry.state ≡ Stored.Open → filer ≡ new.filer
    → HasBytes (Request text) (bytes_of (request_of filer (view_entry entry).1)) → Asks g old new id (Ok (Request text))
asks-open g old new id entry filer text found opened named bytes =
    answers_as g old new id _ _ entry (Request text) (λ entries at.
    record {
      entry = (view_entry entry).1;
      at = found_entry entries id entry at;
      is_open = ap view_state opened;
      bytes =
          rw (← found.filer, ← named) bytes;
    }) found

not_open : (state : Stored) → state ≢ Stored.Open → view_state state ≢ Open
not_open Stored.Open settled = λ same. settled refl
not_open (Stored.Confirmed n) settled = λ same. cc
not_open Stored.Refused settled = λ same. cc
not_open Stored.Clashed settled = λ same. cc

-- an entry that is not open
pub asks-settled : {S : Type 0} (g : Ghosts S) (old new : OutboxParts S) (id : ℕ) (entry : Read)
    → Finds g old new id (Ok entry) → entry.state ≢ Stored.Open → Asks g old new id (Ok (Settled entry.state))
asks-settled g old new id entry found settled =
    answers_as g old new id _ _ entry (Settled entry.state) (λ entries at.
    record {
      entry = (view_entry entry).1;
      at = found_entry entries id entry at;
      state_is = refl;
      settled =
          not_open entry.state settled;
    }) found

-- an entry that was not read
pub asks-refused : {S : Type 0} (g : Ghosts S) (old new : OutboxParts S) (id : ℕ) (fault : TakeFault)
    → Finds g old new id (Err fault) → Asks g old new id (Err fault)
asks-refused g old new id fault found = record {
  built = λ clean entries had. tt;
  no_entry = λ clean entries had refused. found.no_entry clean entries had cc;
  kept = found.kept;
  stopped = λ failed. let stopped = found.stopped failed in (cc, stopped.1);
  stops = (λ down. let stopped = found.stops.0 down in cc, λ refused. found.stops.1 cc);
  filer = found.filer;
  clean = found.clean;
  crash = found.crash;
  durable = λ clean entries had. tt;
}

-- an open entry, of which there was no memory to make the request
pub asks-unmade : {S : Type 0} (g : Ghosts S) (old new : OutboxParts S) (id : ℕ) (entry : Read)
    → Finds g old new id (Ok entry) → Asks g old new id (Err Memory)
asks-unmade g old new id entry found = record {
  built = λ clean entries had. tt;
  no_entry = λ clean entries had refused. cc;
  kept = found.kept;
  stopped = λ failed. let stopped = found.stopped failed in cc;
  stops = (λ down. let stopped = found.stops.0 down in cc, λ refused. cc);
  filer = found.filer;
  clean = found.clean;
  crash = found.crash;
  durable = λ clean entries had. tt;
}
