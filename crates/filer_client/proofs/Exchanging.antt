-- What is asked of an entry, what is written, and a handing over make an exchange.
use Rattle.std.proofs.Common.{◌≡◌, ℕ, ◌≤◌, Bool, true, false, List, length, take, Option, Some, None, option_map}
use Rattle.std.proofs.Common.{Result, MatchResult, Ok, Err, is_ok, IsTrue, IfOk, IfErr, OnOk, refl, inl, inr, ap, ◌∙◌}
use Rattle.std.proofs.Common.{subst, arith}
use Rattle.std.proofs.lemmas.Result.{IfErr-at_err}
use Rattle.std.proofs.lemmas.Bool.{false≢true}
use Rattle.std.specs.Result.{IsErrAnd}
use Rattle.std.specs.Io.KnownBytes.{Appends}
use Rattle.std.proofs.KnownBytes.{Appends-nil}
use Rattle.sqlite.specs.Store.{Ghosts}
use Rattle.sqlite.specs.State.{HasCleanDisk}
use Rattle.sqlite.proofs.StateLemmas.{survives_then, survives_weaker}
use Rattle.http_wire.specs.declared.device.Source.{Ghosts as Reads}
use Rattle.http_wire.specs.declared.device.Sink.{Ghosts as Writes}
use Rattle.http_wire.specs.Device.{HasFailed}
use Rattle.filing_model.specs.Outbox.{Entry, State as Shown, Open, moved}
use Rattle.filing_model.specs.Views.{view_state}
use Rattle.filing_model.specs.declared.state.State.{State}
use Rattle.outbox_tables.specs.Entries.{contents_of, entry_at}
use Rattle.outbox_tables.specs.Rows.{LeavesOutbox}
use Rattle.outbox_core.specs.Entries.{set_state}
use Rattle.outbox_core.specs.OutboxParts.{OutboxParts, shows, HasEntries}
use Rattle.outbox_core.specs.declared.fault.TakeFault.{TakeFault}
use Rattle.outbox_core.specs.declared.fault.TakeFault.TheVariants.{NoEntry, Memory, Store}
use Rattle.filer_client.specs.declared.fault.ExchangeFault.{ExchangeFault}
use Rattle.filer_client.specs.declared.fault.ExchangeFault.TheVariants.{Write, Reply, Take}
use Rattle.filer_client.specs.declared.request.ToSend.TheVariants.{Request, Settled}
use Rattle.filer_client.specs.Exchange.{IsOpenRequest, Hears, moved_at, WritesBefore, IsFault, IsExchanged}
use Rattle.filer_client.specs.Calls.{HandsOver, Exchanges}
use Rattle.filer_client.proofs.Asking.{Asks}
use Rattle.filer_client.proofs.Settled.{set_settled}

-- an entry that is not open
pub exchanges-settled : {S R W : Type 0} (g : Ghosts S) (r : Reads R) (w : Writes W) (old new : OutboxParts S) (id : ℕ)
    (reader : R) (writer : W) (state : State)
    → Asks g old new id (Ok (Settled state)) → Exchanges g r w old new id reader reader writer writer (Ok state)
exchanges-settled g r w old new id reader writer state asked = record {
  moved = λ clean entries had.
      let settled = asked.built clean entries had in (
        inl (settled, Appends-nil (w.written writer), refl),
        rw (set_settled entries id (view_state state) settled) (asked.kept clean entries had),
      );
  written = λ clean entries had. tt;
  kept = λ clean entries had. tt;
  fault = tt;
  fine = (refl, refl);
  stopped = λ failed. let stopped = asked.stopped failed in cc;
  stops = (λ down. let stopped = asked.stops.0 down in cc, λ refused. cc);
  filer = asked.filer;
  clean = asked.clean;
  crash = survives_weaker (shows g old) (shows g new) _ _ (λ clean trees none. absurd none) asked.crash;
  durable =
      λ clean entries had. rw (set_settled entries id (view_state state) (asked.built clean entries had))
      (asked.durable clean entries had);
}

unasked_writes : (filer : List ℕ) (entries : List Entry) (id : ℕ) (written : Option (List ℕ)) (fault : TakeFault)
    → (fault ≡ NoEntry → entry_at entries id ≡ None)
    → WritesBefore filer entries id written written (Take fault)
unasked_writes filer entries id written NoEntry none = (none refl, Appends-nil written)
unasked_writes filer entries id written Memory none = inl (Appends-nil written)
unasked_writes filer entries id written Store none = inl (Appends-nil written)

-- an entry that was not read, or of which no request was made
pub exchanges-unasked : {S R W : Type 0} (g : Ghosts S) (r : Reads R) (w : Writes W) (old new : OutboxParts S) (id : ℕ)
    (reader : R) (writer : W) (fault : TakeFault)
    → Asks g old new id (Err fault) → Exchanges g r w old new id reader reader writer writer (Err (Take fault))
exchanges-unasked g r w old new id reader writer fault asked = record {
  moved = λ clean entries had. tt;
  written =
      λ clean entries had. unasked_writes old.filer entries id (w.written writer) fault
      (λ is. asked.no_entry clean entries had (ap Err is));
  kept = asked.kept;
  fault = (refl, refl);
  fine = tt;
  stopped = λ failed. let stopped = asked.stopped failed in (cc, stopped.1, refl, refl);
  stops = (λ down. let stopped = asked.stops.0 down in cc, λ refused. asked.stops.1 cc);
  filer = asked.filer;
  clean = asked.clean;
  crash = survives_weaker (shows g old) (shows g new) _ _ (λ clean trees none. absurd none) asked.crash;
  durable = λ clean entries had. tt;
}

-- what was written, of a call that answered whether it was
written_whole : {T E : Type 0} (result : Result T E) (P : Type 0) → is_ok result ≡ true → OnOk result P → P
written_whole (Ok of) P whole wrote = wrote
written_whole (Err of) P whole wrote = absurd (false≢true whole)

-- the cause of a refusal that was told as another
pub refused_as : {T E D : Type 0} (Q : E → D → Type 0) (result : Result T E) (told : Result T D) (own : D)
    → told ≡ Err own
    → MatchResult result (λ x. told ≡ Ok x) (λ e. IsErrAnd told (Q e)) → (e : E) × (result ≡ Err e) × Q e own
refused_as Q (Ok x) told own is from = absurd cc
refused_as Q (Err e) told own is from = (e, refl, rw is at from)

-- a request that was not written whole
pub exchanges-unwritten : {S R W : Type 0} (g : Ghosts S) (r : Reads R) (w : Writes W) (old new : OutboxParts S)
    (id : ℕ) (reader : R) (writer writer' : W) (text : _) (bytes : List ℕ) (result : Result (Unit {0}) ℕ) (sent : ℕ)
    → Asks g old new id (Ok (Request text)) → bytes ≡ text.items → result ≡ Err sent
    → IfErr result (λ sent. Appends (w.written writer) (w.written writer') (take sent bytes))
    → IfErr result (λ sent. sent ≤ length bytes)
    → IfErr result (λ _. HasFailed (w.write_failures writer) (w.write_failures writer'))
    → Exchanges g r w old new id reader reader writer writer' (Err (Write sent))
exchanges-unwritten g r w old new id reader writer writer' text bytes result sent asked same is wrote within failed =
    let part = IfErr-at_err (λ (sent : ℕ). Appends (w.written writer) (w.written writer') (take sent bytes)) is wrote in
    let most = IfErr-at_err (λ (sent : ℕ). sent ≤ length bytes) is within in
    record {
      moved = λ clean entries had. tt;
      written = λ clean entries had. (text.items, asked.built clean entries had, rw (← same) most, rw (← same) part);
      kept = asked.kept;
      fault = (
        IfErr-at_err (λ (sent : ℕ). HasFailed (w.write_failures writer) (w.write_failures writer')) is failed,
        refl,
      );
      fine = tt;
      stopped = λ failed. let stopped = asked.stopped failed in cc;
      stops = (λ down. let stopped = asked.stops.0 down in cc, λ refused. cc);
      filer = asked.filer;
      clean = asked.clean;
      crash = survives_weaker (shows g old) (shows g new) _ _ (λ clean trees none. absurd none) asked.crash;
      durable = λ clean entries had. tt;
    }

never : HasFailed 0 0 → ⊥
never (inl less) = absurd (omega arith)
never (inr most) = absurd (omega arith)

-- the entry is open, and it is moved as an open one
heard_open : (left left' : Option (List ℕ)) (entries : List Entry) (id : ℕ) (to : Shown) (filer text : List ℕ)
    → IsOpenRequest filer entries id text
    → Hears left left' (λ reply. Some to ≡ moved_at entries id reply)
    → Hears left left' (λ reply. to ≡ moved Open reply)
heard_open left left' entries id to filer text sends heard =
    let reply = heard.0 in
    let same : Some to ≡ Some (moved Open reply) =
    heard.2 ∙ ap (option_map (λ (e : Entry). moved e.state reply)) sends.at
    ∙ ap (λ s. Some (moved s reply)) sends.is_open in
    (reply, heard.1, cc)

not_down : (failed : Bool) → (IsTrue failed → ⊥) → failed ≡ false
not_down true none = absurd (none refl)
not_down false none = refl

-- the whole request was written, and the handing over came to this
sent_writes : (filer : List ℕ) (entries : List Entry) (id : ℕ) (written written' left left' : Option (List ℕ))
    (reads reads' : ℕ) (text : List ℕ) (result : Result State ExchangeFault)
    → IsOpenRequest filer entries id text → Appends written written' text
    → (result ≡ Err (Take NoEntry) → entry_at entries id ≡ None)
    → IfErr result (IsFault left left' reads reads' 0 0) → IfErr result (WritesBefore filer entries id written written')
sent_writes filer entries id written written' left left' reads reads' text (Ok to) sends wrote none fault = tt
sent_writes filer entries id written written' left left' reads reads' text (Err (Write sent)) sends wrote none fault =
    absurd (never fault.0)
sent_writes filer entries id written written' left left' reads reads' text (Err (Reply of)) sends wrote none fault =
    (text, sends, wrote)
sent_writes filer entries id written written' left left' reads reads' text (Err (Take NoEntry)) sends wrote none fault =
    let at = none refl in let is = sends.at in absurd cc
sent_writes filer entries id written written' left left' reads reads' text (Err (Take Memory)) sends wrote none fault =
    inr (text, sends, wrote)
sent_writes filer entries id written written' left left' reads reads' text (Err (Take Store)) sends wrote none fault =
    inr (text, sends, wrote)

-- the writer did not fail, and so it is told
sent_fault : (left left' : Option (List ℕ)) (reads reads' writes writes' : ℕ) (result : Result State ExchangeFault)
    → writes' ≡ writes → IfErr result (IsFault left left' reads reads' 0 0)
    → IfErr result (IsFault left left' reads reads' writes writes')
sent_fault left left' reads reads' writes writes' (Ok to) fine fault = tt
sent_fault left left' reads reads' writes writes' (Err (Write sent)) fine fault = absurd (never fault.0)
sent_fault left left' reads reads' writes writes' (Err (Reply of)) fine fault = (fault.0, fine)
sent_fault left left' reads reads' writes writes' (Err (Take of)) fine fault = (fault.0, fine)

-- the reader did not fail where the entry moved, nor did the writer
sent_fine : (reads reads' writes writes' : ℕ) (result : Result State ExchangeFault) → writes' ≡ writes
    → OnOk result (reads' ≡ reads) → OnOk result ((reads' ≡ reads) × (writes' ≡ writes))
sent_fine reads reads' writes writes' (Ok to) fine same = (same, fine)
sent_fine reads reads' writes writes' (Err of) fine same = tt

-- the move that was made of the open entry
sent_moved : {S : Type 0} (g : Ghosts S) (new : OutboxParts S) (filer : List ℕ) (entries : List Entry) (id : ℕ)
    (written written' left left' : Option (List ℕ)) (text : List ℕ) (result : Result State ExchangeFault)
    → IsOpenRequest filer entries id text → Appends written written' text
    → IfOk result (λ to. Hears left left' (λ reply. Some (view_state to) ≡ moved_at entries id reply)
    × HasEntries g new (set_state entries id (view_state to)))
    → IfOk result (λ to. IsExchanged filer entries id written written' left left' (view_state to)
    × HasEntries g new (set_state entries id (view_state to)))
sent_moved g new filer entries id written written' left left' text (Ok to) sends wrote moves =
    (inr (text, sends, wrote, heard_open left left' entries id (view_state to) filer text sends moves.0), moves.1)
sent_moved g new filer entries id written written' left left' text (Err of) sends wrote moves = tt

-- a request that was written whole, and a handing over after it
pub exchanges-sent : {S R W : Type 0} (g : Ghosts S) (r : Reads R) (w : Writes W) (old mid new : OutboxParts S) (id : ℕ)
    (reader reader' : R) (writer writer' : W) (text : _) (bytes : List ℕ) (write : Result (Unit {0}) ℕ)
    (result : Result State ExchangeFault)
    → Asks g old mid id (Ok (Request text)) → bytes ≡ text.items → is_ok write ≡ true
    → OnOk write (Appends (w.written writer) (w.written writer') bytes)
    → OnOk write (w.write_failures writer' ≡ w.write_failures writer) → HandsOver g r mid new id reader reader' result
    → Exchanges g r w old new id reader reader' writer writer' result
exchanges-sent g r w old mid new id reader reader' writer writer' text bytes write result asked same whole writes
    writes_fine handed =
    let wrote = rw same at (written_whole write (Appends (w.written writer) (w.written writer') bytes) whole writes) in
    let fine = written_whole write (w.write_failures writer' ≡ w.write_failures writer) whole writes_fine in
    let was_clean : HasCleanDisk (shows g new) → HasCleanDisk (shows g mid) =
    λ clean. omega (arith, handed.crash.clean) in
    let up = not_down mid.has_failed (λ down. let refused = asked.stops.0 down in absurd cc) in
    record {
      moved = λ clean entries had.
          sent_moved g new old.filer entries id (w.written writer) (w.written writer') (r.left reader) (r.left reader')
          text.items result (asked.built (was_clean clean) entries had) wrote
          (handed.moved clean entries (asked.kept (was_clean clean) entries had));
      written = λ clean entries had.
          sent_writes old.filer entries id (w.written writer) (w.written writer') (r.left reader) (r.left reader')
          (r.read_failures reader) (r.read_failures reader') text.items result
          (asked.built (was_clean clean) entries had) wrote
          (handed.no_entry clean entries (asked.kept (was_clean clean) entries had)) handed.fault;
      kept = λ clean entries had. handed.kept clean entries (asked.kept (was_clean clean) entries had);
      fault =
          sent_fault (r.left reader) (r.left reader') (r.read_failures reader) (r.read_failures reader')
          (w.write_failures writer) (w.write_failures writer') result fine handed.fault;
      fine = sent_fine (r.read_failures reader) (r.read_failures reader') (w.write_failures writer)
          (w.write_failures writer') result fine handed.fine;
      stopped = λ failed. let stopped = asked.stopped failed in cc;
      stops = handed.stops up;
      filer = handed.filer ∙ asked.filer;
      clean = λ clean. asked.clean (was_clean clean);
      crash =
          survives_then (shows g old) (shows g mid) (shows g new) _ _ _ (λ clean trees none. absurd none)
          (λ clean trees moves entries had alive.
          let stands = asked.kept (was_clean clean) entries had in
          let still = (asked.durable (was_clean clean) entries had).0 in
          subst (λ (filer : List ℕ). Hears (r.left reader) (r.left reader')
          (λ reply. (e : Entry) × (entry_at entries id ≡ Some e)
          × LeavesOutbox (contents_of filer (set_state entries id (moved e.state reply))) trees))
          asked.filer (moves entries stands still))
          asked.crash handed.crash;
      durable = λ clean entries had. handed.durable clean entries (asked.kept (was_clean clean) entries had);
    }
