-- A settled entry that is asked about.
use Rattle.std.proofs.Common.{◌≡◌, ◌≢◌, ◌∙◌, ℕ, List, [], take, Option, Some, option_map}
use Rattle.std.proofs.Common.{Result, Ok, Err, true, false, true≢false, Vec, refl, sym, ap, subst, inl, inr}
use Rattle.std.specs.Global.{Global}
use Rattle.std.specs.Io.KnownBytes.{Appends}
use Rattle.sqlite.specs.Store.{Ghosts}
use Rattle.table_rows.specs.Standing.{CommitsNothing}
use Rattle.table_rows.proofs.StepLemmas.{nothing_left}
use Rattle.http_messages.specs.Replies.{reply_parts}
use Rattle.http_messages.specs.declared.reply.Reply.{Reply}
use Rattle.http_wire.specs.declared.device.Source.{Ghosts as Reads}
use Rattle.http_wire.specs.declared.device.Sink.{Ghosts as Writes}
use Rattle.http_wire.specs.Wire.{wire}
use Rattle.filing_model.specs.Outbox.{Entry, State as Shown, Open, Confirmed, Refused, Clashed, bytes_of, request_of}
use Rattle.filing_model.specs.Views.{view_state}
use Rattle.filing_model.specs.declared.state.State.{State}
use Rattle.outbox_core.specs.Entries.{found_at, is_open_state}
use Rattle.outbox_core.specs.Reading.{view_entry}
use Rattle.outbox_core.specs.declared.entry.Entry.{Entry as Read}
use Rattle.outbox_core.specs.declared.fault.TakeFault.{TakeFault}
use Rattle.outbox_core.specs.OutboxParts.{OutboxParts, shows, HasEntries, ForEntries}
use Rattle.filer_client.specs.Calls.{AnswersOf}
use Rattle.filer_client.specs.Exchange.{request_at, HearsFrom, IsFaultOf}
use Rattle.filer_client.specs.declared.fault.ExchangeFault.{ExchangeFault}
use Rattle.filer_client.specs.declared.fault.ExchangeFault.TheVariants.{Write, Reply as Unread, Take}
use Rattle.outbox_process.specs.declared.fault.Why.TheVariants.{IsOpen, Exchange}
use Rattle.outbox_process.specs.Asking.{OnlyReads, FindsQuestion, WritesQuestion, IsReplied}
use Rattle.outbox_process.specs.Dials.{Traffic, Takes, IsUnwritten, Adds}
use Rattle.outbox_process.specs.Sending.{IsOpenAt}
use Rattle.outbox_process.proofs.Looks.{entry_found}
use Rattle.outbox_process.proofs.Opens.{open_state}
use Rattle.outbox_process.proofs.Trying.{connection}

not_open : (entries : List Entry) (id : ℕ) (entry : Read) → Some (view_entry entry) ≡ found_at entries id
    → view_state entry.state ≢ Open → ¬ IsOpenAt entries id
not_open entries id entry found settled = λ opened.
    let same : Some (view_state entry.state) ≡ Some Open =
    sym (ap (option_map (λ (e : Entry). e.state)) (entry_found entries id entry found).0) ∙ opened in
    settled cc

requested : (filer : List ℕ) (entries : List Entry) (id : ℕ) (entry : Read) (text : List ℕ)
    → Some (view_entry entry) ≡ found_at entries id → Some text ≡ request_at filer entries id
    → text ≡ bytes_of (request_of filer (view_entry entry).1)
requested filer entries id entry text found built =
    let same : Some text ≡ Some (bytes_of (request_of filer (view_entry entry).1)) =
    built ∙ ap (option_map (λ (e : Entry). bytes_of (request_of filer e))) (entry_found entries id entry found).0 in
    cc

opened : (entries : List Entry) (id : ℕ) (entry : Read) → Some (view_entry entry) ≡ found_at entries id
    → is_open_state (view_state entry.state) ≡ true → IsOpenAt entries id
opened entries id entry found is =
    ap (option_map (λ (e : Entry). e.state)) (entry_found entries id entry found).0
    ∙ ap Some (open_state (view_state entry.state) is)

shut : (state : Shown) → is_open_state state ≡ false → state ≢ Open
shut Open is = λ same. true≢false is
shut (Confirmed n) is = λ same. cc
shut Refused is = λ same. cc
shut Clashed is = λ same. cc

-- whether the request was built
abbrev Builds : {S : Type 0} → Ghosts S → OutboxParts S → OutboxParts S → ℕ → Result (Vec ℕ Global) TakeFault → Type 0
Builds g mid box' id result =
    AnswersOf g mid box' id (λ entries text. Some text.items ≡ request_at mid.filer entries id) result

module _ {S : Type 0} (g : Ghosts S) (box mid box' : OutboxParts S) (id : ℕ) (entry : Read)
    (found : ForEntries g box mid (λ entries. Some (view_entry entry) ≡ found_at entries id))
    (kept : ForEntries g box mid (HasEntries g mid))
    (named : mid.filer ≡ box.filer) (nothing : CommitsNothing (shows g box) (shows g mid)) where
  reads : (result : Result (Vec ℕ Global) TakeFault) → Builds g mid box' id result → OnlyReads g box box'
  reads result answers = record {
    kept = λ clean entries had. answers.kept clean entries (kept (answers.clean clean) entries had);
    filer = answers.filer ∙ named;
    nothing = nothing_left (shows g box) (shows g mid) (shows g box') nothing answers.crash;
  }

  -- its request was built
  pub question : (request : Vec ℕ Global) → is_open_state (view_state entry.state) ≡ false
      → Builds g mid box' id (Ok request)
      → FindsQuestion g box box' id (Ok (record { entry = entry; request = request }))
  question request settled answers = record {
    found = λ clean entries had.
        let here = found (answers.clean clean) entries had in (
          here,
          requested box.filer entries id entry request.items here
              (subst (λ filer. Some request.items ≡ request_at filer entries id) named
              (answers.built clean entries (kept (answers.clean clean) entries had))),
        );
    settled = shut (view_state entry.state) settled;
    refused = tt;
    reads = reads (Ok request) answers;
  }

  -- or it was not
  pub no_question : (fault : TakeFault) → is_open_state (view_state entry.state) ≡ false
      → Builds g mid box' id (Err fault)
      → FindsQuestion g box box' id (Err (Exchange id (Take fault)))
  no_question fault settled answers = record {
    found = λ clean entries had. tt;
    settled = tt;
    refused =
        inr (inr (
          fault,
          refl,
          λ clean entries had. not_open entries id entry (found (answers.clean clean) entries had)
              (shut (view_state entry.state) settled),
        ));
    reads = reads (Err fault) answers;
  }

module _ {S : Type 0} (g : Ghosts S) (box mid : OutboxParts S) (id : ℕ) (entry : Read)
    (found : ForEntries g box mid (λ entries. Some (view_entry entry) ≡ found_at entries id))
    (kept : ForEntries g box mid (HasEntries g mid))
    (named : mid.filer ≡ box.filer) (nothing : CommitsNothing (shows g box) (shows g mid)) where
  -- it is open
  pub open_question : is_open_state (view_state entry.state) ≡ true → FindsQuestion g box mid id (Err (IsOpen id))
  open_question is = record {
    found = λ clean entries had. tt;
    settled = tt;
    refused = inr (inl (refl, λ clean entries had. opened entries id entry (found clean entries had) is));
    reads = record { kept = kept; filer = named; nothing = nothing };
  }

-- what was written before a fault, as a text
written_before : (X : Type 0) (request : List ℕ) (written written' : Option (List ℕ)) (fault : ExchangeFault)
    → WritesQuestion {X = X} request written written' (Err fault)
    → (bytes : List ℕ) × WritesQuestion {X = X} request (Some []) (Some bytes) (Err fault)
    × Appends written written' bytes
written_before X request written written' (Write sent) wrote = (take sent request, (wrote.0, refl), wrote.1)
written_before X request written written' (Unread why) wrote = (request, refl, wrote)
written_before X request written written' (Take why) wrote = absurd wrote

module _ {R W : Type 0} (r : Reads R) (w : Writes W) (old mid new : Traffic) (id : ℕ) (state : State) (request : List ℕ)
    (reader reader' : R) (writer writer' : W)
    (fresh : (mid.over ≡ old.over) × Takes old.coming mid.coming (r.left reader)
    × IsUnwritten old.over (w.written writer)) (coming : new.coming ≡ mid.coming) where
  -- the reply was read
  pub replied : (reply : Reply) → Appends (w.written writer) (w.written writer') request
      → HearsFrom r reader reader' (λ heard. heard ≡ reply_parts reply)
      → Adds mid.over new.over id (Ok state) (w.written writer')
      → IsReplied id state request old new (Ok reply)
  replied reply wrote heard adds = (
    r.left reader,
    r.left reader',
    connection old mid new (r.left reader) (w.written writer) (w.written writer') id (Ok state) request fresh
        coming wrote adds,
    heard,
  )

  -- or it was not
  pub not_replied : (fault : ExchangeFault) → WritesQuestion {X =
      Reply} request (w.written writer) (w.written writer') (Err fault)
      → IsFaultOf r reader reader' (w.write_failures writer) (w.write_failures writer') fault
      → Adds mid.over new.over id (Err fault) (w.written writer')
      → IsReplied id state request old new (Err (Exchange id fault))
  not_replied fault wrote is adds =
      let before = written_before Reply request (w.written writer) (w.written writer') fault wrote in
      inr (
        fault,
        refl,
        (
          before.0,
          wire r w reader writer,
          wire r w reader' writer',
          before.1,
          connection old mid new (r.left reader) (w.written writer) (w.written writer') id (Err fault) before.0 fresh
              coming before.2 adds,
          is,
        ),
      )
