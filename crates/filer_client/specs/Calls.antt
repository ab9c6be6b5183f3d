-- What the calls promise. Clauses on entries hold if the outbox's disk is clean as the call ends.
use Rattle.std.specs.Prelude.{◌≡◌, ◌⊎◌, ◌↔◌, ℕ, false, List, Some, None, Result, IsTrue, IfOk, IfErr, OnOk, Err}
use Rattle.sqlite.specs.Store.{Ghosts}
use Rattle.sqlite.specs.State.{HasCleanDisk}
use Rattle.http_wire.specs.declared.device.Source.{Ghosts as Reads}
use Rattle.http_wire.specs.declared.device.Sink.{Ghosts as Writes}
use Rattle.http_messages.specs.declared.refusal.ReplyFault.{ReplyFault}
use Rattle.filing_model.specs.Outbox.{Entry}
use Rattle.table_rows.specs.Standing.{CommitsNothing}
use Rattle.outbox_core.specs.declared.fault.TakeFault.{TakeFault}
use Rattle.outbox_core.specs.declared.fault.TakeFault.TheVariants.{NoEntry, Store}
use Rattle.filing_model.specs.declared.state.State.{State}
use Rattle.outbox_tables.specs.Entries.{entry_at}
use Rattle.outbox_core.specs.Entries.{set_state}
use Rattle.outbox_core.specs.OutboxParts.{OutboxParts, shows, contents, HasEntries, ForEntries, KeepsOnRefusal}
use Rattle.outbox_core.specs.OutboxParts.{IsDurableAs, SurvivesAs, LeavesMoved}
use Rattle.filing_model.specs.Views.{view_state}
use Rattle.filer_client.specs.declared.fault.ExchangeFault.{ExchangeFault}
use Rattle.filer_client.specs.declared.fault.ExchangeFault.TheVariants.{Reply, Take}
use Rattle.filer_client.specs.Exchange.{HearsFrom, moved_at, IsExchanged, WritesBefore, IsFaultOf, IsDurableOnOk}

-- A call asked about the entry of an id: `Is` holds of the entries and the answer, and NoEntry comes if no entry has
-- the id.
pub record AnswersOf {S X : Type 0} (g : Ghosts S) (old new : OutboxParts S) (id : ℕ) (Is : List Entry → X
    → Type 0) (result : Result X TakeFault) : Type 0 where
  pub built : ForEntries g old new (λ entries. IfOk result (Is entries))
  pub no_entry : ForEntries g old new (λ entries. result ≡ Err NoEntry → entry_at entries id ≡ None)
  -- Whatever the answer is, the entries stay as they were, and a crash leaves what it could leave before the call;
  -- after Ok these entries alone.
  pub kept : ForEntries g old new (HasEntries g new)
  pub stopped : IsTrue old.has_failed → (result ≡ Err Store) × (new ≡ old)
  pub stops : IsTrue new.has_failed ↔ (result ≡ Err Store)
  pub filer : new.filer ≡ old.filer
  pub clean : HasCleanDisk (shows g new) → HasCleanDisk (shows g old)
  pub crash : CommitsNothing (shows g old) (shows g new)
  pub durable : IsDurableOnOk g old new result

-- A whole reply was read, and the entry of an id moved by it; or the call was refused.
pub record HandsOver {S R : Type 0} (g : Ghosts S) (r : Reads R) (old new : OutboxParts S) (id : ℕ) (reader reader' : R)
    (result : Result State ExchangeFault) : Type 0 where
  pub moved :
      ForEntries g old new (λ entries. IfOk result (λ to.
      HearsFrom r reader reader' (λ reply. Some (view_state to) ≡ moved_at entries id reply)
      × HasEntries g new (set_state entries id (view_state to))))
  pub no_entry : ForEntries g old new (λ entries. result ≡ Err (Take NoEntry) → entry_at entries id ≡ None)
  pub kept : KeepsOnRefusal g old new result
  pub fault : IfErr result (IsFaultOf r reader reader' 0 0)
  pub fine : OnOk result (r.read_failures reader' ≡ r.read_failures reader)
  pub stopped : IsTrue old.has_failed
      → ((result ≡ Err (Take Store)) ⊎ ((fault : ReplyFault) × (result ≡ Err (Reply fault)))) × (new ≡ old)
  pub stops : old.has_failed ≡ false → (IsTrue new.has_failed ↔ (result ≡ Err (Take Store)))
  pub filer : new.filer ≡ old.filer
  -- A crash leaves what one before the call could leave, or, if the id names an entry, the entries after its move by
  -- the reply that was read, and after Ok these alone.
  pub crash : SurvivesAs g old new (λ entries trees. HearsFrom r reader reader'
      (λ reply. LeavesMoved (contents old entries) id reply trees))
  pub durable : ForEntries g old new (λ entries. IfOk result
      (λ to. IsDurableAs g new (contents new (set_state entries id (view_state to)))))

-- The entry of an id was sent if it is open, a whole reply was read, and the entry moved by it; or the call was
-- refused.
pub record Exchanges {S R W : Type 0} (g : Ghosts S) (r : Reads R) (w : Writes W) (old new : OutboxParts S) (id : ℕ)
    (reader reader' : R) (writer writer' : W) (result : Result State ExchangeFault) : Type 0 where
  pub moved :
      ForEntries g old new (λ entries. IfOk result (λ to.
      IsExchanged old.filer entries id (w.written writer) (w.written writer') (r.left reader) (r.left reader')
      (view_state to)
      × HasEntries g new (set_state entries id (view_state to))))
  pub written : ForEntries g old new (λ entries. IfErr result
      (WritesBefore old.filer entries id (w.written writer) (w.written writer')))
  pub kept : KeepsOnRefusal g old new result
  pub fault : IfErr result (IsFaultOf r reader reader' (w.write_failures writer) (w.write_failures writer'))
  pub fine : OnOk result ((r.read_failures reader' ≡ r.read_failures reader)
      × (w.write_failures writer' ≡ w.write_failures writer))
  pub stopped : IsTrue old.has_failed → (result ≡ Err (Take Store)) × (new ≡ old) × (reader' ≡ reader)
      × (writer' ≡ writer)
  pub stops : IsTrue new.has_failed ↔ (result ≡ Err (Take Store))
  pub filer : new.filer ≡ old.filer
  pub clean : HasCleanDisk (shows g new) → HasCleanDisk (shows g old)
  -- A crash leaves what one before the call could leave, or, if the id names an entry, the entries after its move by
  -- the reply that was read, and after Ok these alone.
  pub crash : SurvivesAs g old new (λ entries trees. HearsFrom r reader reader'
      (λ reply. LeavesMoved (contents old entries) id reply trees))
  pub durable : ForEntries g old new (λ entries. IfOk result
      (λ to. IsDurableAs g new (contents new (set_state entries id (view_state to)))))
