-- What the calls on an outbox promise. What is said of entries holds if the disk is clean as the call ends.
use Rattle.std.specs.Prelude.{◌≡◌, ◌+◌, ◌<◌, ◌≤◌, ◌↔◌, ℕ, false, List, [], ◌∷◌, ◌++◌, length, find, Option, option_map}
use Rattle.std.specs.Prelude.{None, Some, Result, Err, IsTrue, IfOk, OnOk, IfSome, IsSome}
use Rattle.sqlite.specs.Store.{Ghosts}
use Rattle.http_messages.specs.Head.{max_body_len}
use Rattle.http_messages.specs.Posting.{IsTarget}
use Rattle.http_messages.specs.Reply.{ReplyParts}
use Rattle.filing_model.specs.Outbox.{Entry, moved}
use Rattle.table_rows.specs.Standing.{CommitsNothing}
use Rattle.outbox_core.specs.declared.entry.Entry.{Entry as Read}
use Rattle.filing_model.specs.declared.state.State.{State}
use Rattle.outbox_core.specs.declared.fault.PutFault.{PutFault}
use Rattle.outbox_core.specs.declared.fault.PutFault.TheVariants as put
use Rattle.table_rows.specs.declared.fault.StoreFault.{StoreFault}
use Rattle.table_rows.specs.declared.fault.StoreFault.TheVariants as store
use Rattle.outbox_core.specs.declared.fault.TakeFault.{TakeFault}
use Rattle.outbox_core.specs.declared.fault.TakeFault.TheVariants as take
use Rattle.outbox_core.specs.Entries.{opened, has_text, set_state}
use Rattle.outbox_tables.specs.Entries.{numbered, entry_at}
use Rattle.outbox_tables.specs.Rows.{LeavesOutbox}
use Rattle.filing_model.specs.Views.{view_state}
use Rattle.outbox_core.specs.Reading.{Finds}
use Rattle.outbox_core.specs.OutboxParts.{OutboxParts, shows, contents, HasEntries, ForEntries, KeepsOnRefusal}
use Rattle.outbox_core.specs.OutboxParts.{IsDurableAs, SurvivesAs, LeavesMoved}

-- A report was put in under its key, as the last entry and open, and its id is answered; or it was refused.
pub record PutsEntry {S : Type 0} (g : Ghosts S) (old new : OutboxParts S) (key : List ℕ) (target : Option ℕ)
    (body : List ℕ) (result : Result ℕ PutFault) : Type 0 where
  pub added : ForEntries g old new (λ entries. IfOk result (λ id. (id ≡ 1 + length entries)
      × HasEntries g new (entries ++ opened key target body ∷ [])))
  pub unused : ForEntries g old new (λ entries. OnOk result (find (has_text key) (numbered entries) ≡ None))
  pub used : ForEntries g old new (λ entries. (id : ℕ) → result ≡ Err (put.KeyUsed id)
      → option_map (λ x. x.0) (find (has_text key) (numbered entries)) ≡ Some id)
  pub too_large : (result ≡ Err put.TooLarge) ↔ ((old.has_failed ≡ false) × (max_body_len < length body))
  -- A refusal changes no entry.
  pub kept : KeepsOnRefusal g old new result
  pub stopped : IsTrue old.has_failed → (result ≡ Err put.Store) × (new ≡ old)
  pub stops : IsTrue new.has_failed ↔ (result ≡ Err put.Store)
  pub filer : new.filer ≡ old.filer
  -- A crash in the call leaves what one before it could leave, or the entries with this one; one after Ok, these.
  pub crash : SurvivesAs g old new (λ entries. LeavesOutbox (contents old (entries ++ opened key target body ∷ [])))
  pub durable : ForEntries g old new (λ entries. OnOk result
      (IsDurableAs g new (contents new (entries ++ opened key target body ∷ []))))

-- One of the entries was looked for, and is answered with its id, or that there is none.
pub record LooksUp {S : Type 0} (g : Ghosts S) (old new : OutboxParts S) (sought : List Entry
    → Option (ℕ × Entry)) (result : Result (Option Read) StoreFault) : Type 0 where
  pub found : ForEntries g old new (λ entries. Finds result (sought entries))
  pub short : IfOk result (λ entry. IfSome entry (λ e. length e.body.items ≤ max_body_len))
  pub within : IfOk result (λ entry. IfSome entry (λ e. IsTarget e.target))
  -- The entries are as they were, whatever the answer is, and a crash leaves what it could leave before.
  pub kept : ForEntries g old new (HasEntries g new)
  pub stopped : IsTrue old.has_failed → (result ≡ Err store.Store) × (new ≡ old)
  pub stops : IsTrue new.has_failed ↔ (result ≡ Err store.Store)
  pub filer : new.filer ≡ old.filer
  pub crash : CommitsNothing (shows g old) (shows g new)
  -- If an entry is answered, a crash leaves these entries and no others.
  pub durable : ForEntries g old new (λ entries. IfOk result (λ entry. IsSome entry
      → IsDurableAs g new (contents new entries)))

-- The entry of an id was moved by a reply, and its state is answered; or it was refused.
pub record MovesEntry {S : Type 0} (g : Ghosts S) (old new : OutboxParts S) (id : ℕ) (reply : ReplyParts)
    (result : Result State TakeFault) : Type 0 where
  pub moved :
      ForEntries g old new (λ entries. IfOk result (λ to.
      (Some (view_state to) ≡ option_map (λ e. moved e.state reply) (entry_at entries id))
      × HasEntries g new (set_state entries id (view_state to))))
  pub no_entry : ForEntries g old new (λ entries. result ≡ Err take.NoEntry → entry_at entries id ≡ None)
  -- A refusal changes no entry.
  pub kept : KeepsOnRefusal g old new result
  pub stopped : IsTrue old.has_failed → (result ≡ Err take.Store) × (new ≡ old)
  pub stops : IsTrue new.has_failed ↔ (result ≡ Err take.Store)
  pub filer : new.filer ≡ old.filer
  -- A crash in the call leaves what one before it could leave, or the entries after the move, if the id names one; one
  -- after Ok, the entries after the move.
  pub crash : SurvivesAs g old new (λ entries. LeavesMoved (contents old entries) id reply)
  pub durable : ForEntries g old new (λ entries. IfOk result
      (λ to. IsDurableAs g new (contents new (set_state entries id (view_state to)))))
