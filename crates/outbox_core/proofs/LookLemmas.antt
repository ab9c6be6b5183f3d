-- One of the entries was looked for, whichever was sought.
use Rattle.std.proofs.Common.{◌≡◌, ◌≤◌, ◌↔◌, ℕ, Bool, false, List, length, Option, Ok, Err, Result, IfSome, IsTrue}
use Rattle.std.proofs.Common.{refl, sym, ◌∙◌, true≢false}
use Rattle.sqlite.specs.Store.{Ghosts}
use Rattle.sqlite.specs.Tree.{Trees}
use Rattle.sqlite.specs.Held.{Held, state}
use Rattle.http_messages.specs.Head.{max_body_len}
use Rattle.http_messages.specs.Posting.{IsTarget}
use Rattle.filing_model.specs.Outbox.{Entry}
use Rattle.table_rows.specs.declared.fault.StoreFault.{StoreFault}
use Rattle.table_rows.specs.declared.fault.StoreFault.TheVariants.{Store}
use Rattle.table_rows.specs.Leaving.{Ending, Leaves}
use Rattle.table_rows.specs.Leaving.Ending.{Asked, Ended}
use Rattle.table_rows.proofs.LeavingLemmas.{stands}
use Rattle.outbox_core.specs.declared.entry.Entry.{Entry as Read}
use Rattle.outbox_core.specs.Reading.{Finds}
use Rattle.outbox_core.specs.Promises.{ForContents}
use Rattle.outbox_core.specs.OutboxParts.{OutboxParts, shows, HasEntries, ForEntries}
use Rattle.outbox_core.specs.Calls.{LooksUp}
use Rattle.outbox_core.proofs.ListLemmas.{leaves_last}

module _ {S : Type 0} (g : Ghosts S) (old : OutboxParts S) (conn : Held S) (sought : List Entry
    → Option (ℕ × Entry)) (able : old.has_failed ≡ false) where
  abbrev after : Bool → OutboxParts S
  after failed = record old { conn = conn; has_failed = failed }

  kept : {l : Ending} (failed : Bool) → Leaves l (shows g old) (state g conn)
      → ForEntries g old (after failed) (HasEntries g (after failed))
  kept failed p clean entries had = record { stands = stands p clean had.stands; count = had.count }

  pub answers : (found : Option Read) → Leaves Asked (shows g old) (state g conn)
      → ((trees : Trees) → IsTrue (state g conn).is_open → (state g conn).may_leave trees
      → trees ≡ (state g conn).committed.trees)
      → ForContents g old.conn conn (λ it. Finds {E = StoreFault} (Ok found) (sought it.entries))
      → IfSome found (λ e. length e.body.items ≤ max_body_len) → IfSome found (λ e. IsTarget e.target)
      → LooksUp g old (after old.has_failed) sought (Ok found)
  answers found p settled told short within = record {
    found = λ clean entries had. told clean _ had.stands;
    short = short;
    within = within;
    kept = kept old.has_failed p;
    stopped = λ failed. absurd (true≢false (sym failed ∙ able));
    stops = (λ failed. absurd (true≢false (sym failed ∙ able)), λ is. absurd cc);
    filer = refl;
    crash = p.survives;
    durable = λ clean entries had some.
        let alive = (p.left clean).0.is_open in (
          alive,
          λ trees may. leaves_last (state g conn) _ (stands p clean had.stands) alive trees
              (settled trees alive may),
        );
  }

  pub refuses : (failed : Bool) (fault : StoreFault) → Leaves Ended (shows g old) (state g conn)
      → (IsTrue failed ↔ (◌≡◌ {A = Result (Option Read) StoreFault} (Err fault) (Err Store)))
      → LooksUp g old (after failed) sought (Err fault)
  refuses failed fault p stops = record {
    found = λ clean entries had. tt;
    short = tt;
    within = tt;
    kept = kept failed p;
    stopped = λ was. absurd (true≢false (sym was ∙ able));
    stops = stops;
    filer = refl;
    crash = p.survives;
    durable = λ clean entries had. tt;
  }
