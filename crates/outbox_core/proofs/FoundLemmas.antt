-- The outbox that was found over a connection is handed out, or the connection comes back.
use Rattle.std.proofs.Common.{◌≡◌, ◌∙◌, None, Ok, Err, Result, IsTrue, refl, subst, string_bytes}
use Rattle.sqlite.specs.Store.{Ghosts}
use Rattle.sqlite.specs.Tree.{Trees}
use Rattle.sqlite.specs.Held.{Held, state}
use Rattle.table_rows.specs.Standing.{HasCommitted}
use Rattle.outbox_tables.specs.declared.fault.OutboxFault.{OutboxFault}
use Rattle.outbox_tables.specs.declared.opening.FoundOutbox.{FoundOutbox}
use Rattle.outbox_tables.specs.Entries.{contents_of}
use Rattle.outbox_tables.specs.Migrating.{MigratesOutbox}
use Rattle.outbox_tables.specs.Opening.{ReadsOutbox}
use Rattle.outbox_tables.specs.Rows.{IsOutboxOf}
use Rattle.outbox_core.specs.HandedOut.{FindsOrGivesBack, MigratesOrGivesBack, over}
use Rattle.outbox_core.proofs.ListLemmas.{leaves_last}
use Rattle.outbox_core.proofs.UniqueLemmas.{holds_same, one_earlier, one_outbox}

module _ {S : Type 0} (g : Ghosts S) (conn last : Held S) (unlimited : conn.step_limit ≡ None)
    (settled : IsTrue (state g last).is_open → (state g last).now ≡ (state g last).committed) where
  pub opened : (r : Result FoundOutbox OutboxFault)
      → ((trees : Trees) → IsTrue (state g last).is_open → (state g last).may_leave trees
      → trees ≡ (state g last).committed.trees) → ReadsOutbox g conn last r
      → FindsOrGivesBack g conn (over last r)
  opened (Ok it) lasts h = record {
    outcome = record {
      opened = λ clean declared. let found = h.found clean declared in
          (found.0, found.1, record { stands = found.2; count = found.3 });
      says = h.says;
      able = refl;
      same = λ clean outbox is.
          let found = h.found clean is.rows.declared in
          let one = one_outbox (contents_of (string_bytes it.filer) found.0) outbox (state g conn).now found.1 is in
          holds_same g _ found.0 outbox one (record { stands = found.2; count = found.3 });
      durable = λ clean outbox is.
          let found = h.found clean is.rows.declared in
          let one = one_outbox (contents_of (string_bytes it.filer) found.0) outbox (state g conn).now found.1 is in
          let alive = h.«open» clean is.rows.declared in (
            alive,
            λ trees may. leaves_last (state g last) outbox
                (subst (λ i. HasCommitted (IsOutboxOf i) (state g last)) one found.2) alive trees
                (lasts trees alive may),
          );
      crash = h.crash;
      no_other = tt;
    };
    back = tt;
  }
  opened (Err fault) lasts h =
      record {
        outcome = record {
          opened = tt;
          says = tt;
          able = tt;
          same = tt;
          durable = tt;
          crash = tt;
          no_other = h.others;
        };
        back = record {
          autocommit = h.autocommit;
          unlimited = h.crash.limit ∙ unlimited;
          same = λ clean. (h.kept clean, λ alive. settled alive ∙ (h.kept clean).committed alive);
          why = h.refused;
          sound = h.sound;
          crash = h.crash;
        };
      }

  pub migrated : (r : Result FoundOutbox OutboxFault) → MigratesOutbox g conn last r
      → MigratesOrGivesBack g conn (over last r)
  migrated (Ok it) h = record {
    outcome = record {
      migrated = λ clean alone. let found = h.migrated clean alone in
          (found.0, found.1, record { stands = found.2; count = found.3 });
      only = λ clean outbox alone is.
          let found = h.migrated clean alone in
          let one = one_earlier (contents_of (string_bytes it.filer) found.0) outbox (state g conn).now found.1 is in
          holds_same g _ found.0 outbox one (record { stands = found.2; count = found.3 });
      able = refl;
      ran = h.ran;
      crash = h.crash;
      durable = λ clean entries had.
          let alive = (h.ran clean).written.is_open in (
            alive,
            λ trees left. record {
              db = (state g last).now;
              is = h.durable clean trees left;
              outbox =
                  had.stands.now alive;
            },
          );
    };
    back = tt;
  }
  migrated (Err fault) h =
      record {
        outcome = record {
          migrated = tt;
          only = tt;
          able = tt;
          ran = tt;
          crash = tt;
          durable =
              tt;
        };
        back = record {
          autocommit = h.autocommit;
          unlimited = h.crash.limit ∙ unlimited;
          same = λ clean. (h.undone clean, λ alive. settled alive ∙ (h.undone clean).committed alive);
          why = h.refused;
          sound = h.sound;
          crash = h.crash;
        };
      }
