-- What an outbox leaves in its files, and what an opening finds there.
use Rattle.std.proofs.Common.{◌≡◌, ◌⊎◌, inl, inr, ℕ, Some, Result, Ok, Err, IsTrue, IfOk, sym, subst}
use Rattle.sqlite_disk.specs.declared.Disk.{Ghosts}
use Rattle.sqlite_disk.specs.declared.Files.{Files}
use Rattle.sqlite_wal.proofs.LogLemmas.{SeenMayStay}
use Rattle.sqlite_store.specs.declared.store.FileStore.{FileStore}
use Rattle.sqlite_store.specs.FileStore.{recovers}
use Rattle.sqlite_trees.specs.Tree.{Trees}
use Rattle.sqlite_schema.specs.declared.schema.Schema.{Schema}
use Rattle.sqlite_catalog.specs.Listing.{IsSound}
use Rattle.sqlite.specs.Held.{Held}
use Rattle.sqlite.specs.State.{Survives}
use Rattle.sqlite.specs.Files.{image_of, over_files, file_state, HoldsDatabase}
use Rattle.http_messages.specs.Reply.{ReplyParts}
use Rattle.filing_model.specs.Outbox.{Entry, moved}
use Rattle.table_rows.specs.Standing.{HasCommitted, CommitsNothing}
use Rattle.table_rows.proofs.CleanLemmas.{always_clean}
use Rattle.database_places.specs.Opening.{IsFoundIn}
use Rattle.outbox_tables.specs.declared.fault.OutboxFault.{OutboxFault}
use Rattle.outbox_tables.specs.Entries.{Contents, entry_at}
use Rattle.outbox_tables.specs.Rows.{IsOutboxOf, LeavesOutbox}
use Rattle.outbox_core.specs.Entries.{with_state}
use Rattle.outbox_core.specs.OutboxParts.{OutboxParts, HasEntries, LeavesMoved}
use Rattle.outbox_core.specs.Files.{HoldOutbox}
use Rattle.outbox_core.specs.HandedOut.{FindsOrGivesBack}
use Rattle.database_places.specs.Places.{IsHonest}
use Rattle.database_places.specs.Left.{EndsIn}
use Rattle.outbox_process.specs.Process.{HoldOutboxWithLog}
use Rattle.program_runs.specs.Outboxes.{HoldEitherOutbox, HoldMovedOutbox, OpensAsOutbox}
use Rattle.database_places.proofs.Finding.{found_there}
use Rattle.database_places.proofs.Leaving.{closed_with_log, ends_with_one, leaves_now}

sound_if : (it : Contents) (trees : Trees) → LeavesOutbox it trees → (schema : Schema) × IsSound schema trees
sound_if it trees leaves = (leaves.db.schema, subst (IsSound leaves.db.schema) (sym leaves.is) leaves.outbox.sound)

module _ {D : Type 0} (g : Ghosts D) where
  hold : (files : Files D) (it : Contents) (trees : Trees) → LeavesOutbox it trees
      → ∥ HoldsDatabase (image_of g files) trees ∥₁ → HoldOutboxWithLog g files it
  hold files it trees leaves held =
      record {
        db = leaves.db;
        outbox = leaves.outbox;
        held = record {
          sound = leaves.outbox.sound;
          held = subst (λ t. ∥ HoldsDatabase (image_of g files) t ∥₁) leaves.is held;
        };
      }

  -- files that were closed hold it so, since the database file does alone
  pub closed : (files : Files D) (it : Contents) → HoldOutbox g files it → HoldOutboxWithLog g files it
  closed files it held =
      record { db = held.db; outbox = held.outbox; held = closed_with_log files held.db held.held }

  module _ (honest : IsHonest g) where
    opened_outbox : (conn : Held (FileStore D g)) (it : Contents) → IsOutboxOf it (file_state conn).now
        → (result : Result (OutboxParts (FileStore D g)) (OutboxFault × Held (FileStore D g)))
        → FindsOrGivesBack over_files conn result
        → IfOk result (λ outbox. (outbox.filer ≡ it.filer) × HasEntries over_files outbox it.entries)
    opened_outbox conn it rows (Ok outbox) opens = opens.outcome.same (always_clean honest outbox.conn) it rows
    opened_outbox conn it rows (Err refusal) opens = tt

    -- files that hold the outbox are found so
    pub found : (files : Files D) (it : Contents) → HoldOutboxWithLog g files it → (conn : Held (FileStore D g))
        → IsFoundIn files conn → OpensAsOutbox conn it
    found files it held conn is =
        let both = is (always_clean honest conn) in
        let rows : IsOutboxOf it (file_state conn).now =
        subst (IsOutboxOf it) (sym (found_there files conn both.0 both.1 held.db held.held))
        held.outbox in
        record { rows = rows; outbox = opened_outbox conn it rows }

    module _ (stays : SeenMayStay g) where
      -- the files hold an outbox that each outcome of a crash is
      pub leaves_outbox : (conn : Held (FileStore D g)) (files : Files D) (it : Contents) → EndsIn conn files
          → ((db : Trees) → recovers conn.store db → LeavesOutbox it db) → HoldOutboxWithLog g files it
      leaves_outbox conn files it ends each =
          let one = ends_with_one honest stays conn files ends each (sound_if it) in hold files it one.0 one.1 one.2

      -- while it is open and between calls, a crash leaves the outbox that is committed
      pub rests : (conn : Held (FileStore D g)) (it : Contents) → HasCommitted (IsOutboxOf it) (file_state conn)
          → IsTrue (file_state conn).is_open
          → (db : Trees) → recovers conn.store db → LeavesOutbox it db
      rests conn it stands is_open db allowed = record {
        db = (file_state conn).now;
        is = leaves_now honest stays conn is_open (stands.committed is_open) db allowed;
        outbox = stands.now is_open;
      }

      -- After a call that commits one of these changes at most, or inside it, the outbox of before, or that after one
      -- of them.
      outlives_one : (old new : Held (FileStore D g)) (it : Contents) {I : Type 0} (after : I
          → Contents) {Commits : Trees → Type 0}
          → HasCommitted (IsOutboxOf it) (file_state old) → IsTrue (file_state old).is_open
          → Survives (file_state old) (file_state new) Commits
          → ((db : Trees) → Commits db → (i : I) × LeavesOutbox (after i) db) → (files : Files D) → EndsIn new files
          → HoldOutboxWithLog g files it ⊎ ((i : I) × HoldOutboxWithLog g files (after i))
      outlives_one old new it {I} after stands is_open survives commits files ends =
          let each : (db : Trees) → recovers new.store db → LeavesOutbox it db ⊎ ((i : I) × LeavesOutbox (after i) db) =
          λ db allowed. elim (survives.crash (always_clean honest new) db allowed)
          [ inl was ↦ inl (rests old it stands is_open db was) | inr done ↦ inr (commits db done) ] in
          let one =
          ends_with_one honest stays new files ends each
          (λ db. elim [ inl was ↦ sound_if it db was | inr done ↦ sound_if (after done.0) db done.1 ]) in
          elim one.1 [
            | inl was ↦ inl (hold files it one.0 was one.2)
            | inr done ↦ inr (
              done.0,
              hold files (after done.0) one.0 done.1 one.2,
            )
          ]

      -- a call that commits nothing
      pub outlives_reading : (old new : Held (FileStore D g)) (it : Contents)
          → HasCommitted (IsOutboxOf it) (file_state old) → IsTrue (file_state old).is_open
          → CommitsNothing (file_state old) (file_state new) → (files : Files D) → EndsIn new files
          → HoldOutboxWithLog g files it
      outlives_reading old new it stands is_open survives files ends =
          leaves_outbox new files it ends (λ db allowed. elim (survives.crash (always_clean honest new) db allowed)
          [ inl was ↦ rests old it stands is_open db was | inr none ↦ absurd none ])

      -- a call that puts an entry in
      pub outlives_put : (old new : Held (FileStore D g)) (it after : Contents) {Commits : Trees → Type 0}
          → HasCommitted (IsOutboxOf it) (file_state old) → IsTrue (file_state old).is_open
          → Survives (file_state old) (file_state new) Commits
          → ((db : Trees) → Commits db → LeavesOutbox after db) → (files : Files D) → EndsIn new files
          → HoldEitherOutbox g files it after
      outlives_put old new it after stands is_open survives commits files ends =
          elim (outlives_one old new it {I = Unit {0}} (λ i. after) stands is_open survives
          (λ db done. (tt, commits db done)) files ends) [ inl was ↦ inl was | inr done ↦ inr done.1 ]

      -- a call that moves one
      pub outlives_move : (old new : Held (FileStore D g)) (it : Contents) (id : ℕ) (reply : ReplyParts)
          {Commits : Trees → Type 0}
          → HasCommitted (IsOutboxOf it) (file_state old) → IsTrue (file_state old).is_open
          → Survives (file_state old) (file_state new) Commits
          → ((db : Trees) → Commits db → LeavesMoved it id reply db) → (files : Files D) → EndsIn new files
          → HoldOutboxWithLog g files it ⊎ HoldMovedOutbox g files it id reply
      outlives_move old new it id reply stands is_open survives commits files ends =
          elim (outlives_one old new it {I = (e : Entry)
          × (entry_at it.entries id ≡ Some e)} (λ i. with_state it id (moved i.0.state reply)) stands is_open
          survives
          (λ db done. let m = commits db done in ((m.0, m.1), m.2)) files ends)
          [ inl was ↦ inl was | inr done ↦ inr (done.0.0, done.0.1, done.1) ]
