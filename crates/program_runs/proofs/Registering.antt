-- What a register leaves in its files, and what an opening finds there.
use Rattle.std.proofs.Common.{◌≡◌, ◌⊎◌, inl, inr, ℕ, List, Result, Ok, Err, IsTrue, IfOk, sym, subst}
use Rattle.sqlite_disk.specs.declared.Disk.{Ghosts}
use Rattle.sqlite_disk.specs.declared.Files.{Files}
use Rattle.sqlite_wal.proofs.LogLemmas.{SeenMayStay}
use Rattle.sqlite_store.specs.declared.store.FileStore.{FileStore}
use Rattle.sqlite_store.specs.FileStore.{recovers}
use Rattle.sqlite_trees.specs.Tree.{Trees}
use Rattle.sqlite_schema.specs.declared.schema.Schema.{Schema}
use Rattle.sqlite_catalog.specs.Listing.{IsSound}
use Rattle.sqlite.specs.Held.{Held}
use Rattle.sqlite.specs.State.{Survives}
use Rattle.sqlite.specs.Files.{image_of, over_files, file_state, HoldsDatabase}
use Rattle.filing_model.specs.Request.{Request}
use Rattle.table_rows.specs.Standing.{HasCommitted, CommitsNothing}
use Rattle.table_rows.proofs.CleanLemmas.{always_clean}
use Rattle.register_tables.specs.declared.fault.OpenFault.{OpenFault}
use Rattle.register_tables.specs.Registers.{IsRegisterOf, LeavesRegister}
use Rattle.register_store.specs.Store.{StoreParts, HasRequests}
use Rattle.register_store.specs.Files.{HoldRegister}
use Rattle.register_store.specs.Calls.{OpensOrGivesBack}
use Rattle.database_places.specs.Opening.{IsFoundIn}
use Rattle.database_places.specs.Places.{IsHonest}
use Rattle.database_places.specs.Left.{EndsIn}
use Rattle.intake_process.specs.Process.{HoldRegisterWithLog}
use Rattle.program_runs.specs.StoppedRegisters.{HoldEitherRegister, OpensAsRegister}
use Rattle.database_places.proofs.Finding.{found_there}
use Rattle.database_places.proofs.Leaving.{closed_with_log, ends_with_one, leaves_now}

pub sound_if : (old_style : ℕ) (F : List Request) (trees : Trees) → LeavesRegister old_style F trees
    → (schema : Schema) × IsSound schema trees
sound_if old_style F trees leaves =
    (leaves.db.schema, subst (IsSound leaves.db.schema) (sym leaves.is) leaves.register.sound)

module _ {D : Type 0} (g : Ghosts D) where
  pub hold : (files : Files D) (old_style : ℕ) (F : List Request) (trees : Trees) → LeavesRegister old_style F trees
      → ∥ HoldsDatabase (image_of g files) trees ∥₁ → HoldRegisterWithLog g files old_style F
  hold files old_style F trees leaves held =
      record {
        db = leaves.db;
        register = leaves.register;
        held = record {
          sound = leaves.register.sound;
          held = subst (λ t. ∥ HoldsDatabase (image_of g files) t ∥₁) leaves.is held;
        };
      }

  -- files that were closed hold it so, since the database file does alone
  pub closed : (files : Files D) (old_style : ℕ) (F : List Request) → HoldRegister g files old_style F
      → HoldRegisterWithLog g files old_style F
  closed files old_style F it =
      record { db = it.db; register = it.register; held = closed_with_log files it.db it.held }

  module _ (honest : IsHonest g) where
    opened_store : (conn : Held (FileStore D g)) (old_style : ℕ) (F : List Request)
        → IsRegisterOf old_style F (file_state conn).now
        → (result : Result (StoreParts (FileStore D g)) (OpenFault × Held (FileStore D g)))
        → OpensOrGivesBack over_files conn result
        → IfOk result (λ store. (store.old_style ≡ old_style) × HasRequests over_files store F)
    opened_store conn old_style F rows (Ok store) opens =
        opens.outcome.only (always_clean honest store.conn) old_style F rows
    opened_store conn old_style F rows (Err refusal) opens = tt

    -- files that hold the register are found so
    pub found : (files : Files D) (old_style : ℕ) (F : List Request) → HoldRegisterWithLog g files old_style F
        → (conn : Held (FileStore D g)) → IsFoundIn files conn → OpensAsRegister conn old_style F
    found files old_style F it conn is =
        let both = is (always_clean honest conn) in
        let rows : IsRegisterOf old_style F (file_state conn).now =
        subst (IsRegisterOf old_style F)
        (sym (found_there files conn both.0 both.1 it.db it.held)) it.register in
        record {
          rows = rows;
          store = opened_store conn old_style F rows;
        }

    module _ (stays : SeenMayStay g) where
      -- the files hold a register that each outcome of a crash is
      pub leaves_register : (conn : Held (FileStore D g)) (files : Files D) (old_style : ℕ) (F : List Request)
          → EndsIn conn files
          → ((db : Trees) → recovers conn.store db → LeavesRegister old_style F db)
          → HoldRegisterWithLog g files old_style F
      leaves_register conn files old_style F ends each =
          let one = ends_with_one honest stays conn files ends each (sound_if old_style F) in
          hold files old_style F one.0 one.1 one.2

      -- or one of two
      leaves_either : (conn : Held (FileStore D g)) (files : Files D) (old_style : ℕ) (F G : List Request)
          → EndsIn conn files
          → ((db : Trees) → recovers conn.store db → LeavesRegister old_style F db ⊎ LeavesRegister old_style G db)
          → HoldEitherRegister g files old_style F G
      leaves_either conn files old_style F G ends each =
          let one =
          ends_with_one honest stays conn files ends each
          (λ db. elim [ inl was ↦ sound_if old_style F db was | inr more ↦ sound_if old_style G db more ]) in
          elim one.1 [
            | inl was ↦ inl (hold files old_style F one.0 was one.2)
            | inr more ↦ inr
                (hold files old_style G one.0 more one.2)
          ]

      -- while it is open and between calls, a crash leaves the register that is committed
      pub rests : (conn : Held (FileStore D g)) (old_style : ℕ) (F : List Request)
          → HasCommitted (IsRegisterOf old_style F) (file_state conn) → IsTrue (file_state conn).is_open
          → (db : Trees) → recovers conn.store db → LeavesRegister old_style F db
      rests conn old_style F stands is_open db allowed = record {
        db = (file_state conn).now;
        is = leaves_now honest stays conn is_open (stands.committed is_open) db allowed;
        register = stands.now is_open;
      }

      -- after a call that commits one change at most, or inside it, the register of before, or that after the change
      pub outlives_call : (old new : Held (FileStore D g)) (old_style : ℕ) (F G : List Request) {Commits : Trees
          → Type 0}
          → HasCommitted (IsRegisterOf old_style F) (file_state old) → IsTrue (file_state old).is_open
          → Survives (file_state old) (file_state new) Commits
          → ((db : Trees) → Commits db → LeavesRegister old_style G db) → (files : Files D) → EndsIn new files
          → HoldEitherRegister g files old_style F G
      outlives_call old new old_style F G stands is_open survives commits files ends =
          leaves_either new files old_style F G ends
          (λ db allowed. elim (survives.crash (always_clean honest new) db allowed)
          [ inl was ↦ inl (rests old old_style F stands is_open db was) | inr done ↦ inr (commits db done) ])

      -- or one that commits nothing
      pub outlives_reading : (old new : Held (FileStore D g)) (old_style : ℕ) (F : List Request)
          → HasCommitted (IsRegisterOf old_style F) (file_state old) → IsTrue (file_state old).is_open
          → CommitsNothing (file_state old) (file_state new) → (files : Files D) → EndsIn new files
          → HoldRegisterWithLog g files old_style F
      outlives_reading old new old_style F stands is_open survives files ends =
          leaves_register new files old_style F ends
          (λ db allowed. elim (survives.crash (always_clean honest new) db allowed)
          [ inl was ↦ rests old old_style F stands is_open db was | inr none ↦ absurd none ])
