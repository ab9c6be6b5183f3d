-- What an opening finds in files that hold a database by their log and their database file together.
use Rattle.std.proofs.Common.{◌≡◌, Option, Some, None, inl, inr, ap, subst, sym, ◌∙◌}
use Rattle.std.proofs.Math.Logic.{∥∥₁_elim}
use Rattle.sqlite_disk.specs.declared.Disk.{Ghosts}
use Rattle.sqlite_disk.specs.declared.Files.{Files}
use Rattle.sqlite_store.specs.declared.store.FileStore.{FileStore}
use Rattle.sqlite_trees.specs.Props.{Trees-set}
use Rattle.sqlite.specs.Effect.{Database}
use Rattle.sqlite.specs.Held.{Held}
use Rattle.sqlite.specs.Files.{file_state, AreFound, Finds, IsOpened, FailsToOpenFiles}
use Rattle.sqlite.specs.declared.error.Error.{Error}
use Rattle.sqlite.specs.declared.file.Leftover.{Leftover}
use Rattle.table_rows.proofs.CleanLemmas.{always_clean}
use Rattle.table_rows.proofs.FileLemmas.{same_database}
use Rattle.database_places.specs.Left.{HoldWithLog, IsReadIn, FailsForCause}
use Rattle.database_places.specs.Opening.{ComesFrom}
use Rattle.database_places.specs.Places.{IsHonest, Lie}

module _ {D : Type 0} {g : Ghosts D} where
  -- the database that the files hold
  pub found_there : (files : Files D) (conn : Held (FileStore D g)) → Finds files conn → IsOpened conn → (db : Database)
      → HoldWithLog g files db → (file_state conn).now ≡ db
  found_there files conn found opened db it =
      let trees : (file_state conn).committed.trees ≡ db.trees =
      ∥∥₁_elim it.held (Trees-set _ _) (found.holds db.trees) in
      let same : (file_state conn).now ≡ (file_state conn).committed = opened.0.clean in
      same_database (file_state conn).now db (opened.1 opened.0.is_open).0 it.sound (ap (λ (d : Database). d.trees) same
      ∙ trees)

  -- the database that lies in a place
  pub found_lying : IsHonest g → (old mid : Option (Option (Files D))) (conn : Held (FileStore D g))
      → ComesFrom old mid conn → (db : Database) → Lie old (λ files. HoldWithLog g files db)
      → IsOpened conn × ((file_state conn).now ≡ db) × (mid ≡ Some None)
  found_lying honest old mid conn comes db lie =
      let came = subst (λ l. ComesFrom l mid conn) lie.1 comes in
      let both = came.1 (always_clean honest conn) in
      (both.1, found_there lie.0 conn both.0 both.1 db lie.2, came.0)

  -- whatever files lie in a place
  pub read_lying : IsHonest g → (old mid : Option (Option (Files D))) (conn : Held (FileStore D g))
      → ComesFrom old mid conn → (files : Files D) → old ≡ Some (Some files)
      → IsReadIn g files (file_state conn).now × (mid ≡ Some None)
  read_lying honest old mid conn comes files lies =
      let came = subst (λ l. ComesFrom l mid conn) lies comes in
      let both = came.1 (always_clean honest conn) in (
        record {
          sound = (both.1.1 both.1.0.is_open).0;
          found = subst (AreFound g files) (sym (ap (λ (d : Database). d.trees) both.1.0.clean)) both.0.reads;
          only = found_there files conn both.0 both.1;
        },
        came.0,
      )

  -- files that hold a database are not refused for what they hold
  pub fails_for_cause : (files : Files D) (db : Database) → HoldWithLog g files db
      → (left : Leftover D g) (error : Error) → FailsToOpenFiles files left error → FailsForCause files left error
  fails_for_cause files db held left error (inl memory) = inl memory
  fails_for_cause files db held left error (inr (inl strange)) =
      absurd (∥∥₁_elim held.held (λ (a b : ⊥). absurd a) (λ it. strange.1 (inl (db.trees, it))))
  fails_for_cause files db held left error (inr (inr (inl fault))) = inr (inl fault.1)
  fails_for_cause files db held left error (inr (inr (inr full))) = inr (inr full.1)
