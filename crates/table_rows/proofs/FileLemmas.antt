-- What a close leaves in the files is what the next open finds there.
use Rattle.std.proofs.Common.{◌≡◌, sym, ap, subst, ◌∙◌}
use Rattle.std.proofs.Math.Logic.{∥∥₁_elim}
use Rattle.sqlite_disk.specs.declared.Disk.{Ghosts}
use Rattle.sqlite_disk.specs.declared.Files.{Files}
use Rattle.sqlite_store.specs.declared.store.FileStore.{FileStore}
use Rattle.sqlite_trees.specs.Objects.{catalog_tree}
use Rattle.sqlite_catalog.specs.Listing.{Lists}
use Rattle.sqlite_catalog.proofs.ReadLemmas.{lists_once}
use Rattle.sqlite_trees.specs.Props.{Trees-set}
use Rattle.sqlite.specs.Closing.{IsCopied, HoldsAlone}
use Rattle.sqlite.specs.Effect.{Database, IsDatabase}
use Rattle.sqlite.specs.Held.{Held}
use Rattle.sqlite.specs.Files.{file_state, image_of, Finds, IsOpened}
use Rattle.table_rows.specs.Files.{HoldsDatabase}

-- the trees of a database tell its schema
pub same_database : (a b : Database) → IsDatabase a → IsDatabase b → a.trees ≡ b.trees → a ≡ b
same_database a b sound other same =
    let schemas : a.schema ≡ b.schema =
    lists_once (a.trees catalog_tree) a.schema b.schema sound.lists
    (subst (λ trees. Lists (trees catalog_tree) b.schema) (sym same) other.lists) in
    λ i. record { schema = schemas i; trees = same i }

module _ {D : Type 0} {g : Ghosts D} where
  -- an open finds the database that the files hold
  pub finds : (files : Files D) (conn : Held (FileStore D g)) → Finds files conn → IsOpened conn → (db : Database)
      → HoldsDatabase g files db → (file_state conn).now ≡ db
  finds files conn found opened db holds =
      let trees : (file_state conn).committed.trees ≡ db.trees =
      ∥∥₁_elim holds.held.both (Trees-set _ _) (found.holds db.trees) in
      let same : (file_state conn).now ≡ (file_state conn).committed = opened.0.clean in
      same_database (file_state conn).now db (opened.1 opened.0.is_open).0 holds.sound
      (ap (λ (d : Database). d.trees) same ∙ trees)

  -- a close leaves the database that the connection had
  pub leaves : (conn : Held (FileStore D g)) (files : Files D) → IsCopied conn files → (db : Database) → IsDatabase db
      → (file_state conn).committed ≡ db → HoldsDatabase g files db
  leaves conn files copied db sound same =
      record {
        sound = sound;
        held =
            subst (HoldsAlone (image_of g files)) (ap (λ (d : Database). d.trees) same) copied.seen;
      }
