-- Files that hold nothing are opened as a database without tables.
use Rattle.std.proofs.Common.{◌≡◌, ◌∙◌, ℕ, ◌≤◌, ◌<◌, min, true, false, [], length, take, slice_index, get_or-take}
use Rattle.std.proofs.Common.{Option, Some, None, List, sym, ap, inl, inr, arith}
use Rattle.std.proofs.Math.Logic.{∥∥₁_elim}
use Rattle.std.proofs.lemmas.List.{length-take}
use Rattle.std.specs.Prelude.{unwrap_or}
use Rattle.sqlite_disk.specs.declared.Disk.{Ghosts}
use Rattle.sqlite_disk.specs.declared.Files.{Files}
use Rattle.sqlite_store.specs.declared.store.FileStore.{FileStore}
use Rattle.sqlite_pages.specs.PageMap.{PageMap}
use Rattle.sqlite_wal.specs.Recovery.{Image}
use Rattle.sqlite_wal.proofs.AppendLemmas.{some_value}
use Rattle.sqlite_wal.proofs.CreateLemmas.{begun_is_not_blank}
use Rattle.sqlite_pool.specs.File.{IsSoundFile, header_in}
use Rattle.sqlite_pool.specs.Header.{first_page}
use Rattle.sqlite_pool.specs.Stored.{Adopts, used_size, stored_size, sealed}
use Rattle.sqlite_pool.specs.StoredLaws.{trimmed_some}
use Rattle.sqlite_pool.proofs.ProbeLemmas.{first_byte}
use Rattle.sqlite_trees.specs.Tree.{Trees}
use Rattle.sqlite.specs.Effect.{Database}
use Rattle.sqlite.specs.Held.{Held}
use Rattle.sqlite.specs.Files.{file_state, image_of, Finds, IsOpened, IsNothing, IsEmpty, AreFoundIn}
use Rattle.sqlite.proofs.ListingLemmas.{empty_is_sound}
use Rattle.table_rows.specs.Tables.{no_schema}
use Rattle.table_rows.proofs.CleanLemmas.{always_clean}
use Rattle.table_rows.proofs.FileLemmas.{same_database}
use Rattle.database_places.specs.Opening.{ComesFrom}
use Rattle.database_places.specs.Places.{IsHonest}

-- pages of a database begin with the S of SQLite, and so the files hold something
is_something : (size : ℕ) (image : Image) (pages : PageMap) → Adopts size image pages → IsSoundFile size pages
    → IsNothing image → ⊥
is_something size image pages found sound nothing =
    let (first, is) = some_value (found.stored 1) found.whole.first in
    let used : pages 1 ≡ Some (take size first) =
    ap (λ (p : PageMap). p 1) (sym found.shows) ∙ trimmed_some size found.stored 1 first is in
    let head : header_in pages ≡ take 100 (take size first) =
    ap (λ (o : Option (List ℕ)). take 100 (unwrap_or o [])) used in
    let magic = ap (take 16) (sym head) ∙ sound.header.0.magic in
    let long : min 16 (length (take 100 (take size first))) ≡ 16 =
    sym (length-take 16 (take 100 (take size first))) ∙ ap length magic in
    let large : 16 ≤ size =
    omega (arith, long, length-take 100 (take size first), length-take size first) in
    let byte : slice_index first 0 ≡ 83 =
    sym (get_or-take size first 0 0 (omega arith)) ∙ sym (get_or-take 100 (take size first) 0 0 (omega arith))
    ∙ sym (get_or-take 16 (take 100 (take size first)) 0 0 (omega arith))
    ∙ ap (λ (b : List ℕ). slice_index b 0) magic in
    let never = λ (other : ℕ) (some : 0 < other). let gate = first_byte other some in
    begun_is_not_blank (sealed (first_page other)) first (stored_size size) image found.stored found.found is
    (found.whole.sized 1 first is) (omega arith) (byte ∙ sym gate) (λ none. let no = sym gate ∙ none in omega arith) in
    elim nothing [
      | inl plain ↦ never (used_size 4096 false) (omega arith) plain
      | inr summed ↦ never (used_size 4096 true) (omega arith) summed
    ]

empty_found : (image : Image) (db : Trees) → IsNothing image → AreFoundIn image db → IsEmpty db
empty_found image db nothing (inl some) =
    absurd (∥∥₁_elim some.4 (λ (a b : ⊥). absurd a)
    (λ ours. is_something some.0 image some.1 some.3 ours.file.sound nothing))
empty_found image db nothing (inr none) = none.1

module _ {D : Type 0} {g : Ghosts D} where
  nothing_there : (files : Files D) (conn : Held (FileStore D g)) → IsNothing (image_of g files)
      → Finds files conn → IsOpened conn → (file_state conn).now.schema ≡ no_schema
  nothing_there files conn nothing found opened =
      let now = (file_state conn).now in
      let same : now.trees ≡ (file_state conn).committed.trees = ap (λ (d : Database). d.trees) opened.0.clean in
      let empty = empty_found (image_of g files) (file_state conn).committed.trees nothing found.reads in
      let sound = empty_is_sound (file_state conn).committed.trees empty.1 in
      ap (λ (d : Database). d.schema) (same_database now
      (record { schema = no_schema; trees = (file_state conn).committed.trees })
      (opened.1 opened.0.is_open).0 sound same)

  -- so is a place in which no files lie
  pub nothing_lying : IsHonest g → (mid : Option (Option (Files D))) (conn : Held (FileStore D g))
      → ComesFrom (Some None) mid conn → (file_state conn).now.schema ≡ no_schema
  nothing_lying honest mid conn comes =
      let both = comes.3 (always_clean honest conn) in
      nothing_there comes.1 conn comes.2 both.0 both.1
