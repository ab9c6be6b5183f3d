-- What lies in a place after its database was opened, or was not.
use Rattle.std.proofs.Common.{◌≡◌, Bool, true, false, true≢false, Option, Some, None, Ok, Err, IsSome, refl, sym, ap}
use Rattle.std.proofs.Common.{subst}
use Rattle.sqlite_disk.specs.declared.Disk.{Ghosts}
use Rattle.sqlite_disk.specs.declared.Files.{Files}
use Rattle.sqlite_store.specs.declared.store.FileStore.{FileStore}
use Rattle.sqlite_wal.proofs.LogLemmas.{SeenMayStay}
use Rattle.sqlite.specs.Effect.{Database}
use Rattle.sqlite.specs.Held.{Held}
use Rattle.sqlite.specs.Files.{file_state}
use Rattle.table_rows.specs.Standing.{CommitsNothing}
use Rattle.command_line.specs.declared.fault.DatabaseFault.{DatabaseFault}
use Rattle.command_line.specs.declared.fault.DatabaseFault.TheVariants.{Missing}
use Rattle.database_places.specs.Closing.{IsGivenUp, LieGivenUp}
use Rattle.database_places.specs.Left.{HoldWithLog}
use Rattle.database_places.specs.Opening.{ComesFrom, OpensPlace, StaysIn, untouched}
use Rattle.database_places.specs.Places.{IsHonest, KeepsLying, Leaves, Lie}
use Rattle.database_places.specs.declared.opening.Unopened.{Unopened}
use Rattle.database_places.proofs.Finding.{found_lying}
use Rattle.database_places.proofs.Leaving.{given_up}

module _ {D : Type 0} where
  -- ---- files that were left

  -- files that were left lie there still, once a log is removed beside them
  pub kept_lying : (lying mid after : Option (Option (Files D))) (files : Files D) → Leaves lying mid files
      → KeepsLying mid after → Leaves lying after files
  kept_lying None mid after files leaves keeps = tt
  kept_lying (Some there) mid after files leaves keeps = subst (λ m. KeepsLying m after) leaves keeps

  -- ---- the place gave no database

  -- what lay there lies there, or what was left of it
  pub stayed : (g : Ghosts D) (old new : Option (Option (Files D))) (fault : DatabaseFault) (was_taken : Bool)
      → StaysIn g old new fault was_taken → (there : Files D) → old ≡ Some (Some there)
      → (files : Files D) × (new ≡ Some (Some files))
  stayed g old new fault true stays there lies =
      let left = subst (λ l. StaysIn g l new fault true) lies stays in
      (left.0, left.1)
  stayed g old new fault false stays there lies = (there, subst (λ l. StaysIn g l new fault false) lies stays)

  -- files that were not taken lie there as they lay
  pub not_taken : (g : Ghosts D) (old new : Option (Option (Files D))) (fault : DatabaseFault)
      → StaysIn g old new fault false → {Are : Files D → Type 0} → Lie old Are → Lie new Are
  not_taken g old new fault stays lie = (lie.0, subst (λ l. StaysIn g l new fault false) lie.1 stays, lie.2)

module _ {D : Type 0} {g : Ghosts D} where
  -- a database that has to be there where no files lie is missing, and nothing was taken
  pub missing : (has_to_be_there : Bool) (old new : Option (Option (Files D))) (it : Unopened)
      → OpensPlace g has_to_be_there old new (Err it) → has_to_be_there ≡ true → old ≡ Some None
      → (it.fault ≡ Missing) × (it.was_taken ≡ false)
  missing has_to_be_there old new it opens is none =
      let told : Err it ≡ Err (untouched Missing) = opens.absent is none in
      let same : it ≡ untouched Missing = cc in
      (ap (λ (u : Unopened). u.fault) same, ap (λ (u : Unopened). u.was_taken) same)

  -- a connection that came is no such fault
  pub there : {X : Type 0} (has_to_be_there : Bool) (old new : Option (Option (Files D)))
      (conn : Held (FileStore D g)) → OpensPlace g has_to_be_there old new (Ok conn) → has_to_be_there ≡ true
      → old ≡ Some None → X
  there has_to_be_there old new conn opens is none =
      let told : Ok conn ≡ Err (untouched Missing) = opens.absent is none in
      absurd cc

  -- ---- the place gave a connection

  -- the files were taken
  pub came_empty : (old mid : Option (Option (Files D))) (conn : Held (FileStore D g)) → IsSome old
      → ComesFrom old mid conn → mid ≡ Some None
  came_empty None mid conn known comes = absurd (true≢false (sym known))
  came_empty (Some None) mid conn known comes = comes.0
  came_empty (Some (Some files)) mid conn known comes = comes.0

  -- the connection came from what lay there
  came_from : (old mid : Option (Option (Files D))) (conn : Held (FileStore D g)) → ComesFrom old mid conn
      → ComesFrom old (Some None) conn
  came_from None mid conn comes = comes
  came_from (Some None) mid conn comes = (refl, comes.1, comes.2, comes.3)
  came_from (Some (Some files)) mid conn comes = (refl, comes.1)

  -- files that were taken and given up lie there
  pub lies_given : (old mid new : Option (Option (Files D))) (conn back : Held (FileStore D g)) (files : Files D)
      → ComesFrom old mid conn → Leaves mid new files → IsGivenUp back files → LieGivenUp old new back
  lies_given None mid new conn back files comes leaves given = tt
  lies_given (Some there) mid new conn back files comes leaves given =
      (files, subst (λ m. Leaves m new files) (came_empty (Some there) mid conn refl comes) leaves, given)

  -- a connection that is refused, and given up
  pub gives_back : {Refuses : Held (FileStore D g) → Held (FileStore D g) → Type 0}
      (old mid new : Option (Option (Files D))) (conn back : Held (FileStore D g)) (files : Files D)
      → ComesFrom old mid conn → Refuses conn back → Leaves mid new files → IsGivenUp back files
      → (conn : Held (FileStore D g)) × (back : Held (FileStore D g)) × ComesFrom old (Some None) conn
      × Refuses conn back × LieGivenUp old new back
  gives_back old mid new conn back files comes refuses leaves given =
      (conn, back, came_from old mid conn comes, refuses, lies_given old mid new conn back files comes leaves given)

  -- then files that lay there lie there
  pub lie_left : (old new : Option (Option (Files D))) (back : Held (FileStore D g)) → LieGivenUp old new back
      → (there : Files D) → old ≡ Some (Some there) → (files : Files D) × (new ≡ Some (Some files))
  lie_left old new back left there lies =
      let at = subst (λ l. LieGivenUp l new back) lies left in
      (at.0, at.1)

  -- and hold what they held if nothing was committed
  pub given_leaves : IsHonest g → SeenMayStay g → (old mid new : Option (Option (Files D)))
      (conn back : Held (FileStore D g)) → ComesFrom old mid conn
      → CommitsNothing (file_state conn) (file_state back) → LieGivenUp old new back
      → (db : Database) → Lie old (λ files. HoldWithLog g files db) → Lie new (λ files. HoldWithLog g files db)
  given_leaves honest stays old mid new conn back comes nothing given db lie =
      let found = found_lying honest old mid conn comes db lie in
      let left = subst (λ l. LieGivenUp l new back) lie.1 given in (
        left.0,
        left.1,
        subst (HoldWithLog g left.0) found.1 (given_up honest stays conn back left.0 found.0 nothing left.2),
      )
