-- What lies in a place after a refusal that leaves no doubt: the database that lay there.
use Rattle.std.proofs.Common.{◌≡◌, ℕ, Bool, true, false, true≢false, List, Option, Some, None, sym, subst}
use Rattle.sqlite_disk.specs.declared.Disk.{Ghosts}
use Rattle.sqlite_disk.specs.declared.Files.{Files}
use Rattle.sqlite_wal.proofs.LogLemmas.{SeenMayStay}
use Rattle.sqlite.specs.Files.{file_state}
use Rattle.table_rows.proofs.StepLemmas.{nothing_yet}
use Rattle.table_rows.specs.Standing.{CommitsNothing}
use Rattle.filing_model.specs.Request.{Request}
use Rattle.command_line.specs.declared.fault.DatabaseFault.TheVariants.{Missing}
use Rattle.database_places.specs.Opening.{ComesFrom, StaysIn}
use Rattle.database_places.specs.Places.{IsHonest}
use Rattle.database_places.proofs.Lying.{given_leaves, not_taken}
use Rattle.database_places.proofs.Nothing.{nothing_lying}
use Rattle.register_extracts.specs.declared.fault.Why.{Why}
use Rattle.register_extracts.specs.declared.fault.Why.TheVariants as why
use Rattle.intake_process.specs.Fault.{leaves_doubt}
use Rattle.intake_process.specs.Process.{KeepsBy, IsNotOpened, LeavesDatabase}

module _ {D : Type 0} {g : Ghosts D} where
  -- the requests of a register that lies there
  pub keeps_left : (old new : Option (Option (Files D))) → LeavesDatabase g old new
      → (limit old_style : ℕ) (F : List Request) → KeepsBy {g = g} None old limit old_style F
      → KeepsBy {g = g} None new limit old_style F
  keeps_left old new leaves limit old_style F keeps =
      let hold = keeps.1.2 in
      let there = leaves hold.db (keeps.1.0, keeps.1.1, hold.held) in (
        keeps.0,
        (there.0, there.1, record { db = hold.db; register = hold.register; held = there.2 }),
      )

  -- an opening that was refused, and left no doubt
  pub unopened_leaves : IsHonest g → SeenMayStay g → (has : Bool) (old new : Option (Option (Files D)))
      (was_taken : Bool) (it : Why) → IsNotOpened g has old new was_taken it
      → leaves_doubt was_taken it ≡ false → LeavesDatabase g old new
  unopened_leaves honest stays has old new was_taken (why.Files fault) is sure = λ db.
      not_taken g old new fault (subst (StaysIn g old new fault) sure is.refused)
  unopened_leaves honest stays has old new was_taken why.Taken is sure =
      given_leaves honest stays old (Some None) new is.0 is.1 is.2
      (subst (λ b. CommitsNothing (file_state is.0) (file_state b)) (sym is.3.2) (nothing_yet (file_state is.0))) is.4
  unopened_leaves honest stays has old new was_taken (why.Create fault) is sure = absurd (true≢false sure)
  unopened_leaves honest stays has old new was_taken (why.Open fault) is sure =
      given_leaves honest stays old (Some None) new is.0 is.1 is.2 is.3.1.back.crash is.4
  unopened_leaves honest stays has old new was_taken other is sure = absurd is.3

-- where no files lay, none lie
module _ {D : Type 0} (g : Ghosts D) where
  pub none_left : IsHonest g → (has : Bool) (old new : Option (Option (Files D))) (was_taken : Bool)
      (it : Why) → IsNotOpened g has old new was_taken it → old ≡ Some None
      → (has ≡ true → it ≡ why.Files Missing) → leaves_doubt was_taken it ≡ false → new ≡ Some None
  none_left honest has old new was_taken (why.Files fault) is none absent sure =
      subst (λ l. StaysIn g l new fault false) none (subst (StaysIn g old new fault) sure is.refused)
  none_left honest has old new was_taken why.Taken is none absent sure =
      absurd (is.3.1
      (nothing_lying honest (Some None) is.0 (subst (λ l. ComesFrom l (Some None) is.0) none is.2)))
  none_left honest has old new was_taken (why.Create fault) is none absent sure = absurd (true≢false sure)
  none_left honest has old new was_taken (why.Open fault) is none absent sure =
      absurd (let no : why.Open fault ≡ why.Files Missing = absent is.3.0 in cc)
  none_left honest has old new was_taken other is none absent sure = absurd is.3
