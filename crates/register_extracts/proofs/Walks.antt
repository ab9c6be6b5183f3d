-- What is known of a register after it was read, whatever was then read of it.
use Rattle.std.proofs.Common.{Ok}
use Rattle.sqlite.specs.Store.{Ghosts}
use Rattle.sqlite.specs.Held.{Held, state}
use Rattle.sqlite.specs.State.{HasCleanDisk}
use Rattle.table_rows.specs.Leaving.{Ending, Leaves}
use Rattle.table_rows.specs.Leaving.Ending.{Asked}
use Rattle.table_rows.specs.Standing.{HasCommitted, CommitsNothing}
use Rattle.table_rows.proofs.LeavingLemmas.{clean_before, stands}
use Rattle.table_rows.proofs.StepLemmas.{nothing_left}
use Rattle.register_tables.specs.declared.opening.Counts.{Counts}
use Rattle.register_tables.specs.Opening.{ReadsRegister, IsReadAsRegister}
use Rattle.register_tables.specs.Registers.{ForRows, IsRegisterOf}

module _ {S : Type 0} (g : Ghosts S) (old mid : Held S) (counts : Counts)
    (read : ReadsRegister g old mid (Ok counts)) where
  -- the connection is as it was
  pub opened : Leaves Asked (state g old) (state g mid)
  opened = record { left = read.same; mode = λ _. read.mode; survives = read.survives }

  module _ {ending : Ending} (new : Held S) (leaves : Leaves ending (state g mid) (state g new)) where
    -- what was counted is a register, and is committed still
    pub found_then : HasCleanDisk (state g new) → IsReadAsRegister g old
    found_then clean = let was : HasCleanDisk (state g mid) = clean_before leaves clean in (
      read.says was,
      λ declared. let it = read.found was declared in (counts.old_style, it.0, it.1),
    )

    pub kept_then : HasCleanDisk (state g new)
        → ForRows g old (λ old_style requests. HasCommitted (IsRegisterOf old_style requests) (state g new))
    kept_then clean old_style requests rows =
        stands leaves clean (read.only (clean_before leaves clean) old_style requests rows).1

    pub nothing_then : CommitsNothing (state g old) (state g new)
    nothing_then = nothing_left (state g old) (state g mid) (state g new) read.survives leaves.survives
