-- Registers that lie in files which were not closed, and what an opening finds there; own rules.
use Rattle.std.specs.Prelude.{◌≡◌, ◌⊎◌, ℕ, List, Result, IfOk}
use Rattle.sqlite_disk.specs.declared.Disk.{Ghosts}
use Rattle.sqlite_disk.specs.declared.Files.{Files}
use Rattle.sqlite_store.specs.declared.store.FileStore.{FileStore}
use Rattle.sqlite.specs.Held.{Held}
use Rattle.sqlite.specs.Files.{over_files, file_state}
use Rattle.filing_model.specs.Request.{Request}
use Rattle.register_tables.specs.declared.fault.OpenFault.{OpenFault}
use Rattle.register_tables.specs.Registers.{IsRegisterOf}
use Rattle.register_store.specs.Store.{StoreParts, HasRequests}
use Rattle.register_store.specs.Calls.{OpensOrGivesBack}
use Rattle.intake_process.specs.Process.{HoldRegisterWithLog}

-- the files hold the register of these requests, or that of those
abbrev pub HoldEitherRegister : {D : Type 0} → Ghosts D → Files D → ℕ → List Request → List Request → Type 0
HoldEitherRegister g files old_style before after =
    HoldRegisterWithLog g files old_style before ⊎ HoldRegisterWithLog g files old_style after

-- The connection is to the register of these requests, and a store or an intake that is opened over it has these and no
-- others.
pub record OpensAsRegister {D : Type 0} {g : Ghosts D} (conn : Held (FileStore D g)) (old_style : ℕ)
    (requests : List Request) : Type 0 where
  pub rows : IsRegisterOf old_style requests (file_state conn).now
  pub store : (result : Result (StoreParts (FileStore D g)) (OpenFault × Held (FileStore D g)))
      → OpensOrGivesBack over_files conn result
      → IfOk result (λ store. (store.old_style ≡ old_style) × HasRequests over_files store requests)
