-- What the writing of a register's pages does. A page is HTML, in which each text of a report was escaped: a folder
-- takes no other page, and a text becomes HTML by `text` alone. Beside the pages of a filing stands its report, byte
-- for byte. `pages` and `pages'` are the files that were written into the folder before and after it, if these are
-- known.
use Rattle.std.specs.Prelude.{◌≡◌, ℕ, false, List, Option, Result, IfErr, OnOk}
use Rattle.sqlite.specs.Store.{Ghosts}
use Rattle.sqlite.specs.Held.{Held, state}
use Rattle.sqlite.specs.State.{HasCleanDisk}
use Rattle.table_rows.specs.Standing.{HasCommitted, CommitsNothing, StaysOnOk}
use Rattle.register_tables.specs.Faults.{IsFailure}
use Rattle.register_tables.specs.Opening.{IsRefused, IsReadAsRegister}
use Rattle.register_tables.specs.Registers.{ForRows, IsRegisterOf}
use Rattle.register_extracts.specs.declared.fault.Why.{Why}
use Rattle.register_extracts.specs.Faults.{IfOpen, OpenOr, UnlessRefused}
use Rattle.register_pages.specs.Faults.{IsWritingWhy}
use Rattle.register_pages.specs.Pages.{File, WritesSite}

-- What `write_pages` writes of the register that a database is, and that it writes nothing to the database.
pub record WritesPages {S X : Type 0} (g : Ghosts S) (pages pages' : Option (List File)) (old new : Held S)
    (result : Result X Why) : Type 0 where
  -- The rows stand for requests, and there is one such list at most.
  pub written : HasCleanDisk (state g new)
      → OnOk result (ForRows g old (λ _ requests. WritesSite requests pages pages'))
  -- It is refused, or not read, or memory or the folder failed.
  pub fails : IfErr result (OpenOr IsWritingWhy)
  -- Unless it is refused, it is read as a register, and what its rows stand for is still committed.
  pub found : HasCleanDisk (state g new) → UnlessRefused result (IsReadAsRegister g old)
  pub kept : HasCleanDisk (state g new)
      → UnlessRefused result (ForRows g old (λ old_style requests. HasCommitted (IsRegisterOf old_style requests)
      (state g new)))
  -- A refusal of the opening says why, and no page was written. If the rows stand for requests, memory or the disk
  -- refused.
  pub refused : HasCleanDisk (state g new) → IfErr result (IfOpen (λ why. IsRefused g why old new))
  pub failed : HasCleanDisk (state g new) → IfErr result (IfOpen (λ why. ForRows g old (λ _ _. IsFailure why)))
  pub unwritten : IfErr result (IfOpen (λ _. pages' ≡ pages))
  -- The connection is as it was. A crash leaves what it could leave before.
  pub same : StaysOnOk (state g old) (state g new) result
  pub mode : new.in_transaction ≡ false
  pub survives : CommitsNothing (state g old) (state g new)
