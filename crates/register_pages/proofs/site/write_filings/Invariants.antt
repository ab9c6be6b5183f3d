use Rattle.std.proofs.Common.{ℕ, List, take}
use Rattle.sqlite.specs.Held.{state}
use Rattle.sqlite.specs.State.{HasCleanDisk}
use Rattle.table_rows.specs.Leaving.{Leaves}
use Rattle.table_rows.specs.Leaving.Ending.{Passed}
use Rattle.table_rows.specs.Standing.{HasCommitted}
use Rattle.filing_model.specs.Request.{Request}
use Rattle.filing_model.specs.Register.{register}
use Rattle.register_tables.specs.Registers.{IsRegisterOf}
use Rattle.register_pages.specs.Gathering.{AreCountsOf}
use Rattle.register_pages.specs.Pages.{Writes, filing_files}
use Rattle.register_pages.proofs.site.write_filings.Given as goal

abbrev pub invariant-loop-at : goal.invariant-loop-at
invariant-loop-at g l =
    let old = state g.S.Store l.fn.conn in
    let now = state g.S.Store l.conn in record {
      leaves : Leaves Passed old now;
      written : HasCleanDisk now → (old_style : ℕ) (requests : List Request)
          → HasCommitted (IsRegisterOf old_style requests) old → AreCountsOf requests l.counts
          → Writes l.fn.missed l.missed (g.F.Folder.pages l.fn.folder) (g.F.Folder.pages l.folder)
          (filing_files (take l.at (register requests)));
    }
