use Rattle.std.proofs.Common.{ℕ, List}
use Rattle.std.specs.List.{flat_map}
use Rattle.sqlite.specs.Held.{state}
use Rattle.sqlite.specs.State.{HasCleanDisk}
use Rattle.table_rows.specs.Leaving.{Leaves}
use Rattle.table_rows.specs.Leaving.Ending.{Passed}
use Rattle.table_rows.specs.Standing.{HasCommitted}
use Rattle.filing_model.specs.Request.{Request}
use Rattle.filing_model.specs.Register.{kept}
use Rattle.register_tables.specs.Registers.{IsRegisterOf}
use Rattle.register_pages.specs.Pages.{Writes, files_of_filer}
use Rattle.register_pages.proofs.Codes.{codes_shown}
use Rattle.register_pages.proofs.site.write_filers.Given as goal

abbrev pub invariant-loop-code : goal.invariant-loop-code
invariant-loop-code g l =
    let old = state g.S.Store l.fn.conn in
    let now = state g.S.Store l.conn in record {
      leaves : Leaves Passed old now;
      written : HasCleanDisk now → (old_style : ℕ) (requests : List Request)
          → HasCommitted (IsRegisterOf old_style requests) old
          → Writes l.fn.missed l.missed (g.F.Folder.pages l.fn.folder) (g.F.Folder.pages l.folder)
          (flat_map (files_of_filer (kept requests)) (codes_shown l.yielded));
    }
