use Rattle.std.proofs.Common.{◌≡◌, ℕ, List, take}
use Rattle.std.specs.List.{flat_map}
use Rattle.sqlite.specs.Held.{state}
use Rattle.sqlite.specs.State.{HasCleanDisk}
use Rattle.table_rows.specs.Leaving.{Leaves}
use Rattle.table_rows.specs.Leaving.Ending.{Passed}
use Rattle.table_rows.specs.Standing.{HasCommitted}
use Rattle.filing_model.specs.Request.{Request}
use Rattle.filing_model.specs.Register.{Kept, kept}
use Rattle.register_tables.specs.Registers.{IsRegisterOf}
use Rattle.register_pages.specs.Own.{ArePlaced, places_of}
use Rattle.register_pages.specs.Pages.{Writes, refused_report}
use Rattle.register_pages.proofs.reports.write_reports.Given as goal

abbrev pub invariant-loop-place : goal.invariant-loop-place
invariant-loop-place g l =
    let old = state g.S.Store l.fn.conn in
    let now = state g.S.Store l.conn in record {
      leaves : Leaves Passed old now;
      written : HasCleanDisk now → (old_style : ℕ) (requests : List Request)
          → HasCommitted (IsRegisterOf old_style requests) old → (refused : List (ℕ × Kept))
          → ArePlaced (kept requests) refused → l.places ≡ places_of refused
          → Writes l.fn.missed l.missed (g.F.Folder.pages l.fn.folder) (g.F.Folder.pages l.folder)
          (flat_map refused_report (take l.place-index refused));
    }
