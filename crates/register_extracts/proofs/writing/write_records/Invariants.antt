use Rattle.std.proofs.Common.{◌≡◌, ◌++◌, ℕ, List, Option, length, take}
use Rattle.std.specs.List.{flat_map}
use Rattle.std.specs.Io.KnownBytes.{Appends}
use Rattle.sqlite.specs.Held.{state}
use Rattle.sqlite.specs.State.{HasCleanDisk}
use Rattle.table_rows.specs.Leaving.{Leaves}
use Rattle.table_rows.specs.Leaving.Ending.{Passed}
use Rattle.table_rows.specs.Standing.{HasCommitted}
use Rattle.register_extracts.specs.Fields.{first_line}
use Rattle.filing_model.specs.Request.{Request}
use Rattle.filing_model.specs.Register.{kept, register}
use Rattle.register_rows.specs.Catalogue.{catalogue_of, view_lines}
use Rattle.register_rows.specs.Received.{Received}
use Rattle.register_tables.specs.Registers.{IsRegisterOf}
use Rattle.register_extracts.specs.Records.{filing_records}
use Rattle.register_extracts.proofs.writing.write_records.Given as goal

abbrev pub invariant-loop-at : goal.invariant-loop-at
invariant-loop-at g l =
    let old = state g.S.Store l.fn.conn in
    let now = state g.S.Store l.conn in record {
      leaves : Leaves Passed old now;
      written : HasCleanDisk now → (old_style : ℕ) (F : List Request) → HasCommitted (IsRegisterOf old_style F) old
          → (moments : List (Option ℕ)) → length moments ≡ length F → HasCommitted (λ db. Received db moments) old
          → view_lines l.counts.catalogue ≡ catalogue_of F → l.counts.filings ≡ length (register F)
          → Appends (g.O.Write.contents l.fn.output) (g.O.Write.contents l.output)
          (first_line l.form ++ flat_map (filing_records l.form l.wanted (kept F) moments)
          (take l.at (register F)));
    }
