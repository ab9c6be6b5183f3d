use Rattle.std.proofs.Common.{◌≡◌, ◌+◌, ◌-◌, ◌++◌, List, length, map, suc, take}
use Rattle.filing_model.specs.Request.{Request}
use Rattle.filing_model.specs.Register.{kept}
use Rattle.register_rows.specs.Catalogue.{HasRoom, catalogue_of, view_lines}
use Rattle.register_store.specs.NewRows.{AreNew, request_of}
use Rattle.register_store.proofs.catalogue.note_all.Given as goal

-- the first ones are noted, and there is room for the others
abbrev pub invariant-each : goal.invariant-each
invariant-each l =
    let first = take l.row-index l.rows in record {
      at : l.place ≡ l.seq + l.row-index;
      room : HasRoom (length l.rows - l.row-index) l.catalogue;
      lines : (F : List Request) → view_lines l.fn.catalogue ≡ catalogue_of F → l.seq ≡ suc (length (kept F))
          → AreNew F first → view_lines l.catalogue ≡ catalogue_of (F ++ map request_of first);
    }
