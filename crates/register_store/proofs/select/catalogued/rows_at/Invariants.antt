use Rattle.std.proofs.Common.{◌≡◌, ℕ, List, map, take}
use Rattle.std.specs.Prelude.{filter}
use Rattle.filing_model.specs.Listing.{listing}
use Rattle.filing_model.specs.Request.{Request}
use Rattle.filing_model.specs.Register.{filings, kept, register}
use Rattle.filing_model.specs.Views.{view_row}
use Rattle.table_rows.specs.Rows.{counted_from}
use Rattle.register_tables.specs.Reads.{by_first}
use Rattle.register_rows.specs.Catalogue.{catalogue_of, view_lines}
use Rattle.register_rows.specs.Register.{kept_row}
use Rattle.register_store.specs.Reads.{has_filer}
use Rattle.register_store.proofs.OwnRows.{is_filers}
use Rattle.register_store.proofs.select.catalogued.rows_at.Given as goal

abbrev pub invariant-loop-place : goal.invariant-loop-place
invariant-loop-place l = (F : List Request) (filer : List ℕ) → view_lines l.catalogue ≡ catalogue_of F
    → l.places ≡ map by_first (filter (has_filer filer) (counted_from kept_row 1 (kept F)))
    → map view_row l.rows.items ≡ map (listing (register F))
    (filings (take l.place-index (filter (is_filers filer) (kept F))))
