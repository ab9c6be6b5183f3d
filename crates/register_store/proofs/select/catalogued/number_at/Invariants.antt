use Rattle.std.proofs.Common.{◌≡◌, ℕ, ◌-◌, ◌<◌, ◌≤◌, Some, length, List}
use Rattle.std.specs.Prelude.{slice_get}
use Rattle.filing_model.specs.Request.{Request}
use Rattle.register_rows.specs.Catalogue.{Entry, catalogue_of, view_lines}
use Rattle.register_store.proofs.select.catalogued.number_at.Given as goal

-- the filings on the one side are at lower places, and those on the other at higher ones
abbrev pub invariant-search : goal.invariant-search
invariant-search l = record {
  within : l.high ≤ length (view_lines l.catalogue);
  lower : (F : List Request) → view_lines l.catalogue ≡ catalogue_of F → (i : ℕ) (e : Entry) → i < l.low
      → slice_get (catalogue_of F) i ≡ Some e → e.seq < l.place;
  upper : (F : List Request) → view_lines l.catalogue ≡ catalogue_of F → (i : ℕ) (e : Entry) → l.high ≤ i
      → slice_get (catalogue_of F) i ≡ Some e → l.place < e.seq;
}

abbrev pub decreases-search : goal.decreases-search
decreases-search l = l.high - l.low
