-- The filings among kept requests, by number: the filer of each, and its line in the catalogue.
use Rattle.std.specs.Prelude.{◌≡◌, List, map, string_bytes}
use Rattle.filing_model.specs.Register.{Kept, filings}
use Rattle.register_rows.specs.Catalogue.{entries_among, view_lines}
use Rattle.register_rows.specs.declared.filed.Filed.{Filed}

-- these are the filers and the lines of the filings among these requests
pub record AreFiled (ks : List Kept) (filed : Filed) : Type 0 where
  pub filers_are : map (λ filer. string_bytes filer) filed.filers.items ≡ map (λ f. f.request.filer) (filings ks)
  pub lines_are : view_lines filed.catalogue ≡ entries_among ks
