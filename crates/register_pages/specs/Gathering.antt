-- The filers of a register, gathered from one request after another.
use Rattle.std.specs.Prelude.{◌≡◌, ◌↔◌, ℕ, List, length, map, Contains, string_bytes}
use Rattle.std.specs.BTreeMap.{keys}
use Rattle.filing_model.specs.Request.{Request}
use Rattle.filing_model.specs.Register.{Kept, kept, register}
use Rattle.register_rows.specs.Catalogue.{catalogue_of, view_lines}
use Rattle.register_tables.specs.declared.opening.Counts.{Counts}
use Rattle.register_pages.specs.declared.filers.Filers.{Filers}

-- these are the counts and the catalogue of a register of these requests
pub record AreCountsOf (requests : List Request) (counts : Counts) : Type 0 where
  pub kept_is : counts.kept ≡ length (kept requests)
  pub filings_is : counts.filings ≡ length (register requests)
  pub catalogue_is : view_lines counts.catalogue ≡ catalogue_of requests

-- the filer of each kept request
abbrev pub senders_of : List Kept → List (List ℕ)
senders_of ks = map (λ k. k.request.filer) ks

-- the codes of the filers that were gathered, in the order of their pages
abbrev pub codes_of : Filers → List (List ℕ)
codes_of filers = map string_bytes (keys filers.list)

-- both lists have the same elements, each any number of times
pub record HaveSame {X : Type 0} (xs ys : List X) : Type 0 where
  pub each : (x : X) → Contains xs x ↔ Contains ys x
