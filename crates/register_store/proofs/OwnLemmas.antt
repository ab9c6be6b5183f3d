-- The filings of one filer among those of all, and how many facts each has.
use Rattle.std.proofs.Common.{◌≡◌, ℕ, Bool, true, false, List, [], ◌∷◌, length, filter, None, refl, ap, ⊎_elim}
use Rattle.std.specs.Prelude.{option_and_then, bytes_eq}
use Rattle.std.proofs.lemmas.Bool.{cases_Bool}
use Rattle.xbrl_report.specs.FactRecord.{fact_record}
use Rattle.xbrl_report.specs.Findings.{tree}
use Rattle.xbrl_report.specs.Tree.{entries_of, value_at}
use Rattle.xbrl_report.specs.Paths as path
use Rattle.xbrl_report.specs.ReportParts.{facts, fact_count}
use Rattle.filing_model.specs.Listing.{is_listed}
use Rattle.filing_model.specs.Register.{Filing, Kept, Outcome, filings}
use Rattle.filing_model.specs.Register.Outcome.{Registered, Refused}
use Rattle.filing_model.proofs.Lists.{length-map}
use Rattle.register_store.proofs.OwnRows.{is_filers}

pub as_many : (body : List ℕ) → length (facts body) ≡ fact_count body
as_many body = length-map fact_record (entries_of (option_and_then (value_at path.facts) (tree body)))

module _ (filer : List ℕ) where
  abbrev mine : Filing → Bool
  mine = is_listed filer None

  -- they are those of the filer's kept requests
  pub own_listed : (ks : List Kept) → filings (filter (is_filers filer) ks) ≡ filter mine (filings ks)
  unfolding filings
  own_listed [] = refl
  own_listed (k ∷ ks) = by_outcome k.outcome (own_listed ks)
    where
      by_outcome : (o : Outcome) → filings (filter (is_filers filer) ks) ≡ filter mine (filings ks)
          → filings (filter (is_filers filer) (record { request = k.request; outcome = o } ∷ ks))
          ≡ filter mine (filings (record { request = k.request; outcome = o } ∷ ks))
      by_outcome (Registered n) rest = ⊎_elim
          (λ (t : bytes_eq k.request.filer filer ≡ true). rw t
          (ap (λ l. record { number = n; request = k.request } ∷ l) rest))
          (λ (t : bytes_eq k.request.filer filer ≡ false). rw t rest)
          (cases_Bool (bytes_eq k.request.filer filer))
      by_outcome (Refused found) rest = ⊎_elim
          (λ (t : bytes_eq k.request.filer filer ≡ true). rw t rest)
          (λ (t : bytes_eq k.request.filer filer ≡ false). rw t rest)
          (cases_Bool (bytes_eq k.request.filer filer))
