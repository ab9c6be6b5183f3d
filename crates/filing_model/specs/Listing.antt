-- The filings of a filer, as they are listed.
use Rattle.std.specs.Prelude.{ℕ, Bool, List, map, filter, find, bytes_eq, Option, Some, None, option_map}
use Rattle.xbrl_report.specs.ReportParts.{fact_count}
use Rattle.filing_model.specs.Register.{Filing, is_amendment_of, is_filing_of}

-- a filing's number, how many facts it has, which filing replaces it, and which one it replaces
pub record Listing : Type 0 where
  pub number : ℕ
  pub facts : ℕ
  pub replaced_by : Option ℕ
  pub replaces : Option ℕ

-- the number of the filing that replaces this one
abbrev pub replacing : List Filing → ℕ → Option ℕ
replacing filings n = option_map (λ f. f.number) (find (is_amendment_of n) filings)

-- a filing as it is listed among these
abbrev pub listing : List Filing → Filing → Listing
listing filings f =
    record {
      number = f.number;
      facts = fact_count f.request.body;
      replaced_by = replacing filings f.number;
      replaces =
          f.request.target;
    }

-- every filing of the filer, or the one of this number alone
abbrev pub is_listed : List ℕ → Option ℕ → Filing → Bool
is_listed filer None f = bytes_eq f.request.filer filer
is_listed filer (Some n) f = is_filing_of filer n f

-- these of the filer's filings, in order
abbrev pub listings : List ℕ → Option ℕ → List Filing → List Listing
listings filer number filings = map (listing filings) (filter (is_listed filer number) filings)
