-- Filings by their numbers.
use Rattle.std.specs.Prelude.{ℕ, ◌==◌, List, Option, option_map, find}
use Rattle.xbrl_report.specs.FactRecord.{FactRecord}
use Rattle.xbrl_report.specs.ReportParts.{facts}
use Rattle.filing_model.specs.Register.{Filing}

-- the filing of this number
abbrev pub filing_numbered : ℕ → List Filing → Option Filing
filing_numbered number filings = find (λ f. f.number == number) filings

-- the facts of the filing of this number
abbrev pub facts_numbered : ℕ → List Filing → Option (List FactRecord)
facts_numbered number filings = option_map (λ f. facts f.request.body) (filing_numbered number filings)
