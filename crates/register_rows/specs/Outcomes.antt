-- What becomes of a report that was judged.
use Rattle.std.specs.Prelude.{ℕ}
use Rattle.filing_model.specs.Request.{Request}
use Rattle.filing_model.specs.Register.{Outcome, Kept}
use Rattle.xbrl_report.specs.declared.judging.Judged.{Judged}
use Rattle.xbrl_report.specs.declared.judging.Judged.TheVariants.{Valid, Refused}

-- what becomes of a report that was judged so, if the next filing has this number
abbrev pub outcome_of : ℕ → Judged → Outcome
outcome_of number (Valid report) = Outcome.Registered number
outcome_of number (Refused findings) = Outcome.Refused findings

-- how many filings an outcome is
abbrev pub filings_by : Outcome → ℕ
filings_by (Outcome.Registered number) = 1
filings_by (Outcome.Refused findings) = 0

-- the request with this outcome
abbrev pub request_outcome : Request → Outcome → Kept
request_outcome r outcome = record { request = r; outcome = outcome }
