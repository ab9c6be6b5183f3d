use Rattle.std.proofs.Common.{◌∙◌, sym}
use Rattle.event_script.proofs.Digits.{filing_number-fits}
use Rattle.event_script.proofs.put.read_amendment.Goals as goal

pub read_report-requires : goal.read_report-requires
read_report-requires c =
    filing_number-fits c.in-Some.number.now c.in-Some-read_filing_number.number (sym c.read_filing_number.ensures
    ∙ c.in-Some-read_filing_number.is)
