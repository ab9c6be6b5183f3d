-- Filings with their facts.
use Rattle.std.specs.Prelude.{ℕ, List, Option}
use Rattle.xbrl_report.specs.FactRecord.{FactRecord}
use Rattle.xbrl_report.specs.ReportParts.{facts}
use Rattle.filing_model.specs.Listing.{replacing}
use Rattle.filing_model.specs.Register.{Filing, Kept, filings}
use Rattle.register_extracts.specs.Moments.{moment_of}

-- a filing's number, who filed it, under which key, which filing it replaces, which one replaces it, when it was
-- received, if that is known, in milliseconds since 1970-01-01T00:00:00Z, its report, and its facts
pub record FilingParts : Type 0 where
  pub number : ℕ
  pub filer : List ℕ
  pub key : List ℕ
  pub replaces : Option ℕ
  pub replaced_by : Option ℕ
  pub received : Option ℕ
  pub body : List ℕ
  pub facts : List FactRecord

-- a filing as it stands among these kept requests, each with its moment
abbrev pub whole : List Kept → List (Option ℕ) → Filing → FilingParts
whole ks moments f = record {
  number = f.number;
  filer = f.request.filer;
  key = f.request.key;
  replaces = f.request.target;
  replaced_by = replacing (filings ks) f.number;
  received = moment_of ks moments f.number;
  body = f.request.body;
  facts = facts f.request.body;
}
