-- What is written out of a register: its facts, its digest, and its pages.
use Rattle.std.specs.Prelude.{ℕ, true, List, [], ◌++◌, codes, Option, Some, option_map}
use Rattle.std.specs.Fmt.{decimal}
use Rattle.hex.specs.Hex.{encode_lower}
use Rattle.filing_model.specs.Register.{kept}
use Rattle.register_extracts.specs.declared.facts.record.FactForm.{FactForm}
use Rattle.register_extracts.specs.declared.fault.Why.{Why}
use Rattle.register_extracts.specs.declared.fault.Why.TheVariants as why
use Rattle.register_extracts.specs.declared.records.Wanted.{Wanted}
use Rattle.register_extracts.specs.Faults.{IsPrintingWhy}
use Rattle.register_extracts.specs.Records.{export_begun, export_text}
use Rattle.register_extracts.specs.Registers.{digested}
use Rattle.register_extracts.specs.Views.{Digested}
use Rattle.register_pages.specs.Faults.{IsWritingWhy}
use Rattle.intake_process.specs.Meaning.{Meaning, printing}

-- the line of a digest: how many requests it is of, a space, and its bytes in hexadecimal digits
abbrev pub digest_line : Digested → List ℕ
digest_line d = decimal d.count ++ codes " " ++ encode_lower d.bytes ++ codes "\n"

-- fewer requests are kept than the digest is asked of
abbrev pub IsUndigested : Why → Type 0
IsUndigested (why.TooFew kept) = Unit {0}
IsUndigested other = IsPrintingWhy other

-- the errands to write out the facts of filings, to show the digest of the first requests, and to write pages
abbrev pub exporting : FactForm → Wanted → Meaning
exporting form wanted =
    record (printing (λ requests moments. Some (export_text form wanted (kept requests) moments)) IsPrintingWhy) {
      begun = Some (λ many requests moments. export_begun many form wanted (kept requests) moments);
      filer = option_map (λ filer. filer.now) wanted.filer;
    }

abbrev pub digesting : Option ℕ → Meaning
digesting until =
    printing (λ requests moments. option_map digest_line (digested until requests moments)) IsUndigested

abbrev pub paging : Meaning
paging = record (printing (λ _ _. Some []) IsWritingWhy) { fills = true }
