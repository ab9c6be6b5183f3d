-- The filings of a filer, and when each was received, byte for byte; own rules.
use Rattle.std.specs.Prelude.{ℕ, Bool, true, false, List, ◌++◌, flat_map, codes, Option, Some, None}
use Rattle.std.specs.Borrow.{Bor}
use Rattle.std.specs.Fmt.{decimal}
use Rattle.filing_model.specs.Listing.{Listing, listings}
use Rattle.filing_model.specs.Register.{Filing, Kept, kept, register}
use Rattle.filing_model.specs.Reply.{list_reply}
use Rattle.register_extracts.specs.declared.fault.Why.{Why}
use Rattle.register_extracts.specs.declared.fault.Why.TheVariants as why
use Rattle.register_extracts.specs.Faults.{IsPrintingWhy}
use Rattle.register_extracts.specs.Moments.{moment_of}
use Rattle.register_extracts.specs.Text.{moment_text}
use Rattle.intake_process.specs.Meaning.{IsUnprinted, Meaning, printing}

-- a text, and the end of its line
abbrev pub line : List ℕ → List ℕ
line text = text ++ codes "\n"

-- the filings of the filer among these, as the reply to a GET lists them
abbrev pub list_line : List ℕ → List Filing → List ℕ
list_line filer filings = line (list_reply (listings filer None filings)).content

-- the line that says when the filing of this number was received, if that is known
unfoldable pub moment_line : ℕ → Option ℕ → List ℕ
moment_line number None = codes "{\"number\":" ++ decimal number ++ codes ",\"received\":null}\n"
moment_line number (Some moment) =
    codes "{\"number\":" ++ decimal number ++ codes ",\"received\":\"" ++ moment_text moment ++ codes "\"}\n"

-- such a line for each of these filings, among these kept requests, each with its moment
abbrev pub moment_lines : List Kept → List (Option ℕ) → List Listing → List ℕ
moment_lines ks moments rows = flat_map (λ row. moment_line row.number (moment_of ks moments row.number)) rows

abbrev pub IsUnlisted : Why → Type 0
IsUnlisted (why.List fault) = Unit {0}
IsUnlisted other = IsUnprinted other

-- the errand to show the filings of a filer, or when each was received
abbrev pub listing : Bor (List ℕ) → Bool → Meaning
listing filer false =
    record (printing (λ requests _. Some (list_line filer.now (register requests))) IsUnlisted) {
      filer = Some filer.now;
    }
listing filer true =
    record (printing (λ requests moments.
    Some (moment_lines (kept requests) moments (listings filer.now None (register requests)))) IsPrintingWhy) {
      filer = Some filer.now;
    }
