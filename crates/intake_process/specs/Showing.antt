-- The facts of a filing, and the bytes of kept reports; own rules.
use Rattle.std.specs.Prelude.{◌≡◌, ℕ, Bool, true, false, if◌then◌else◌, List, [], ◌++◌, flat_map, Option, Some, None}
use Rattle.std.specs.Prelude.{option_map}
use Rattle.std.specs.Borrow.{Bor}
use Rattle.key_string.specs.Key.{is_key}
use Rattle.xbrl_report.specs.FactRecord.{FactRecord}
use Rattle.filing_model.specs.Answer.{kept_for}
use Rattle.filing_model.specs.Register.{Filing, Kept, kept, register}
use Rattle.filing_model.specs.Views.{the_request}
use Rattle.intake_core.specs.FactLine.{fact_line}
use Rattle.register_store.specs.Numbered.{facts_numbered, filing_numbered}
use Rattle.register_extracts.specs.declared.fault.Why.{Why}
use Rattle.register_extracts.specs.declared.fault.Why.TheVariants as why
use Rattle.register_extracts.specs.Faults.{IsPrintingWhy}
use Rattle.register_extracts.specs.Moments.{moment_of}
use Rattle.terminal_text.specs.OneLine.{one_line}
use Rattle.intake_process.specs.Listing.{line, moment_line}
use Rattle.intake_process.specs.Meaning.{Meaning, printing}

-- A line for each fact. What is hidden in it are characters of strings, and the escapes are JSON's, so a reader of JSON
-- finds the same fact.
abbrev pub fact_lines : List FactRecord → List ℕ
fact_lines facts = flat_map (λ fact. line (one_line (fact_line fact))) facts

-- what is printed of the filing of this number, which has these facts: when it was received, if that is asked for, and
-- the facts
abbrev pub shown_lines : Bool → ℕ → Option ℕ → List FactRecord → List ℕ
shown_lines false number received facts = fact_lines facts
shown_lines true number received facts = moment_line number received ++ fact_lines facts

-- the bytes of the report that is the filing of this number
abbrev pub filed_body : ℕ → List Filing → Option (List ℕ)
filed_body number filings = option_map (λ f. f.request.body) (filing_numbered number filings)

-- the bytes of the report of the kept request, which is the first, of this filer and key; none if the text is no key
abbrev pub sent_body : List ℕ → List ℕ → List Kept → Option (List ℕ)
sent_body filer key ks =
    if is_key key then option_map (λ k. k.request.body) (kept_for ks (the_request filer key None [])) else None

-- there is no filing of this number
abbrev pub IsUnshown : ℕ → Why → Type 0
IsUnshown number (why.NoFiling missing) = missing ≡ number
IsUnshown number other = IsPrintingWhy other

abbrev pub IsUnsent : Why → Type 0
IsUnsent why.NoRequest = Unit {0}
IsUnsent other = IsPrintingWhy other

-- the errands to show the facts of a filing, the report of a filing, and the first report of a filer under a key
abbrev pub showing : ℕ → Bool → Meaning
showing number dated =
    printing (λ requests moments. option_map (shown_lines dated number (moment_of (kept requests) moments number))
    (facts_numbered number (register requests))) (IsUnshown number)

abbrev pub filing_body : ℕ → Meaning
filing_body number = printing (λ requests _. filed_body number (register requests)) (IsUnshown number)

abbrev pub request_body : Bor (List ℕ) → Bor (List ℕ) → Meaning
request_body filer key =
    record (printing (λ requests _. sent_body filer.now key.now (kept requests)) IsUnsent) { filer = Some filer.now }
