-- Which pages a register has, and which reports beside them, by the names of their files; own rules.
use Rattle.std.specs.Prelude.{◌≡◌, ◌↔◌, ◌&&◌, ◌==◌, ◌+◌, ◌-◌, ◌/◌, ℕ, zero, suc, Bool, not, List, [], ◌∷◌, ◌++◌, map}
use Rattle.std.specs.Prelude.{filter, flat_map, count_by, codes, length, bytes_eq, nat_le, if◌then◌else◌, Contains}
use Rattle.std.specs.Prelude.{Option, Some, None, is_some}
use Rattle.std.specs.Ordering.{nat_cmp}
use Rattle.std.specs.Cmp.Lexicographic.{slice_cmp}
use Rattle.std.specs.List.Sorted.{IsStrictlySortedBy}
use Rattle.std.specs.Fmt.{decimal}
use Rattle.xbrl_report.specs.ReportParts.{facts}
use Rattle.filing_model.specs.Request.{Request}
use Rattle.filing_model.specs.Register.{Filing, Kept, kept, register}
use Rattle.register_rows.specs.Register.{number_of}
use Rattle.register_pages.specs.declared.fault.Missed.{Missed}

-- what is written into a folder: a page of this name, or a report under this name, byte for byte
pub data File : Type 0 where
  Page : List ℕ → File
  Report : List ℕ → List ℕ → File

-- these are written into a folder behind those that are known to be written
abbrev pub Adds : Option (List File) → Option (List File) → List File → Type 0
Adds None after files = Unit {0}
Adds (Some before) None files = ⊥
Adds (Some before) (Some after) files = after ≡ before ++ files

-- If no file was missed at the end, none was before, and these are written.
abbrev pub Writes : Option Missed → Option Missed → Option (List File) → Option (List File) → List File → Type 0
Writes missed missed' old new files = missed' ≡ None → (missed ≡ None) × Adds old new files

-- ---- names

-- a letter of a filer's code in the name of a file: a tilde stands before each small one
abbrev pub file_letter : ℕ → List ℕ
file_letter b = if nat_le 97 b && nat_le b 122 then 126 ∷ b ∷ [] else b ∷ []

-- A filer's code in the name of a file. The names of two filers differ on a disk too that does not tell small letters
-- from capital ones.
abbrev pub file_code : List ℕ → List ℕ
file_code filer = flat_map file_letter filer

-- which page of several it is: the first one has no number
abbrev pub page_number : ℕ → List ℕ
page_number number = if nat_le number 1 then [] else codes "~" ++ decimal number

-- the page of this number of those of a filing, of a filer's filings, and of a filer's refused reports
abbrev pub filing_page : ℕ → ℕ → List ℕ
filing_page filing number = codes "filing-" ++ decimal filing ++ page_number number ++ codes ".html"

abbrev pub filer_page : List ℕ → ℕ → List ℕ
filer_page filer number = codes "filer-" ++ file_code filer ++ page_number number ++ codes ".html"

abbrev pub refused_page : List ℕ → ℕ → List ℕ
refused_page filer number = codes "refused-" ++ file_code filer ++ page_number number ++ codes ".html"

-- the report of a filing
abbrev pub report_file : ℕ → List ℕ
report_file filing = codes "filing-" ++ decimal filing ++ codes ".json"

-- the report of a refused request, by the place of that among the kept ones
abbrev pub request_file : ℕ → List ℕ
request_file place = codes "request-" ++ decimal place ++ codes ".json"

-- ---- how many there are

-- so many pages, from the first on
abbrev pub numbered : (ℕ → List ℕ) → ℕ → List File
numbered page zero = []
numbered page (suc n) = numbered page n ++ Page (page (suc n)) ∷ []

-- How many pages so many rows take, at most `most` on each. There is one if there are no rows.
abbrev pub pages_for : ℕ → ℕ → ℕ
pages_for most rows = suc ((rows - 1) / most)

-- kept requests, each behind its place, if the first of them is at this one
abbrev pub placed : ℕ → List Kept → List (ℕ × Kept)
placed place [] = []
placed place (k ∷ ks) = (place, k) ∷ placed (place + 1) ks

-- the kept requests of a filer, each behind its place
abbrev pub sent_by : List ℕ → List Kept → List (ℕ × Kept)
sent_by filer ks = filter (λ p. bytes_eq p.1.request.filer filer) (placed 1 ks)

abbrev pub is_filed : ℕ × Kept → Bool
is_filed p = is_some (number_of p.1.outcome)

abbrev pub is_refused : ℕ × Kept → Bool
is_refused p = not (is_filed p)

-- the files of a filing: its pages, with at most 1,000 facts on each, and its report
abbrev pub files_of_filing : Filing → List File
files_of_filing f =
    numbered (filing_page f.number) (pages_for 1000 (length (facts f.request.body)))
    ++ Report (report_file f.number) f.request.body ∷ []

abbrev pub filing_files : List Filing → List File
filing_files filings = flat_map files_of_filing filings

-- the pages of a filer's refused reports, if there are some: at most 50 reports on each
abbrev pub refused_pages : List ℕ → ℕ → List File
refused_pages filer reports = if reports == 0 then [] else numbered (refused_page filer) (pages_for 50 reports)

-- the report of a refused request
abbrev pub refused_report : ℕ × Kept → List File
refused_report p = Report (request_file p.0) p.1.request.body ∷ []

-- what is written of a filer's refused requests: their pages, and the report of each
abbrev pub refused_files : List ℕ → List (ℕ × Kept) → List File
refused_files filer refused = refused_pages filer (length refused) ++ flat_map refused_report refused

-- the files of a filer: the pages of its filings, at most 1,000 on each, and what is written of its refused requests
abbrev pub files_of_filer : List Kept → List ℕ → List File
files_of_filer ks filer =
    numbered (filer_page filer) (pages_for 1000 (count_by is_filed (sent_by filer ks)))
    ++ refused_files filer (filter is_refused (sent_by filer ks))

-- the files of each filer, the page of the findings, and at last the one of all filers
abbrev pub other_files : List Kept → List (List ℕ) → List File
other_files ks filers =
    flat_map (files_of_filer ks) filers ++ Page (codes "findings.html") ∷ Page (codes "index.html") ∷ []

-- The codes of the filers of the kept requests, whether they were registered or refused: each once, in the order of
-- their bytes.
pub record AreFilers (requests : List Request) (filers : List (List ℕ)) : Type 0 where
  pub ascend : IsStrictlySortedBy (slice_cmp nat_cmp) filers
  pub each : (filer : List ℕ) → Contains filers filer ↔ Contains (map (λ k. k.request.filer) (kept requests)) filer

-- the files of a register of these requests are written, in this order: of each filing, of each filer, and two more
abbrev pub WritesSite : List Request → Option (List File) → Option (List File) → Type 0
WritesSite requests old new =
    (filers : List (List ℕ)) × AreFilers requests filers
    × Adds old new (filing_files (register requests) ++ other_files (kept requests) filers)
