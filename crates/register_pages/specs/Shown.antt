-- What a page shows of the register, of a moment, and of a refused report, in HTML (own rule).
use Rattle.std.specs.Prelude.{◌≡◌, ◌-◌, ℕ, zero, suc, List, [], ◌∷◌, ◌++◌, codes, min, nat_le, if◌then◌else◌}
use Rattle.std.specs.Prelude.{Option, Some, None}
use Rattle.std.specs.Fmt.{decimal}
use Rattle.register_pages.specs.Reading.{AddsText}
use Rattle.register_pages.specs.Short.{shortened}
use Rattle.register_pages.specs.Visible.{visible}
use Rattle.hex.specs.Hex.{encode_lower}
use Rattle.register_extracts.specs.Text.{moment_text}
use Rattle.register_pages.specs.Pages.{request_file}

-- a moment, or that it is not known
abbrev pub shown_moment : Option ℕ → List ℕ
shown_moment None = codes "unknown"
shown_moment (Some moment) = moment_text moment

-- something is added
abbrev pub Grows : List ℕ → List ℕ → Type 0
Grows old new = (more : List ℕ) × (new ≡ old ++ more)

-- a page has these rows
abbrev pub Holds : List ℕ → List ℕ → Type 0
Holds rows page = (before behind : List ℕ) × (page ≡ (before ++ rows) ++ behind)

-- A finding is added in a paragraph: what is said of it, and then where it is, each shortened.
abbrev pub AddsLine : List ℕ → List ℕ → Type 0
AddsLine old new =
    (words place said between end : List ℕ) × AddsText (visible (shortened words)) (old ++ codes "<p>") said
    × Grows said between × AddsText (visible (shortened place)) between end × (new ≡ end ++ codes "</small></p>")

-- so many lines are added
abbrev pub AddsLines : ℕ → List ℕ → List ℕ → Type 0
AddsLines zero old new = new ≡ old
AddsLines (suc n) old new = (mid : List ℕ) × AddsLines n old mid × AddsLine mid new

-- what is said of the findings that are not shown, if there are so many in all
abbrev pub others : ℕ → List ℕ
others all =
    if nat_le all 20 then []
    else codes "and " ++ decimal (all - 20) ++ codes " more: <code>intake lint</code> of the report prints all"

-- A cell is added for so many findings: a line for each of the first 20, and how many more there are.
abbrev pub AddsFindings : ℕ → List ℕ → List ℕ → Type 0
AddsFindings all old new =
    (mid : List ℕ) × AddsLines (min 20 all) (old ++ codes "<td>") mid × (new ≡ mid ++ others all ++ codes "</td>")

-- the cell of the report of the refused request at this place, which has so many bytes
abbrev pub report_cell : ℕ → ℕ → List ℕ
report_cell place size =
    codes "<td class=\"number\"><a href=\"" ++ request_file place ++ codes "\">" ++ decimal size ++ codes "</a></td>"

-- A row is added for the refused request at this place: its report has a link, and each of so many findings is shown or
-- counted.
abbrev pub AddsRefused : ℕ → List ℕ → List ℕ → Type 0
AddsRefused place old new =
    (size findings : ℕ) × (front cell : List ℕ) × Grows old front
    × AddsFindings findings (front ++ report_cell place size) cell × Grows cell new

-- a row is added for each of the refused requests at these places
abbrev pub AddsRows : List ℕ → List ℕ → List ℕ → Type 0
AddsRows [] old new = new ≡ old
AddsRows (place ∷ places) old new = (mid : List ℕ) × AddsRefused place old mid × AddsRows places mid new

-- the line of a digest of so many requests, without its end, stands in this
abbrev pub TellsDigest : ℕ → List ℕ → List ℕ → Type 0
TellsDigest count digest about =
    (before behind : List ℕ) × (about ≡ (((before ++ decimal count) ++ codes " ") ++ encode_lower digest) ++ behind)
