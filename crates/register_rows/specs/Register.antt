-- The rows that stand for a list of completed requests.
use Rattle.std.specs.Prelude.{◌≡◌, ◌≤◌, ℕ, ◌+◌, pos, true, List, [], ◌∷◌, ◌++◌, length, codes, Option, Some, None}
use Rattle.std.specs.List.{AllByRecursion}
use Rattle.sqlite.specs.declared.types.Value.TheVariants.{Int, Text, Blob}
use Rattle.sqlite.specs.Order.{Row}
use Rattle.sqlite.specs.Values.{or_null}
use Rattle.sqlite.specs.Effect.{Database}
use Rattle.key_string.specs.Filer.{is_filer}
use Rattle.key_string.specs.Key.{IsKey}
use Rattle.http_messages.specs.Head.{max_body_len}
use Rattle.http_messages.specs.Posting.{IsTarget}
use Rattle.xbrl_report.specs.CodeNumber.{number_of as code_number}
use Rattle.xbrl_report.specs.FactRecord.{FactRecord}
use Rattle.xbrl_report.specs.Pair.{Pair}
use Rattle.xbrl_report.specs.ReportParts.{facts}
use Rattle.filing_model.specs.Request.{Request, firsts}
use Rattle.filing_model.specs.Register.{Outcome, Kept, kept}
use Rattle.filing_model.specs.Register.Outcome.{Registered, Refused}
use Rattle.table_rows.specs.Rows.{TableHas, counted_from}
use Rattle.register_rows.specs.Received.{Received}
use Rattle.register_rows.specs.Schema.{IsDeclared, meta_table, kept_table, finding_table, filing_table, fact_table}
use Rattle.register_rows.specs.Schema.{migrated_table, amends_table}

-- ---- what a kept request puts into each table, as SELECT * shows it; `seq` is its place among the kept ones, from 1

-- the one row of `intake_meta`: a register, in this form
abbrev pub form_row : ℕ → Row
form_row form = Int (pos 1) ∷ Text (codes "register") ∷ Int (pos form) ∷ []

-- the one row of `intake_meta`: a register in the form of these tables
abbrev pub meta_row : Row
meta_row = form_row 5

-- the one row of `migrated`: the first `old_style` kept requests keep the answers of an earlier version
abbrev pub migrated_row : ℕ → Row
migrated_row old_style = Int (pos 1) ∷ Int (pos old_style) ∷ []

-- the number of a registered request
abbrev pub number_of : Outcome → Option ℕ
number_of (Registered number) = Some number
number_of (Refused findings) = None

abbrev pub kept_row : ℕ → Kept → Row
kept_row seq k =
    Int (pos seq) ∷ Text k.request.filer ∷ Text k.request.key ∷ Blob k.request.body
    ∷ or_null (λ n. Int (pos n)) (number_of k.outcome) ∷ []

abbrev pub finding_row : ℕ → ℕ → Pair → Row
finding_row seq at f = Int (pos seq) ∷ Int (pos at) ∷ Int (pos (code_number f.code)) ∷ Blob f.place ∷ []

abbrev pub findings_of : Outcome → List Pair
findings_of (Registered number) = []
findings_of (Refused findings) = findings

-- the findings of a refused request, in order
abbrev pub finding_rows : ℕ → Kept → List Row
finding_rows seq k = counted_from (finding_row seq) 1 (findings_of k.outcome)

abbrev pub filing_rows_by : ℕ → Outcome → List Row
filing_rows_by seq (Registered number) = (Int (pos number) ∷ Int (pos seq) ∷ []) ∷ []
filing_rows_by seq (Refused findings) = []

-- the filing that a registered request is
abbrev pub filing_rows : ℕ → Kept → List Row
filing_rows seq k = filing_rows_by seq k.outcome

abbrev pub fact_row : ℕ → ℕ → FactRecord → Row
fact_row number at f =
    Int (pos number) ∷ Int (pos at) ∷ Blob f.id ∷ Blob f.concept ∷ Blob f.dimensions ∷ or_null Blob f.value
    ∷ or_null Int f.decimals ∷ []

abbrev pub fact_rows_by : List FactRecord → Outcome → List Row
fact_rows_by all (Registered number) = counted_from (fact_row number) 1 all
fact_rows_by all (Refused findings) = []

-- the facts of a registered request, in order
abbrev pub fact_rows : ℕ → Kept → List Row
fact_rows seq k = fact_rows_by (facts k.request.body) k.outcome

abbrev pub amends_rows_by : ℕ → Option ℕ → List Row
amends_rows_by seq None = []
amends_rows_by seq (Some target) = (Int (pos seq) ∷ Int (pos target) ∷ []) ∷ []

-- the filing that a kept request is to replace, whether it was registered or refused
abbrev pub amends_rows : ℕ → Kept → List Row
amends_rows seq k = amends_rows_by seq k.request.target

-- the rows of several, one after another
abbrev pub joined_from : (ℕ → Kept → List Row) → ℕ → List Kept → List Row
joined_from rows seq [] = []
joined_from rows seq (k ∷ ks) = rows seq k ++ joined_from rows (seq + 1) ks

-- ---- the tables

-- the tables of a register beside `received` have these rows, each once and in any order, and no others
pub record HasRows (db : Database) (old_style : ℕ)
    (kept_are finding_are filing_are fact_are amends_are : List Row) : Type 0 where
  pub declared : IsDeclared db.schema
  pub meta_is : TableHas db meta_table (meta_row ∷ [])
  pub kept_is : TableHas db kept_table kept_are
  pub finding_is : TableHas db finding_table finding_are
  pub filing_is : TableHas db filing_table filing_are
  pub fact_is : TableHas db fact_table fact_are
  pub migrated_is : TableHas db migrated_table (migrated_row old_style ∷ [])
  pub amends_is : TableHas db amends_table amends_are

-- a request as filers may complete one
pub record IsCompleted (r : Request) : Type 0 where
  pub filer : is_filer r.filer ≡ true
  pub key : IsKey r.key
  pub target : IsTarget r.target
  pub body : length r.body ≤ max_body_len

-- The rows stand for these requests, each the first of its filer and key, in order and with its outcome. The first
-- `old_style` of them were kept before there were problem details. There is a list of the moments at which they came,
-- with a place for each; which moments they are is said by `Received` alone.
pub record StandsFor (db : Database) (old_style : ℕ) (F : List Request) : Type 0 where
  pub distinct : firsts F ≡ F
  pub completed : AllByRecursion IsCompleted F
  pub within : old_style ≤ length F
  pub moments : List (Option ℕ)
  pub one_each : length moments ≡ length F
  pub received : Received db moments
  pub rows : HasRows db old_style (counted_from kept_row 1 (kept F)) (joined_from finding_rows 1 (kept F))
      (joined_from filing_rows 1 (kept F)) (joined_from fact_rows 1 (kept F))
      (joined_from amends_rows 1 (kept F))
