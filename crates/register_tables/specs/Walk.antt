-- What a walk over a register's tables finds, one kept request after another.
use Rattle.std.specs.Prelude.{◌≡◌, ◌≤◌, ℕ, ◌+◌, ◌<◌, ◌⊎◌, false, suc, List, [], ◌∷◌, ◌++◌, length, filter, Option}
use Rattle.std.specs.Prelude.{Some, None, Bool, drop, unwrap_or, ◌==◌}
use Rattle.std.specs.List.{AllByRecursion, prefix_len}
use Rattle.sqlite.specs.Order.{Row, column}
use Rattle.sqlite.specs.Effect.{Database}
use Rattle.table_rows.specs.Picking.{rows_in, Picks, HasLeft, has_number}
use Rattle.table_rows.specs.Rows.{TableHas, counted_from}
use Rattle.filing_model.specs.Request.{Request, firsts}
use Rattle.filing_model.specs.Register.{Kept, Outcome, judged, kept, register}
use Rattle.filing_model.specs.Register.Outcome.{Registered, Refused}
use Rattle.register_rows.specs.declared.filed.Filed.{Filed}
use Rattle.register_tables.specs.declared.opening.walk.Totals.{Totals}
use Rattle.register_tables.specs.declared.opening.walk.Left.{Left}
use Rattle.register_tables.specs.Reads.{has_second, has_texts, HasEarly}
use Rattle.register_rows.specs.Catalogue.{catalogue_of, view_lines}
use Rattle.register_rows.specs.Columns.{begins_with, number_in, request_in}
use Rattle.register_rows.specs.Filed.{AreFiled}
use Rattle.register_rows.specs.Outcomes.{filings_by}
use Rattle.register_rows.specs.Register.{IsCompleted, kept_row, finding_rows, filing_rows, fact_rows, amends_rows}
use Rattle.register_rows.specs.Register.{amends_rows_by, joined_from}
use Rattle.register_rows.specs.Schema.{kept_table, finding_table, filing_table, fact_table}

-- ---- one kept request

-- the filing with this number has these facts and no others; of a refused request, which has none, no filing is asked
abbrev pub HasFactRows : Outcome → ℕ → List Row → Database → Type 0
HasFactRows (Registered _) number rows db = Picks fact_table (has_number number) rows db
HasFactRows (Refused _) number rows db = rows ≡ []

-- the rows beside `kept` are those of the kept request, and so many are left of each table
pub record Beyond (seq : ℕ) (k : Kept) (left tail : Left) (db : Database) : Type 0 where
  pub finding_is : Picks finding_table (has_number seq) (finding_rows seq k) db
  pub filing_is : Picks filing_table (has_second seq) (filing_rows seq k) db
  pub fact_is : HasFactRows k.outcome left.number (fact_rows seq k) db
  pub findings_left : left.findings ≡ tail.findings + length (finding_rows seq k)
  pub filings_left : left.filings ≡ tail.filings + length (filing_rows seq k)
  pub facts_left : left.facts ≡ tail.facts + length (fact_rows seq k)
  pub number_is : tail.number ≡ left.number + filings_by k.outcome

-- so it is, and this is left; or it is not
abbrev pub IsBeyond : ℕ → Kept → Left → Option Left → Database → Type 0
IsBeyond seq k left (Some tail) db = Beyond seq k left tail db
IsBeyond seq k left None db = (tail : Left) → Beyond seq k left tail db → ⊥

-- the same, and the kept request has this row
abbrev pub IsPast : ℕ → Row → Kept → Left → Option Left → Database → Type 0
IsPast seq row k left (Some tail) db = (row ≡ kept_row seq k) × Beyond seq k left tail db
IsPast seq row k left None db = row ≡ kept_row seq k → (tail : Left) → Beyond seq k left tail db → ⊥

-- the kept request at this place comes behind these, whose filings are held, and the next number is theirs
pub record IsBehind (before : List Request) (filed : Filed) (left : Left) (seq : ℕ) : Type 0 where
  pub filed_are : AreFiled (kept before) filed
  pub number_is : left.number ≡ suc (length (register before))
  pub place : seq ≡ suc (length (kept before))

-- the kept row is that of a request that may come next, which is to replace this filing, if any, and the rows beside
-- `kept` are its own
pub record IsNext (before : List Request) (seq : ℕ) (row : Row) (target : Option ℕ) (left tail : Left)
    (db : Database) : Type 0 where
  pub completed : IsCompleted (request_in target row)
  pub row_is : row ≡ kept_row seq (judged (kept before) (request_in target row))
  pub beyond : Beyond seq (judged (kept before) (request_in target row)) left tail db
  pub amends_is : left.amends.now ≡ amends_rows_by seq target ++ tail.amends.now
  pub ends : begins_with 0 seq tail.amends.now ≡ false

-- the request, judged after these, has its own row, no other row has its filer and key, and the rows beside `kept` are
-- its own
pub record Passes (before : List Request) (seq : ℕ) (left tail : Left) (db : Database) (request
    : Request) : Type 0 where
  pub completed : IsCompleted request
  pub kept_is : Picks kept_table (has_number seq) (kept_row seq (judged (kept before) request) ∷ []) db
  pub alone : length (filter (has_texts request.filer request.key) (rows_in db kept_table)) ≡ 1
  pub beyond : Beyond seq (judged (kept before) request) left tail db
  pub amends_is : left.amends.now ≡ amends_rows seq (judged (kept before) request) ++ tail.amends.now
  pub ends : begins_with 0 seq tail.amends.now ≡ false

-- no request passes
abbrev pub NonePasses : List Request → ℕ → Left → Database → Type 0
NonePasses before seq left db = (request : Request) (tail : Left) → Passes before seq left tail db request → ⊥

-- ---- all of them

-- the four tables have the rows of these requests, each once and in any order, and no others, and so has `amends` with
-- these rows
pub record AreAllOf (requests : List Request) (amends_are : List Row) (db : Database) : Type 0 where
  pub distinct : firsts requests ≡ requests
  pub completed : AllByRecursion IsCompleted requests
  pub kept_is : TableHas db kept_table (counted_from kept_row 1 (kept requests))
  pub finding_is : TableHas db finding_table (joined_from finding_rows 1 (kept requests))
  pub filing_is : TableHas db filing_table (joined_from filing_rows 1 (kept requests))
  pub fact_is : TableHas db fact_table (joined_from fact_rows 1 (kept requests))
  pub amends_is : amends_are ≡ joined_from amends_rows 1 (kept requests)

-- so many of all kept requests were walked past, and their rows are those of these requests, if `amends` has these rows
pub record Walked (amends_are : List Row) (total count : ℕ) (left : Left) (db : Database)
    (requests : List Request) : Type 0 where
  pub many : length requests ≡ count
  pub number_is : left.number ≡ suc (length (register requests))
  pub fewer : length (register requests) ≤ count
  pub distinct : firsts requests ≡ requests
  pub completed : AllByRecursion IsCompleted requests
  pub kept_left : ℕ
  pub in_all : kept_left + count ≡ total
  pub kept_is : HasLeft kept_table (counted_from kept_row 1 (kept requests)) kept_left db
  pub finding_is : HasLeft finding_table (joined_from finding_rows 1 (kept requests)) left.findings db
  pub filing_is : HasLeft filing_table (joined_from filing_rows 1 (kept requests)) left.filings db
  pub fact_is : HasLeft fact_table (joined_from fact_rows 1 (kept requests)) left.facts db
  pub amends_is : amends_are ≡ joined_from amends_rows 1 (kept requests) ++ left.amends.now
  -- Requests of which the tables have all rows begin with these.
  pub leads : (all : List Request) → AreAllOf all amends_are db
      → (later : List Request) × (all ≡ requests ++ later)

-- the tables have the rows of requests, of which so many are kept and registered, and this is their catalogue
pub record Amounts (counts : Totals) (amends_are : List Row) (db : Database) : Type 0 where
  pub requests : List Request
  pub are : AreAllOf requests amends_are db
  pub kept_is : counts.kept ≡ length requests
  pub filings_is : counts.filings ≡ length (register requests)
  pub catalogue_is : view_lines counts.catalogue ≡ catalogue_of requests

-- ---- which kept request is told

-- the row of `amends` is of no request: it says no place from 1 on
abbrev pub is_stray : Row → Bool
is_stray row = unwrap_or (number_in (column row 0)) 0 == 0

-- the rows of `amends` that are of a request: those from the first place on, where they come in their order
abbrev pub of_requests : List Row → List Row
of_requests amends_are = drop (prefix_len is_stray amends_are) amends_are

-- the first that is not sound: those before it were walked past, and then no request passes
pub record IsFirstUnsound (amends_are : List Row) (row : ℕ) (db : Database) : Type 0 where
  pub total : ℕ
  pub before : List Request
  pub left : Left
  pub place : row ≡ suc (length before)
  pub within : length before < total
  pub walked : Walked amends_are total (length before) left db before
  pub unsound : NonePasses before row left db

-- all kept requests were walked past
pub record AreAllPassed (amends_are : List Row) (db : Database) : Type 0 where
  pub requests : List Request
  pub left : Left
  pub walked : Walked amends_are (length requests) (length requests) left db requests

-- The tables have the rows of no requests, and this is the row to report: the first, if a kept row lies before it; or
-- else the first that is not sound, or 0 if each is sound, and rows are left over. Of `amends` only the rows that are
-- of a request are walked over.
pub record IsUnsound (amends_are : List Row) (row : ℕ) (db : Database) : Type 0 where
  pub none : (requests : List Request) → AreAllOf requests amends_are db → ⊥
  pub told : ((row ≡ 1) × HasEarly db)
      ⊎ ((HasEarly db → ⊥)
      × (((row ≡ 0) × AreAllPassed (of_requests amends_are) db) ⊎ IsFirstUnsound (of_requests amends_are) row db))
