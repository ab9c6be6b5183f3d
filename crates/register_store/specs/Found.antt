-- What the look-ups of a request's rows find.
use Rattle.std.specs.Prelude.{◌≡◌, ◌⊎◌, ◌&&◌, ◌+◌, ℕ, ℤ, pos, Bool, true, false, nat_eq, find, take, unwrap_or}
use Rattle.std.specs.Prelude.{option_map, ◌≢◌, List, [], ◌∷◌, Option, None, Some, Result, IfOk, IfSome}
use Rattle.sqlite.specs.declared.types.Value.{Value}
use Rattle.sqlite.specs.declared.types.Value.TheVariants.{Int, Blob}
use Rattle.sqlite.specs.Order.{Row, column}
use Rattle.sqlite.specs.Store.{Ghosts}
use Rattle.sqlite.specs.Held.{Held, state}
use Rattle.sqlite.specs.State.{HasCleanDisk}
use Rattle.sqlite.specs.Ops.{binary, is_true}
use Rattle.sqlite.specs.Values.{or_null}
use Rattle.sqlite_sql.specs.declared.ops.BinaryOp.TheVariants.{Compare}
use Rattle.sqlite_sql.specs.declared.ops.CompareOp.TheVariants.{Eq}
use Rattle.sqlite.specs.Collation.TheVariants.{Binary}
use Rattle.xbrl_report.specs.Pair.{Pair}
use Rattle.xbrl_report.specs.declared.code.Code.{Code}
use Rattle.xbrl_report.specs.declared.code.Code.TheVariants.{NotJson}
use Rattle.xbrl_report.specs.CodeNumber.{all_codes, number_of as code_number}
use Rattle.filing_model.specs.Request.{Request}
use Rattle.filing_model.specs.Register.{Kept, kept}
use Rattle.filing_model.specs.Answer.{kept_for}
use Rattle.filing_model.specs.Style.{style_of}
use Rattle.filing_model.specs.Views.{the_request}
use Rattle.table_rows.specs.Leaving.{OnlyReads}
use Rattle.table_rows.specs.Standing.{HasCommitted}
use Rattle.table_rows.specs.declared.fault.StoreFault.{StoreFault}
use Rattle.register_store.specs.declared.outcome.KeptRow.{KeptRow}
use Rattle.register_store.specs.declared.select.found.FoundRow.{FoundRow}
use Rattle.register_rows.specs.Columns.{bytes_in}
use Rattle.register_store.specs.Outcomes.{kept_as}
use Rattle.register_rows.specs.Register.{number_of}
use Rattle.register_tables.specs.Registers.{IsRegisterOf}
use Rattle.register_store.specs.Store.{ForRegister}

-- the column `seq` of `finding` or of `amends` equals this number, as SQL compares
abbrev pub has_seq : ℤ → Row → Bool
has_seq seq row = is_true (binary (Compare Eq Binary) (column row 0) (Int seq)) && true

-- a sort key by which no rows are ordered
abbrev pub unsorted : Row → Row
unsorted row = []

-- the columns `seq`, `body` and `number` of a kept row
abbrev pub found_in : Row → Row
found_in row = column row 0 ∷ column row 3 ∷ column row 4 ∷ []

-- the columns `code` and `place` of a finding's row
abbrev pub pair_in : Row → Row
pair_in row = column row 2 ∷ column row 3 ∷ []

-- the column `target` of a row of `amends`
abbrev pub target_alone : Row → Row
target_alone row = column row 1 ∷ []

-- the columns `seq`, `body` and `number` of a kept request at its place
abbrev pub found_row : ℕ → Kept → Row
found_row seq k = Int (pos seq) ∷ Blob k.request.body ∷ or_null (λ n. Int (pos n)) (number_of k.outcome) ∷ []

-- whether the value is this whole number
abbrev pub is_whole : Value → ℕ → Bool
is_whole (Int (pos n)) m = nat_eq n m
is_whole _ m = false

-- the code whose number the value is, or the first code if there is none
abbrev pub code_in : Value → Code
code_in v = unwrap_or (find (λ c. is_whole v (code_number c)) all_codes) NotJson

-- the finding in the columns `code` and `place`
abbrev pub finding_in : Row → Pair
finding_in row = record { place = bytes_in (column row 1); code = code_in (column row 0) }

-- the kept request is at this place, if the first of these is at `at`
abbrev pub IsPlaced : ℕ → ℕ → List Kept → Kept → Type 0
IsPlaced at seq [] k = ⊥
IsPlaced at seq (x ∷ ks) k = ((seq ≡ at) × (k ≡ x)) ⊎ IsPlaced (at + 1) seq ks k

-- what was found is the kept request of this filer and key, at its place
pub record IsFound (filer key : List ℕ) (F : List Request) (found : FoundRow) : Type 0 where
  pub k : Kept
  pub seq : ℕ
  pub placed : IsPlaced 1 seq (kept F) k
  pub is : (target : Option ℕ) (body : List ℕ) → kept_for (kept F) (the_request filer key target body) ≡ Some k
  pub request : k.request ≡ the_request filer key k.request.target found.body
  pub seq_is : found.seq ≡ pos seq
  pub number_is : found.number ≡ number_of k.outcome

-- what was found is the kept request of this filer and key, or nothing if none is kept
abbrev pub IsLookUp : List ℕ → List ℕ → List Request → Option FoundRow → Type 0
IsLookUp filer key F None = (target : Option ℕ) (body : List ℕ)
    → kept_for (kept F) (the_request filer key target body) ≡ None
IsLookUp filer key F (Some found) = IsFound filer key F found

-- what was read of rows, of which there is one at most
abbrev pub IsReading : List Row → Option FoundRow → Type 0
IsReading rows None = rows ≡ []
IsReading rows (Some found) = (rows ≢ []) × ((seq : ℕ) (k : Kept) → rows ≡ found_row seq k ∷ []
    → (found.seq ≡ pos seq) × (found.body ≡ k.request.body) × (found.number ≡ number_of k.outcome))

-- the place of the filing of this number, or none if there is no such filing
abbrev pub IsPlaceOf : ℕ → List Request → Option ℕ → Type 0
IsPlaceOf number F None = (k : Kept) (seq : ℕ) → IsPlaced 1 seq (kept F) k → number_of k.outcome ≡ Some number → ⊥
IsPlaceOf number F (Some seq) = (k : Kept) × IsPlaced 1 seq (kept F) k × (number_of k.outcome ≡ Some number)

-- What looking up a filer and key answers, if the first `old_style` requests are answered in the earlier style, and
-- that it writes nothing.
pub record FindsKept {S : Type 0} (g : Ghosts S) (old_style : ℕ) (filer key : List ℕ) (old new : Held S)
    (result : Result (Option KeptRow) StoreFault) : Type 0 where
  pub found : ForRegister g old new (λ _ F. (target : Option ℕ) (body : List ℕ)
      → IfOk result (λ row. option_map (kept_as filer key) row ≡ kept_for (kept F) (the_request filer key target body)))
  pub style : HasCleanDisk (state g new) → (F : List Request) → HasCommitted (IsRegisterOf old_style F) (state g old)
      → (target : Option ℕ) (body : List ℕ)
      → IfOk result (λ row. IfSome row (λ r. r.style ≡ style_of (take old_style F) (the_request filer key target body)))
  pub leaves : OnlyReads g old new result
