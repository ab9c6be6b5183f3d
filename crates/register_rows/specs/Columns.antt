-- What the columns of a row say.
use Rattle.std.specs.Prelude.{ℕ, ℤ, pos, Bool, false, List, [], ◌∷◌, Option, Some, None}
use Rattle.std.specs.Ordering.{int_eq}
use Rattle.sqlite.specs.declared.types.Value.{Value}
use Rattle.sqlite.specs.declared.types.Value.TheVariants.{Int, Text, Blob}
use Rattle.sqlite.specs.Order.{Row, column}
use Rattle.xbrl_report.specs.FactRecord.{FactRecord}
use Rattle.filing_model.specs.Request.{Request}

-- the bytes of a text, or none if the value is no text
abbrev pub text_in : Value → List ℕ
text_in (Text t) = t
text_in _ = []

-- the bytes of a blob, or none if the value is no blob
abbrev pub bytes_in : Value → List ℕ
bytes_in (Blob b) = b
bytes_in _ = []

-- the whole number from 0 that the value is, if it is one
abbrev pub number_in : Value → Option ℕ
number_in (Int (pos n)) = Some n
number_in _ = None

-- the request in the columns `seq`, `filer`, `idem`, `body` and `number`, which is to replace this filing, if any
abbrev pub request_in : Option ℕ → Row → Request
request_in target row =
    record {
      filer = text_in (column row 1);
      key = text_in (column row 2);
      target = target;
      body =
          bytes_in (column row 3);
    }

-- the bytes of a blob, if the value is one
abbrev pub maybe_bytes_in : Value → Option (List ℕ)
maybe_bytes_in (Blob b) = Some b
maybe_bytes_in _ = None

-- the whole number that the value is, if it is one
abbrev pub integer_in : Value → Option ℤ
integer_in (Int n) = Some n
integer_in _ = None

-- the fact in the columns `id`, `concept`, `dimensions`, `value` and `decimals`
abbrev pub fact_in : Row → FactRecord
fact_in row = record {
  id = bytes_in (column row 0);
  concept = bytes_in (column row 1);
  dimensions = bytes_in (column row 2);
  value = maybe_bytes_in (column row 3);
  decimals = integer_in (column row 4);
}

-- the column is this number
abbrev pub is_number : ℕ → Value → Bool
is_number n (Int k) = int_eq k (pos n)
is_number n _ = false

-- the first of the rows has this number in the column
abbrev pub begins_with : ℕ → ℕ → List Row → Bool
begins_with at n [] = false
begins_with at n (row ∷ rows) = is_number n (column row at)
