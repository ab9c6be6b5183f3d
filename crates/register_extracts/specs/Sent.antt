-- What a kept request sent.
use Rattle.std.specs.Prelude.{ℕ, List, [], ◌∷◌}
use Rattle.sqlite.specs.Order.{Row, column}
use Rattle.filing_model.specs.Request.{Request}
use Rattle.register_rows.specs.Columns.{bytes_in, text_in}

-- who sent it, under which key, and the bytes of the report
pub record SentParts : Type 0 where
  pub filer : List ℕ
  pub key : List ℕ
  pub body : List ℕ

abbrev pub sent_of : Request → SentParts
sent_of r = record { filer = r.filer; key = r.key; body = r.body }

-- the columns `filer`, `idem` and `body` of a kept row
abbrev pub sent_columns : Row → Row
sent_columns row = column row 1 ∷ column row 2 ∷ column row 3 ∷ []

-- what a row with these columns says
abbrev pub sent_in : Row → SentParts
sent_in row = record { filer = text_in (column row 0); key = text_in (column row 1); body = bytes_in (column row 2) }
