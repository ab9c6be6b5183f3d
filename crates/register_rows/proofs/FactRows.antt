-- The table of facts is that of the filings.
use Rattle.std.proofs.Common.{◌≡◌, ℕ, ◌+◌, List, [], ◌∷◌, ◌++◌, refl, ap}
use Rattle.std.specs.Prelude.{flat_map}
use Rattle.sqlite.specs.Order.{Row}
use Rattle.xbrl_report.specs.ReportParts.{facts}
use Rattle.filing_model.specs.Register.{Outcome, Kept, Filing, filings}
use Rattle.filing_model.specs.Register.Outcome.{Registered, Refused}
use Rattle.table_rows.specs.Rows.{counted_from}
use Rattle.register_rows.specs.Register.{fact_row, fact_rows, joined_from}

-- the rows of a filing's facts
abbrev pub rows_of : Filing → List Row
rows_of f = counted_from (fact_row f.number) 1 (facts f.request.body)

-- the table of facts is that of the filings
pub table_is : (at : ℕ) (ks : List Kept) → joined_from fact_rows at ks ≡ flat_map rows_of (filings ks)
unfolding filings
table_is at [] = refl
table_is at (k ∷ ks) = go k.outcome (table_is (at + 1) ks)
  where
    go : (o : Outcome) → joined_from fact_rows (at + 1) ks ≡ flat_map rows_of (filings ks)
        → joined_from fact_rows at (record { request = k.request; outcome = o } ∷ ks)
        ≡ flat_map rows_of (filings (record { request = k.request; outcome = o } ∷ ks))
    go (Registered number) h = ap (λ l. counted_from (fact_row number) 1 (facts k.request.body) ++ l) h
    go (Refused findings) h = h
