-- What is read of one filer's requests.
use Rattle.std.specs.Prelude.{◌≡◌, ◌+◌, ℕ, Bool, true, false, List, [], ◌∷◌, ◌++◌, map, filter, All}
use Rattle.std.specs.Prelude.{count_by, length}
use Rattle.sqlite.specs.Order.{Row, column}
use Rattle.filing_model.specs.Register.{Kept}
use Rattle.register_rows.specs.Register.{kept_row}
use Rattle.register_store.specs.Found.{IsPlaced}
use Rattle.register_pages.specs.declared.own.Own.{Own}
use Rattle.register_pages.specs.Pages.{is_filed, is_refused}

-- the columns `seq`, `idem` and `number` of a kept row
abbrev pub own_columns : Row → Row
own_columns row = column row 0 ∷ column row 2 ∷ column row 4 ∷ []

-- these columns of a kept request at its place
abbrev pub own_row : ℕ × Kept → Row
own_row p = own_columns (kept_row p.0 p.1)

-- the places of requests
abbrev pub places_of : List (ℕ × Kept) → List ℕ
places_of sent = map (λ p. p.0) sent

-- each of these is the kept request at its place
abbrev pub ArePlaced : List Kept → List (ℕ × Kept) → Type 0
ArePlaced ks sent = All (λ p. IsPlaced 1 p.0 ks p.1) sent

-- There is one filing more, or one refused report more, which has this place.
abbrev pub GainsOne : Bool → ℕ → ℕ → ℕ → List ℕ → List ℕ → Type 0
GainsOne true place filings filings' refused refused' = (filings' ≡ filings + 1) × (refused' ≡ refused)
GainsOne false place filings filings' refused refused' = (filings' ≡ filings) × (refused' ≡ refused ++ place ∷ [])

-- this is known of these requests of a filer: how many filings they are, and the places of the others
pub record AreOwn (own : Own) (sent : List (ℕ × Kept)) : Type 0 where
  pub filings : length own.filings.items ≡ count_by is_filed sent
  pub refused : own.refused.items ≡ places_of (filter is_refused sent)
