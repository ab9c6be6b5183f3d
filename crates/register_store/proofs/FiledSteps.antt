-- The filings of kept requests whose rows are read one after another.
use Rattle.std.proofs.Common.{◌≡◌, ℕ, ◌+◌, List, [], ◌∷◌, ◌++◌, take, suc, Option, Some, None, refl, sym, ap, ap₂, ◌∙◌}
use Rattle.std.proofs.Common.{arith}
use Rattle.std.specs.Prelude.{option_map}
use Rattle.sqlite.specs.Order.{Row, column}
use Rattle.filing_model.specs.Request.{Request}
use Rattle.filing_model.specs.Register.{Outcome, Kept, Filing, filing_of, filings}
use Rattle.filing_model.specs.Register.Outcome.{Registered, Refused}
use Rattle.filing_model.proofs.Keeping.{filings-append}
use Rattle.register_rows.specs.Columns.{number_in, request_in}
use Rattle.register_rows.specs.Register.{kept_row}
use Rattle.register_rows.proofs.StepsOfTargets.{IsStep}

-- the request of a step as it is read
pub request_read : (ks : List Kept) (at place : ℕ) (row : Row) (target : Option ℕ) (tail : List Row)
    → (s : IsStep ks at place row target tail) → request_in target row ≡ s.k.request
request_read ks at place row target tail s =
    ap (request_in target) s.row_is ∙ ap (λ (t : Option ℕ). record s.k.request { target = t }) (sym s.target_is)

-- the number in a kept row is that of its filing
number_said : (place : ℕ) (k : Kept)
    → option_map (λ (n : ℕ). record { number = n; request = k.request }) (number_in (column (kept_row place k) 4))
    ≡ filing_of k.request k.outcome
number_said place k = go k.outcome
  where
    go : (o : Outcome) → option_map (λ (n : ℕ). record { number = n; request = k.request })
        (number_in (column (kept_row place (record { request = k.request; outcome = o })) 4)) ≡ filing_of k.request o
    go (Registered n) = refl
    go (Refused findings) = refl

pub filing_read : (ks : List Kept) (at place : ℕ) (row : Row) (target : Option ℕ) (tail : List Row)
    → (s : IsStep ks at place row target tail)
    → option_map (λ (n : ℕ). record { number = n; request = request_in target row }) (number_in (column row 4))
    ≡ filing_of s.k.request s.k.outcome
filing_read ks at place row target tail s =
    ap₂ (λ (r : Request) (l : Row). option_map (λ (n : ℕ). record { number = n; request = r }) (number_in (column l 4)))
    (request_read ks at place row target tail s) s.row_is ∙ number_said place s.k

-- the filings of one kept request more
abbrev pub filing_list : Option Filing → List Filing
filing_list None = []
filing_list (Some f) = f ∷ []

pub filings_step : (ks : List Kept) (at : ℕ) (k : Kept) → take (suc at) ks ≡ take at ks ++ k ∷ []
    → filings (take (at + 1) ks) ≡ filings (take at ks) ++ filing_list (filing_of k.request k.outcome)
unfolding filings
filings_step ks at k taken =
    let next : at + 1 ≡ suc at = omega arith in
    ap (λ n. filings (take n ks)) next ∙ ap filings taken ∙ filings-append (take at ks) (k ∷ [])
    ∙ ap (λ l. filings (take at ks) ++ l) (alone k.outcome)
  where
    alone : (o : Outcome) → filings (record { request = k.request; outcome = o } ∷ [])
        ≡ filing_list (filing_of k.request o)
    alone (Registered n) = refl
    alone (Refused findings) = refl
