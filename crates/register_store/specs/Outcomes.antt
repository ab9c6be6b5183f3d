-- Kept rows as values, apart from where they are in memory.
use Rattle.std.specs.Prelude.{ℕ, ◌+◌, List, [], ◌∷◌, ◌++◌, drop, length, map, nat_le, if◌then◌else◌}
use Rattle.filing_model.specs.declared.served.Style.{Style}
use Rattle.filing_model.specs.declared.served.Style.TheVariants.{Old, Problem}
use Rattle.filing_model.specs.Request.{Request}
use Rattle.filing_model.specs.Register.{Kept, Outcome, kept}
use Rattle.filing_model.specs.Views.{the_request, view_outcome}
use Rattle.register_store.specs.declared.outcome.KeptRow.{KeptRow}
use Rattle.register_store.specs.declared.outcome.NewRow.{NewRow}
use Rattle.register_store.specs.NewRows.{request_of}
use Rattle.register_rows.specs.Outcomes.{outcome_of, filings_by}

-- what is kept of this filer and key
abbrev pub kept_as : List ℕ → List ℕ → KeptRow → Kept
kept_as filer key row =
    record { request = the_request filer key row.target row.body; outcome = view_outcome row.outcome }

-- what is kept of a request that was judged so, if the next filing has this number
abbrev pub kept_new : ℕ → NewRow → Kept
kept_new number row = record { request = request_of row; outcome = outcome_of number row.judged.now }

-- the number of the next filing after it
abbrev pub number_after : ℕ → NewRow → ℕ
number_after number row = number + filings_by (outcome_of number row.judged.now)

-- and after these
abbrev pub number_past : ℕ → List NewRow → ℕ
number_past number [] = number
number_past number (row ∷ rows) = number_past (number_after number row) rows

-- what becomes of them, if the next filing has this number
abbrev pub outcomes_from : ℕ → List NewRow → List Outcome
outcomes_from number [] = []
outcomes_from number (row ∷ rows) = outcome_of number row.judged.now ∷ outcomes_from (number_after number row) rows

-- what becomes of the requests that come behind these
abbrev pub outcomes_behind : List Request → List Request → List Outcome
outcomes_behind F requests = map (λ k. k.outcome) (drop (length (kept F)) (kept (F ++ requests)))

-- the style in which the kept request at this place is answered, if the first `old_style` ones were kept before there
-- were problem details
abbrev pub style_at : ℕ → ℕ → Style
style_at old_style place = if nat_le place old_style then Old else Problem
