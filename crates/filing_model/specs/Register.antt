-- The outcomes of the first requests, and the register of the valid ones.
use Rattle.std.specs.Prelude.{ℕ, suc, Bool, true, ◌&&◌, not, map, filter, List, [], ◌∷◌, ◌++◌, length, Option, Some}
use Rattle.std.specs.Prelude.{None, filter_map, bytes_eq, nat_eq}
use Rattle.std.specs.List.{list_any}
use Rattle.xbrl_report.specs.Amendment.{amendment_findings}
use Rattle.xbrl_report.specs.Pair.{Pair}
use Rattle.filing_model.specs.Request.{Request, firsts, same_request, same_target}

-- a registered request, under its number
pub record Filing : Type 0 where
  pub number : ℕ
  pub request : Request

-- what becomes of the first request of a filer and key
pub data Outcome : Type 0 where
  Registered : ℕ → Outcome
  Refused : List Pair → Outcome

-- a request that is kept for good, with its outcome
pub record Kept : Type 0 where
  pub request : Request
  pub outcome : Outcome

-- the filing that a request with this outcome is, if it is one
abbrev pub filing_of : Request → Outcome → Option Filing
filing_of r (Registered number) = Some (record { number = number; request = r })
filing_of r (Refused findings) = None

-- the filings among kept requests
unfoldable pub filings : List Kept → List Filing
filings kept = filter_map (λ k. filing_of k.request k.outcome) kept

-- whether the filing is the filer's under this number
abbrev pub is_filing_of : List ℕ → ℕ → Filing → Bool
is_filing_of filer n f = bytes_eq f.request.filer filer && nat_eq f.number n

-- whether the filing replaces the one of this number
abbrev pub is_amendment_of : ℕ → Filing → Bool
is_amendment_of n f = same_target f.request.target (Some n)

-- whether the filer may replace the filing of this number: it is there, and none of these replaces it
abbrev pub is_replaceable : List Filing → List ℕ → ℕ → Bool
is_replaceable before filer n = list_any (is_filing_of filer n) before && not (list_any (is_amendment_of n) before)

-- a request without a target replaces nothing
abbrev pub is_free : List Filing → List ℕ → Option ℕ → Bool
is_free before filer None = true
is_free before filer (Some n) = is_replaceable before filer n

-- what is found in a request that comes after these filings
unfoldable pub verdict : List Filing → Request → List Pair
verdict before r = amendment_findings r.filer r.body (is_free before r.filer r.target)

-- a request in which nothing is found is registered under the next number
abbrev pub outcome_by : List Pair → ℕ → Outcome
outcome_by [] next = Registered next
outcome_by (f ∷ fs) next = Refused (f ∷ fs)

-- a request with its outcome after these
abbrev pub judged : List Kept → Request → Kept
judged before r =
    record { request = r; outcome = outcome_by (verdict (filings before) r) (suc (length (filings before))) }

-- these, and then each request with its outcome after the ones before it
unfoldable pub kept_after : List Kept → List Request → List Kept
kept_after before [] = before
kept_after before (r ∷ requests) = kept_after (before ++ judged before r ∷ []) requests

-- the first requests with their outcomes
abbrev pub kept : List Request → List Kept
kept requests = kept_after [] (firsts requests)

-- the valid ones among the first requests, numbered in order
abbrev pub register : List Request → List Filing
register requests = filings (kept requests)

-- the numbers under which the request is registered
abbrev pub numbers_of : Request → List Filing → List ℕ
numbers_of r filings = map (λ f. f.number) (filter (λ f. same_request f.request r) filings)
