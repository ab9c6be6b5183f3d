-- What holds of every list of completed requests.
use Rattle.std.specs.Prelude.{◌≡◌, ◌↔◌, ℕ, ◌<◌, Bool, List, [], ◌∷◌, ◌++◌, map, filter, length, Option, Some, None}
use Rattle.std.specs.Prelude.{true, false, not, ◌&&◌, bytes_eq, nat_eq, if◌then◌else◌}
use Rattle.std.specs.List.{range_with_len}
use Rattle.xbrl_report.specs.Pair.{Pair}
use Rattle.http_messages.specs.Message.{Arrival, Ending, HasArrivals}
use Rattle.filing_model.specs.declared.served.Ended.{Ended}
use Rattle.filing_model.specs.declared.served.Mark.{Mark}
use Rattle.filing_model.specs.Listing.{listings}
use Rattle.filing_model.specs.Numbered.{numbered}
use Rattle.filing_model.specs.Prefix.{IsPrefixOf}
use Rattle.filing_model.specs.Request.{Request, has_key, firsts}
use Rattle.filing_model.specs.Register.{Filing, register, numbers_of, verdict}
use Rattle.filing_model.specs.Answer.{answer, as_repeat}
use Rattle.filing_model.specs.declared.served.Style.{Style}
use Rattle.filing_model.specs.Reply.{reply_as}
use Rattle.filing_model.specs.Serving.{Keeping, end_of}
use Rattle.filing_model.specs.Stopping.{Crash, ServesUntil, StopsOrServes}
use Rattle.filing_model.specs.Text.{text}

-- whether there is no finding
abbrev pub is_nothing : List Pair → Bool
is_nothing [] = true
is_nothing (f ∷ found) = false

-- whether the request, which comes after these, is the first of its filer and key, and nothing is found in its report,
-- given their register
abbrev pub is_valid_first : List Request → Request → Bool
is_valid_first before r = not (has_key before r) && is_nothing (verdict (register before) r)

-- such ones among requests that come after others, each after those before it
unfoldable pub valid_firsts : List Request → List Request → List Request
valid_firsts before [] = []
valid_firsts before (r ∷ requests) =
    (if is_valid_first before r then r ∷ [] else []) ++ valid_firsts (before ++ r ∷ []) requests

-- the register has the valid ones among the first requests, in their order, under the numbers 1, 2, ..
pub record IsRegisterOf (requests : List Request) (filings : List Filing) : Type 0 where
  pub valid : map (λ f. f.request) filings ≡ valid_firsts [] requests
  pub numbered : map (λ f. f.number) filings ≡ range_with_len 1 (length filings)

-- after a request whose filer and key came before, the first requests and the register are what they were
pub record RepeatChangesNothing (requests : List Request) (r : Request) : Type 0 where
  pub same_firsts : firsts (requests ++ r ∷ []) ≡ firsts requests
  pub same_register : register (requests ++ r ∷ []) ≡ register requests

-- whatever comes, the register stays as it is, and new filings are added behind it
abbrev pub RegisterGrows : List Request → List Request → Type 0
RegisterGrows requests more = IsPrefixOf (register requests) (register (requests ++ more))

-- a filing that replaces another replaces an earlier one, of its own filer
abbrev pub ReplaceTheirOwn : List Filing → Type 0
ReplaceTheirOwn filings = (m n : ℕ) (filing : Filing) → numbered filings m ≡ Some filing
    → filing.request.target ≡ Some n
    → (n < m) × ((replaced : Filing) × (numbered filings n ≡ Some replaced)
    × (replaced.request.filer ≡ filing.request.filer))

-- whether there is such a filing, and it is the filer's
abbrev pub is_of : List ℕ → Option Filing → Bool
is_of filer None = false
is_of filer (Some filing) = bytes_eq filing.request.filer filer

-- whether the filing of this number is asked for: any is, or one alone
abbrev pub is_asked : Option ℕ → ℕ → Bool
is_asked None number = true
is_asked (Some one) number = nat_eq number one

-- of the numbers 1, 2, .. the list has those of the filer's filings, all of them or the one that is asked for, each
-- once and in order
abbrev pub ListsTheFilers : List ℕ → Option ℕ → List Filing → Type 0
ListsTheFilers filer asked filings =
    map (λ l. l.number) (listings filer asked filings)
    ≡ filter (λ number. is_of filer (numbered filings number) && is_asked asked number)
    (range_with_len 1 (length filings))

-- whatever comes between and after, a repeat gets the answer that the request got, marked as a repeat, and the same
-- reply in either style
pub record RepeatGetsTheFirst (requests : List Request) (r : Request) (more : List Request) : Type 0 where
  pub told : answer ((requests ++ r ∷ []) ++ more) r ≡ as_repeat (answer requests r)
  pub replied : (style : Style) → reply_as style (answer ((requests ++ r ∷ []) ++ more) r)
      ≡ reply_as style (answer requests r)

-- whatever comes later, the request is in the register under this number alone
abbrev pub StaysRegistered : List Request → Request → ℕ → Type 0
StaysRegistered requests r number = (more : List Request)
    → numbers_of r (register ((requests ++ r ∷ []) ++ more)) ≡ number ∷ []

-- each arrival has its mark, the whole text was written, and it ended as the arrivals end
pub record IsAnswered (done : List Request) (bytes : List ℕ) (arrivals : List Arrival) (marks : List Mark)
    (ended : Ended) (out : List ℕ) : Type 0 where
  pub ending : Ending
  pub splits : HasArrivals bytes arrivals ending
  pub all : length marks ≡ length arrivals
  pub written : out ≡ text done arrivals ending marks
  pub end : ended ≡ end_of ending

-- serving that stops at the one may do what serving that stops at the other may, and no more
pub record StopAlike (one other : Crash) : Type 0 where
  pub serves : (limit : ℕ) (done : List Request) (bytes : List ℕ) (arrivals : List Arrival) (marks : List Mark)
      (ended : Option Ended) (out : List ℕ)
      → ServesUntil limit done bytes one arrivals marks ended out ↔ ServesUntil limit done bytes other arrivals marks
      ended out
  -- serving some bytes after what is kept may stop or end alike at both
  pub stops : (requests : Keeping) (bytes : List ℕ) (marks : List Mark) (ended : Option Ended) (out : List ℕ)
      → StopsOrServes requests bytes one marks ended out ↔ StopsOrServes requests bytes other marks ended out
