-- What serving a connection may mark, write and end with.
use Rattle.std.specs.Prelude.{◌≡◌, ℕ, true, false, List, [], ◌∷◌, ◌++◌, length}
use Rattle.http_messages.specs.Message.{Arrival, Ending, Rest, Asks, ArrivalsThen, HasArrivals}
use Rattle.filing_model.specs.declared.served.Mark.{Mark}
use Rattle.filing_model.specs.declared.served.Ended.{Ended}
use Rattle.filing_model.specs.declared.served.Ended.TheVariants.{Closed, InputEnded, Fault}
use Rattle.filing_model.specs.Prefix.{IsPrefixOf}
use Rattle.filing_model.specs.Request.{Request, firsts}
use Rattle.filing_model.specs.Text.{MarksFit, completed, text_with}

-- How requests are kept while a connection is served: how many keys may be kept, the old-style ones, which were kept
-- before there were problem details, and all that are kept before and after.
pub record Keeping : Type 0 where
  pub limit : ℕ
  pub old_style : List Request
  pub before : List Request
  pub after : List Request

abbrev pub keeping : ℕ → List Request → List Request → List Request → Keeping
keeping limit old_style before after = record { limit = limit; old_style = old_style; before = before; after = after }

-- every arrival has a mark that it may be given
pub record AreMarked (limit : ℕ) (before : List Request) (arrivals : List Arrival) (marks : List Mark) : Type 0 where
  pub all : length marks ≡ length arrivals
  pub fit : MarksFit limit before arrivals marks

-- how serving ends after arrivals with this ending
abbrev pub end_of : Ending → Ended
end_of Ending.Closed = Closed
end_of (Rest asks) = InputEnded

-- What was kept before if nothing was completed, and otherwise the first request of each filer and key among both. If
-- those before are such firsts already, this is `firsts (before ++ completed)` in either case.
abbrev pub kept_by : List Request → List Request → List Request
kept_by before [] = before
kept_by before (r ∷ requests) = firsts (before ++ r ∷ requests)

-- All arrivals are marked and answered, and what is kept `after` follows from what was kept `before`.
pub record IsServed (requests : Keeping) (bytes : List ℕ) (marks : List Mark) (ended : Ended) (out : List ℕ)
    : Type 0 where
  pub arrivals : List Arrival
  pub ending : Ending
  pub splits : HasArrivals bytes arrivals ending
  pub marked : AreMarked requests.limit requests.before arrivals marks
  pub written : out ≡ text_with requests.old_style requests.before arrivals ending marks
  pub kept : requests.after ≡ kept_by requests.before (completed arrivals marks)
  pub end : ended ≡ end_of ending

-- the rest asks for an interim response, whatever follows it, if the ending says so
abbrev pub AnyFollows : List ℕ → Ending → Type 0
AnyFollows bytes Ending.Closed = Unit {0}
AnyFollows bytes (Rest true) = Asks bytes true
AnyFollows bytes (Rest false) = Unit {0}

-- the bytes begin with these arrivals, all of them or the first
abbrev pub BeginsArrivals : List ℕ → List Arrival → Ending → Type 0
BeginsArrivals bytes arrivals ending = ArrivalsThen AnyFollows bytes arrivals ending

-- A fault ended early: the first arrivals are marked, and what went out begins their text, with the interim response
-- that may be asked for after them.
pub record IsCutShort (requests : Keeping) (bytes : List ℕ) (marks : List Mark) (out : List ℕ) : Type 0 where
  pub arrivals : List Arrival
  pub ending : Ending
  pub begins : BeginsArrivals bytes arrivals ending
  pub marked : AreMarked requests.limit requests.before arrivals marks
  pub written : IsPrefixOf out (text_with requests.old_style requests.before arrivals ending marks)
  pub kept : requests.after ≡ kept_by requests.before (completed arrivals marks)

-- what serving these bytes may mark, write, keep and end with
abbrev pub Serves : Keeping → List ℕ → List Mark → Ended → List ℕ → Type 0
Serves requests bytes marks Closed out = IsServed requests bytes marks Closed out
Serves requests bytes marks InputEnded out = IsServed requests bytes marks InputEnded out
Serves requests bytes marks (Fault fault) out = IsCutShort requests bytes marks out
