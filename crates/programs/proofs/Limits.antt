-- What an intake that keeps few keys does, one that keeps more may do.
use Rattle.std.proofs.Common.{◌≡◌, ℕ, ◌<◌, ◌≤◌, true, List, [], ◌∷◌, ◌++◌, length, ⊎_elim, inl, inr, arith}
use Rattle.http_messages.specs.Message.{Arrival}
use Rattle.filing_model.specs.declared.served.Ended.{Ended}
use Rattle.filing_model.specs.declared.served.Ended.TheVariants.{Closed, InputEnded, Fault}
use Rattle.filing_model.specs.declared.served.Mark.{Mark}
use Rattle.filing_model.specs.declared.served.Mark.TheVariants.{Done, Unavailable, NotFiled}
use Rattle.filing_model.specs.Request.{Request, has_key, firsts}
use Rattle.filing_model.specs.Serving.{keeping, AreMarked, IsServed, Serves}
use Rattle.filing_model.specs.Stopping.{Crash, IsStopped}
use Rattle.filing_model.specs.Text.{Route, Reject, ListFilings, FileReport, route, RouteFits, MarkFits, MarksFit}
use Rattle.filing_model.specs.Text.{completed_at}

module _ (keys limit : ℕ) (few : keys ≤ limit) where
  route_fits : (requests : List Request) (to : Route) (mark : Mark) → RouteFits keys requests to mark
      → RouteFits limit requests to mark
  route_fits requests (FileReport r) Done fits = ⊎_elim
      (λ (has : has_key requests r ≡ true). inl has)
      (λ (room : length (firsts requests) < keys). inr (omega (arith, room, few)))
      fits
  route_fits requests (FileReport r) Unavailable fits = fits
  route_fits requests (FileReport r) NotFiled fits = fits
  route_fits requests (ListFilings filer number) Done fits = fits
  route_fits requests (ListFilings filer number) Unavailable fits = fits
  route_fits requests (ListFilings filer number) NotFiled fits = fits
  route_fits requests (Reject reply) Done fits = fits
  route_fits requests (Reject reply) Unavailable fits = fits
  route_fits requests (Reject reply) NotFiled fits = fits

  mark_fits : (requests : List Request) (arrival : Arrival) (mark : Mark) → MarkFits keys requests arrival mark
      → MarkFits limit requests arrival mark
  mark_fits requests (Arrival.Read m) mark fits = route_fits requests (route m) mark fits
  mark_fits requests (Arrival.Refused refusal) Done fits = fits
  mark_fits requests (Arrival.Refused refusal) Unavailable fits = fits
  mark_fits requests (Arrival.Refused refusal) NotFiled fits = fits

  marks_fit : (requests : List Request) (arrivals : List Arrival) (marks : List Mark)
      → MarksFit keys requests arrivals marks → MarksFit limit requests arrivals marks
  unfolding MarksFit
  marks_fit requests arrivals [] fits = fits
  marks_fit requests [] (mark ∷ marks) fits = fits
  marks_fit requests (arrival ∷ arrivals) (mark ∷ marks) fits =
      (mark_fits requests arrival mark fits.0, marks_fit (requests ++ completed_at arrival mark) arrivals marks fits.1)

  marked : (requests : List Request) (arrivals : List Arrival) (marks : List Mark)
      → AreMarked keys requests arrivals marks → AreMarked limit requests arrivals marks
  marked requests arrivals marks are = record { all = are.all; fit = marks_fit requests arrivals marks are.fit }

  served : (before after : List Request) (read : List ℕ) (marks : List Mark) (ended : Ended) (out : List ℕ)
      → IsServed (keeping keys [] before after) read marks ended out
      → IsServed (keeping limit [] before after) read marks ended out
  served before after read marks ended out is = record {
    arrivals = is.arrivals;
    ending = is.ending;
    splits = is.splits;
    marked = marked before is.arrivals marks is.marked;
    written = is.written;
    kept = is.kept;
    end = is.end;
  }

  pub stopped_more : (before after : List Request) (read : List ℕ) (crash : Crash) (marks : List Mark) (out : List ℕ)
      → IsStopped (keeping keys [] before after) read crash marks out
      → IsStopped (keeping limit [] before after) read crash marks out
  stopped_more before after read crash marks out is = record {
    arrivals = is.arrivals;
    begins = is.begins;
    here = is.here;
    all = is.all;
    fit = marks_fit before is.arrivals marks is.fit;
    written = is.written;
    kept = is.kept;
  }

  pub serves_more : (before after : List Request) (read : List ℕ) (marks : List Mark) (ended : Ended) (out : List ℕ)
      → Serves (keeping keys [] before after) read marks ended out
      → Serves (keeping limit [] before after) read marks ended out
  serves_more before after read marks Closed out is = served before after read marks Closed out is
  serves_more before after read marks InputEnded out is = served before after read marks InputEnded out is
  serves_more before after read marks (Fault fault) out is = record {
    arrivals = is.arrivals;
    ending = is.ending;
    begins = is.begins;
    marked = marked before is.arrivals marks is.marked;
    written = is.written;
    kept = is.kept;
  }
