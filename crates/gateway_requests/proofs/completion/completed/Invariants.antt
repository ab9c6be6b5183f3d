use Rattle.std.proofs.Common.{◌≤◌, List, length, drop}
use Rattle.http_messages.specs.Message.{Arrival, Ending, NoneFollows, HasArrivals}
use Rattle.filing_model.specs.Serving.{AnyFollows, BeginsArrivals}
use Rattle.filing_model.specs.Text.{completed}
use Rattle.gateway_requests.proofs.Completing.{IsAhead, IsFew, AnyMarks}
use Rattle.gateway_requests.proofs.completion.completed.Given as goal

abbrev pub invariant-loop-mark : goal.invariant-loop-mark
invariant-loop-mark l = record {
  all : (arrivals : List Arrival) (ending : Ending) → HasArrivals l.bytes arrivals ending
      → IsAhead NoneFollows AnyMarks l.rest (drop l.mark-index l.marks) (completed arrivals l.marks) l.list.items;
  first : (arrivals : List Arrival) (ending : Ending) → BeginsArrivals l.bytes arrivals ending
      → length l.marks ≤ length arrivals
      → IsAhead AnyFollows IsFew l.rest (drop l.mark-index l.marks) (completed arrivals l.marks) l.list.items;
}
