use Rattle.std.proofs.Common.{◌≡◌, ◌++◌, ◌≤◌, List, length}
use Rattle.http_messages.specs.Message.{Arrival, Ending}
use Rattle.filing_model.specs.Serving.{BeginsArrivals}
use Rattle.filing_model.specs.Text.{completed}
use Rattle.schedule.proofs.server.append_completed.Given as goal

abbrev pub invariant-loop-request : goal.invariant-loop-request
invariant-loop-request l = (arrivals : List Arrival) (ending : Ending) → BeginsArrivals l.bytes arrivals ending
    → length l.marks ≤ length arrivals → l.done.items ++ l.request-iterator.rest.items ≡ l.fn.done.items
    ++ completed arrivals l.marks
