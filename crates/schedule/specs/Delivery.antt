-- What a delivery does to an intake.
use Rattle.std.specs.Prelude.{◌≡◌, ◌++◌, ℕ, List, length}
use Rattle.http_messages.specs.Message.{Arrival}
use Rattle.filing_model.specs.Stopping.{Crash, ServesUntil}
use Rattle.filing_model.specs.Text.{completed}
use Rattle.filing_world.specs.Step.{is_no}
use Rattle.schedule.specs.Served.{Served}
use Rattle.schedule.specs.declared.server.Delivered.{Delivered}

-- These bytes were served up to the stop after the requests so far, and the requests that they completed were appended.
pub record IsDelivered (old new : Served) (bytes : List ℕ) (crash : Crash) (delivered : Delivered) : Type 0 where
  pub before : delivered.before ≡ length old.done
  pub arrivals : List Arrival
  pub serves : ServesUntil old.limit old.done bytes crash arrivals delivered.marks.items delivered.ended
      delivered.text.items
  pub becomes : new ≡ record old { done = old.done ++ completed arrivals delivered.marks.items; up = is_no crash }
