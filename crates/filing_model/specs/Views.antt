-- Answers, outcomes, lists, requests and states as values, without their places in memory.
use Rattle.std.specs.Prelude.{ℕ, List, Option}
use Rattle.filing_model.specs.declared.listing.FilingRow.{FilingRow as Row}
use Rattle.filing_model.specs.declared.answer.Answer.{Answer as Given}
use Rattle.filing_model.specs.declared.answer.Answer.TheVariants as given
use Rattle.filing_model.specs.declared.outcome.Outcome.{Outcome as Became}
use Rattle.filing_model.specs.declared.state.State.{State as Stored}
use Rattle.filing_model.specs.Listing.{Listing}
use Rattle.filing_model.specs.Register.{Outcome}
use Rattle.filing_model.specs.Request.{Request}
use Rattle.filing_model.specs.Answer.{Answer}
use Rattle.filing_model.specs.Outbox.{State, Open, Confirmed, Refused, Clashed}

-- an answer
abbrev pub view_answer : Given → Answer
view_answer (given.Registered number repeat) = Answer.Registered number repeat
view_answer (given.Refused found repeat style) = Answer.Refused found repeat
view_answer (given.KeyReused style) = Answer.KeyReused

-- an outcome
abbrev pub view_outcome : Became → Outcome
view_outcome (Became.Registered number) = Outcome.Registered number
view_outcome (Became.Refused findings) = Outcome.Refused findings

-- a filing as it is listed
abbrev pub view_row : Row → Listing
view_row r = record { number = r.number; facts = r.facts; replaced_by = r.replaced_by; replaces = r.replaces }

-- the request of this filer and key with this body, which replaces the filing of this number, if any
abbrev pub the_request : List ℕ → List ℕ → Option ℕ → List ℕ → Request
the_request filer key target body = record { filer = filer; key = key; target = target; body = body }

-- a state
abbrev pub view_state : Stored → State
view_state Stored.Open = Open
view_state (Stored.Confirmed number) = Confirmed number
view_state Stored.Refused = Refused
view_state Stored.Clashed = Clashed
