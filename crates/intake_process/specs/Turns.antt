-- What a port's connections are told in turn, by an intake, or while the register is closed; own rules.
use Rattle.std.specs.Prelude.{◌≡◌, ◌⊎◌, ◌<◌, ◌+◌, ℕ, Bool, true, false, List, [], ◌∷◌, ◌++◌, map, take, Option, Some}
use Rattle.std.specs.Prelude.{None}
use Rattle.std.specs.Prelude.{IfSome, IsSome, Result, Ok, Err, IfOk, if◌then◌else◌}
use Rattle.std.specs.Option.{option_to_list}
use Rattle.http_messages.specs.declared.refusal.ConnFault.TheVariants.{Memory}
use Rattle.http_messages.specs.Message.{Arrival}
use Rattle.http_messages.specs.Reply.{render}
use Rattle.sqlite_disk.specs.declared.Disk.{Ghosts}
use Rattle.connection_hall.specs.declared.stream.Stream.{Ghosts as Streams}
use Rattle.connection_hall.specs.Answers.{Answer, text_of, ends_with}
use Rattle.filing_model.specs.declared.served.Ended.{Ended}
use Rattle.filing_model.specs.declared.served.Ended.TheVariants.{Closed, InputEnded, Fault}
use Rattle.filing_model.specs.Request.{Request}
use Rattle.filing_model.specs.Serving.{Keeping, keeping, kept_by}
use Rattle.filing_model.specs.Steps.{Step, all_completed}
use Rattle.filing_model.specs.Text.{MarkFits, completed_at}
use Rattle.gateway_server.specs.Connections.{Connection, ServeInTurn}
use Rattle.gateway_server.specs.Steps.{BeginsArrival}
use Rattle.gateway_rounds.specs.Away.{away_mark, away_reply}
use Rattle.gateway_rounds.specs.Ports.{Port as PortState, Runs, is_shut}
use Rattle.gateway_rounds.specs.Turns.{IsAnswerTo}
use Rattle.database_places.specs.Places.{IsHonest}
use Rattle.intake_process.specs.declared.beginning.Totals.{Totals}
use Rattle.intake_process.specs.declared.process.Closed.{Closed as ClosedAs}
use Rattle.intake_process.specs.declared.serving.ServingFault.{ServingFault}
use Rattle.intake_process.specs.declared.serving.ServingFault.TheVariants.{Register, Port}
use Rattle.intake_process.specs.Process.{Parts, Keeps, KeepsBy, IsUnrefused, StaysUp, OpensProcess}
use Rattle.intake_process.specs.Process.{ClosesProcess}
use Rattle.intake_process.specs.History.{Passes}
use Rattle.intake_process.specs.Turning.{IsTurnedAway}

-- An arrival that was decided or turned away: the bytes that spell it, the step that it is, and its answer, unless
-- there was no memory for that.
pub record Told : Type 0 where
  pub read : List ℕ
  pub step : Step
  pub answer : Option Answer

-- It was decided by an intake, or turned away.
pub data Turn : Type 0 where
  Served : Told → Turn
  TurnedAway : Told → Turn

-- how it ended, as a connection on which nothing else came, and what was written on that
abbrev pub ended_as : Option Answer → Ended
ended_as (Some answer) = if ends_with answer then Closed else InputEnded
ended_as None = Fault Memory

abbrev pub written_as : Option Answer → List ℕ
written_as (Some answer) = text_of answer
written_as None = []

-- that connection
abbrev pub connection_of : Told → Connection
connection_of told = record {
  read = told.read;
  output = record {
    marks = told.step.mark ∷ [];
    ended = ended_as told.answer;
    bytes = written_as told.answer;
  };
}

abbrev pub told_in : Turn → Told
told_in (Served told) = told
told_in (TurnedAway told) = told

-- all of them, as connections, in their order
abbrev pub all_in : List Turn → List Connection
all_in turns = map (λ turn. connection_of (told_in turn)) turns

-- those that were decided
abbrev pub served_in : List Turn → List Connection
served_in [] = []
served_in (Served told ∷ turns) = connection_of told ∷ served_in turns
served_in (TurnedAway told ∷ turns) = served_in turns

abbrev pub steps_in : List Turn → List Step
steps_in [] = []
steps_in (Served told ∷ turns) = told.step ∷ steps_in turns
steps_in (TurnedAway told ∷ turns) = steps_in turns

-- what was answered
abbrev pub answers_in : List Turn → List Answer
answers_in [] = []
answers_in (turn ∷ turns) = option_to_list (told_in turn).answer ++ answers_in turns

-- none was turned away
abbrev pub NoneIsAway : List Turn → Type 0
NoneIsAway [] = Unit {0}
NoneIsAway (Served told ∷ turns) = NoneIsAway turns
NoneIsAway (TurnedAway told ∷ turns) = ⊥

-- the others were turned away
abbrev pub AreTurnedAway : List Turn → Type 0
AreTurnedAway [] = Unit {0}
AreTurnedAway (Served told ∷ turns) = AreTurnedAway turns
AreTurnedAway (TurnedAway told ∷ turns) =
    let connection = connection_of told in
    IsTurnedAway connection.read connection.output.marks connection.output.ended connection.output.bytes
    × AreTurnedAway turns

-- these bytes are the arrival, with nothing behind it
pub record SpellArrival (bytes : List ℕ) (arrival : Arrival) : Type 0 where
  pub came : List ℕ
  pub count : ℕ
  pub begins : BeginsArrival came arrival count
  pub are : bytes ≡ take count came

-- It was decided after these requests, and its answer is its own.
pub record IsDecided (limit : ℕ) (old_style before : List Request) (told : Told) : Type 0 where
  pub spelled : SpellArrival told.read told.step.arrival
  pub fit : MarkFits limit before told.step.arrival told.step.mark
  pub answered : IfSome told.answer (IsAnswerTo old_style before told.step)

-- It was told that there is no register now, and its connection was closed.
pub record IsAway (told : Told) : Type 0 where
  pub spelled : SpellArrival told.read told.step.arrival
  pub marked : told.step.mark ≡ away_mark told.step.arrival
  pub answer : Answer
  pub given : told.answer ≡ Some answer
  pub on : answer.on ≡ told.step.on
  pub arrival : answer.arrival ≡ told.step.arrival
  pub text : answer.text ≡ render (away_reply told.step.arrival) true
  pub closes : answer.closes ≡ true

-- each was decided after all that were completed before it, on whatever connection, or was turned away
abbrev pub AreTurns : ℕ → List Request → List Request → List Turn → Type 0
AreTurns limit old_style before [] = Unit {0}
AreTurns limit old_style before (Served told ∷ turns) =
    IsDecided limit old_style before told
    × AreTurns limit old_style (before ++ completed_at told.step.arrival told.step.mark) turns
AreTurns limit old_style before (TurnedAway told ∷ turns) = IsAway told × AreTurns limit old_style before turns

-- What waited on connections of a port was answered in these turns, and nothing else was, after those answers. So the
-- connections on which each came alone are served in turn, whatever was turned away between them.
pub record AreAnswered {S N : Type 0} (s : Streams S N) (requests : Keeping) (answers : List Answer)
    (port : PortState S) (turns : List Turn) : Type 0 where
  pub are : AreTurns requests.limit requests.old_style requests.before turns
  pub kept : requests.after ≡ kept_by requests.before (all_completed (steps_in turns))
  pub in_turn : ServeInTurn requests (served_in turns)
  pub away : AreTurnedAway turns
  pub running : Runs s (answers ++ answers_in turns) port

-- What answering connections of a port does with it and with the process of an intake, after these answers.
pub record AnswersSome {D S N : Type 0} {g : Ghosts D} (s : Streams S N) (limit : ℕ) (port port' : PortState S)
    (old new : Parts g) : Type 0 where
  -- As long as the process is certain, what arrived was answered after the requests that were kept before, and those
  -- are kept now that the last one left: by the intake, or in the place. As long as its database refused no call,
  -- nothing was turned away.
  pub answers : (old_style : ℕ) (before : List Request) → Keeps old limit old_style before → new.is_certain ≡ true
      → (told : List Answer) → Runs s told port
      → (after : List Request) × KeepsBy new.intake new.lying limit old_style after
      × (take old_style after ≡ take old_style before) × (turns : List Turn)
      × AreAnswered s (keeping limit (take old_style before) before after) told port' turns
      × (IsUnrefused old new → NoneIsAway turns)
  -- Whatever the database did, each connection is told its answers, and none is lost.
  pub runs : (told : List Answer) → Runs s told port → (more : List Answer) × Runs s (told ++ more) port'
  pub certain : new.is_certain ≡ true → old.is_certain ≡ true

-- the port was asked as often as it may be, or fewer times, since it is shut
abbrev pub EndsBy : {S : Type 0} → ℕ → PortState S → ℕ → Type 0
EndsBy most port taken = (taken ≡ most) ⊎ ((taken < most) × (is_shut port ≡ true))

-- It was opened, or made; it answered connections of the port, and was up as long as its database refused no call; and
-- it was closed.
pub record IsServed {D S N : Type 0} {g : Ghosts D} (s : Streams S N) (has_to_be_there : Bool) (limit most : ℕ)
    (port port' : PortState S) (noted noted' : Option (List Bool)) (old new : Parts g) (taken : Option ℕ)
    : Type 0 where
  pub totals : Option Totals
  pub opened : Parts g
  pub last : Parts g
  pub closed : ClosedAs
  pub opens : OpensProcess g has_to_be_there limit old opened (Ok totals)
  pub answers : IsHonest g → AnswersSome s limit port port' opened last
  pub ends : IfSome taken (EndsBy most port')
  -- the answer says how often it was asked
  pub asked : IfSome taken (λ taken. port'.asked ≡ port.asked + taken)
  -- it has the bounds that it had, so that they hold of each round
  pub bounds : port'.hall.bounds ≡ port.hall.bounds
  -- a port that was shut was not asked
  pub shut : is_shut port ≡ true → IfSome taken (λ taken. taken ≡ 0)
  pub stays : StaysUp opened last
  -- what became of it, round by round, and what the observer answered meanwhile
  pub passes : Passes s limit port port' opened last noted noted' taken
  pub closes : ClosesProcess g last new closed

-- the process served the port, as long as the port did not fail; or it was not opened, and no connection was accepted
abbrev pub IsServedOrRefused : {D S N : Type 0} {g : Ghosts D} → Streams S N → Bool → ℕ → ℕ → PortState S → PortState S
    → Option (List Bool) → Option (List Bool) → Parts g → Parts g → Result ℕ ServingFault → Type 0
IsServedOrRefused s has_to_be_there limit most port port' noted noted' old new (Ok taken) =
    IsServed s has_to_be_there limit most port port' noted noted' old new (Some taken)
IsServedOrRefused s has_to_be_there limit most port port' noted noted' old new (Err (Port error)) =
    IsServed s has_to_be_there limit most port port' noted noted' old new None
IsServedOrRefused {D} {S} {N} {g} s has_to_be_there limit most port port' noted noted' old new (Err (Register fault)) =
    OpensProcess g has_to_be_there limit old new (Err fault) × (port' ≡ port) × (noted' ≡ noted)

-- What serving a port by a register that lies in a place does, as a whole: it is opened, if it has to be there, or
-- made, serves the port until that was asked so often or is shut, and is closed. The answer says how often it was
-- asked. `noted` are the answers of the observer before, and `noted'` those after it.
pub record ServesRegister {D S N : Type 0} {g : Ghosts D} (s : Streams S N) (has_to_be_there : Bool) (limit most : ℕ)
    (port port' : PortState S) (noted noted' : Option (List Bool)) (old new : Parts g) (result : Result ℕ ServingFault)
    : Type 0 where
  -- the requests that lay there are those at the beginning
  pub found : IsHonest g → has_to_be_there ≡ true → AnswersSome s limit port port' old new
  -- a register that is made begins without requests
  pub made : IsHonest g → has_to_be_there ≡ false → old.intake ≡ None → IsSome old.lying
      → IfOk result (λ taken. (opened : Parts g) × Keeps opened limit 0 []
      × AnswersSome s limit port port' opened new)
  pub closed : new.intake ≡ None
  pub steps : IsServedOrRefused s has_to_be_there limit most port port' noted noted' old new result
