-- What becomes of a process while a port is served, round by round; own rules.
use Rattle.std.specs.Prelude.{◌≡◌, ◌++◌, ℕ, Bool, true, false, List, [], ◌∷◌, length, Option, Some, None, IfSome}
use Rattle.std.specs.Prelude.{IsSome}
use Rattle.std.specs.Prelude.{Result}
use Rattle.sqlite_disk.specs.declared.Disk.{Ghosts}
use Rattle.connection_hall.specs.declared.stream.Stream.{Ghosts as Streams}
use Rattle.connection_hall.specs.Answers.{Answer}
use Rattle.connection_hall.specs.Running.{arrival_at}
use Rattle.gateway_rounds.specs.Ports.{Port, Runs}
use Rattle.intake_process.specs.declared.beginning.Totals.{Totals}
use Rattle.intake_process.specs.declared.fault.Refusal.{Refusal}
use Rattle.intake_process.specs.declared.process.Closed.{Closed}
use Rattle.intake_process.specs.declared.process.AnsweredBy.{AnsweredBy}
use Rattle.intake_process.specs.declared.process.AnsweredBy.TheVariants as outcome
use Rattle.intake_process.specs.Process.{Parts, OpensProcess, AnswersPort, ClosesProcess}
use Rattle.intake_process.specs.Observing.{Notes}

-- What became of a port and of a process as the port was asked once. `from` is the port then, and `to` once what waited
-- was answered. `asked` is what the observer answered; `None` if the register was open, or nothing waited, so that it
-- was not asked. `by` is who answered, if something waited.
pub record Round {D : Type 0} (g : Ghosts D) (S : Type 0) : Type 0 where
  pub from : Port S
  pub asked : Option Bool
  pub ready : Parts g
  pub by : Option AnsweredBy
  pub to : Port S
  pub last : Parts g
  pub after : Parts g

abbrev pub said_of : Option Bool → List Bool
said_of None = []
said_of (Some said) = said ∷ []

-- A register that is open is left as it is. One that is closed is opened with this limit if the observer lets it, and
-- otherwise it is left as it is.
abbrev pub IsReady : {D : Type 0} {g : Ghosts D} → ℕ → Option Bool → Parts g → Parts g → Type 0
IsReady limit None old new = IsSome old.intake × (new ≡ old)
IsReady limit (Some false) old new = (old.intake ≡ None) × (new ≡ old)
IsReady {D} {g} limit (Some true) old new =
    (old.intake ≡ None) × ((result : Result (Option Totals) Refusal) × OpensProcess g true limit old new result)

-- it is closed if its database refused a call, and otherwise left as it is
abbrev pub IsOver : {D : Type 0} {g : Ghosts D} → AnsweredBy → Parts g → Parts g → Type 0
IsOver {D} {g} outcome.Failed old new = (closed : Closed) × ClosesProcess g old new closed
IsOver outcome.Served old new = new ≡ old
IsOver outcome.TurnedAway old new = new ≡ old

-- nothing was answered on the port, and no connection is lost
abbrev pub GoesOn : {S N : Type 0} → Streams S N → Port S → Port S → Type 0
GoesOn s old new = (answers : List Answer) → Runs s answers old → Runs s answers new

-- nothing waited, and nothing was done; or the register was made ready, what waited was answered, or turned away, and
-- the register was closed if its database refused a call
abbrev pub IsAnswered : {D S N : Type 0} {g : Ghosts D} → Streams S N → ℕ → Parts g → Round g S → Option AnsweredBy
    → Type 0
IsAnswered s limit old round None =
    ((place : ℕ) → arrival_at round.from.hall place ≡ None) × (round.to ≡ round.from) × (round.asked ≡ None)
    × (round.after ≡ old)
IsAnswered s limit old round (Some by) =
    IsReady limit round.asked old round.ready × AnswersPort s round.from round.to round.ready round.last by
    × IsOver by round.last round.after

-- these rounds were made, one after another, and nothing else was answered
abbrev pub AreRounds : {D S N : Type 0} {g : Ghosts D} → Streams S N → ℕ → Port S → Parts g → List (Round g S) → Port S
    → Parts g → Type 0
AreRounds s limit port old [] port' new = GoesOn s port port' × (new ≡ old)
AreRounds s limit port old (round ∷ rounds) port' new =
    GoesOn s port round.from × IsAnswered s limit old round round.by
    × AreRounds s limit round.to round.after rounds port' new

-- what the observer answered meanwhile
abbrev pub said_in : {D S : Type 0} {g : Ghosts D} → List (Round g S) → List Bool
said_in [] = []
said_in (round ∷ rounds) = said_of round.asked ++ said_in rounds

-- What becomes of a port and of a process while the port is served. So what waits as the port was asked is answered, or
-- turned away, or found no room; whether the process is certain changes only by an opening or a close that failed, each
-- opening has this limit, and a register that is closed is opened for the next round for which the observer lets it. If
-- it is told how often the port was asked, there are as many rounds.
pub record Passes {D S N : Type 0} {g : Ghosts D} (s : Streams S N) (limit : ℕ) (port port' : Port S)
    (old new : Parts g)
    (noted noted' : Option (List Bool)) (taken : Option ℕ) : Type 0 where
  pub rounds : List (Round g S)
  pub are : AreRounds s limit port old rounds port' new
  pub count : IfSome taken (λ taken. length rounds ≡ taken)
  pub notes : Notes noted noted' (said_in rounds)
