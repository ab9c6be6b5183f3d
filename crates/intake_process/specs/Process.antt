-- What the process keeps that an intake runs in, and what its calls do.
use Rattle.std.specs.Prelude.{◌≡◌, ◌≢◌, ◌↔◌, ℕ, ◌+◌, ◌-◌, ◌^◌, ◌<◌, ◌≤◌, ◌⊎◌, Bool, true, false, if◌then◌else◌, List}
use Rattle.std.specs.Prelude.{[]}
use Rattle.std.specs.Prelude.{length, Option}
use Rattle.std.specs.Prelude.{Some, None, Result, Ok, Err, IsSome, IfOk, IfErr, IfSome, OnOk, OnErr}
use Rattle.sqlite_disk.specs.declared.Disk.{Ghosts}
use Rattle.sqlite_disk.specs.declared.Files.{Files}
use Rattle.sqlite_store.specs.declared.store.FileStore.{FileStore}
use Rattle.sqlite.specs.Store as database
use Rattle.sqlite.specs.Held.{Held}
use Rattle.sqlite.specs.Files.{file_state, over_files}
use Rattle.sqlite.specs.declared.error.Error.{Error}
use Rattle.sqlite.specs.Effect.{Database}
use Rattle.command_line.specs.declared.fault.DatabaseFault.{DatabaseFault}
use Rattle.command_line.specs.declared.fault.DatabaseFault.TheVariants.{Missing}
use Rattle.table_rows.specs.Tables.{no_schema}
use Rattle.http_wire.specs.Wire.{Wire}
use Rattle.filing_model.specs.Request.{Request, firsts}
use Rattle.register_tables.specs.Registers.{IsRegisterOf}
use Rattle.register_tables.specs.Opening.{IsReadAsRegister}
use Rattle.register_extracts.specs.declared.fault.Why.{Why}
use Rattle.register_extracts.specs.declared.fault.Why.TheVariants as why
use Rattle.intake_core.specs.declared.intake.Intake.{Intake}
use Rattle.intake_core.specs.Held.{store_of, limit_of, has_stopped}
use Rattle.gateway_server.specs.Progress.{ServesToEnd}
use Rattle.connection_hall.specs.declared.stream.Stream.{Ghosts as Streams}
use Rattle.gateway_rounds.specs.Away.{AnswersAway}
use Rattle.gateway_rounds.specs.Ports.{Port}
use Rattle.gateway_rounds.specs.Rounds.{AnswersRound}
use Rattle.database_places.specs.Closing.{IsClosedIn, IsNotClosed, LieGivenUp}
use Rattle.database_places.specs.Left.{HoldWithLog, IsReadIn}
use Rattle.database_places.specs.declared.holding.Holding.TheVariants.{Nothing}
use Rattle.database_places.specs.Opening.{ComesFrom, OpensPlace}
use Rattle.database_places.specs.Places.{Lie, IsHonest}
use Rattle.database_places.specs.Places as place
use Rattle.intake_process.specs.declared.beginning.Totals.{Totals}
use Rattle.intake_process.specs.declared.fault.Refusal.{Refusal}
use Rattle.intake_process.specs.declared.process.Answered.{Answered}
use Rattle.intake_process.specs.declared.process.Closed.{Closed}
use Rattle.intake_process.specs.declared.process.IntakeProcess.{IntakeProcess}
use Rattle.intake_process.specs.declared.process.AnsweredBy.{AnsweredBy}
use Rattle.intake_process.specs.declared.process.AnsweredBy.TheVariants as outcome
use Rattle.intake_process.specs.Beginning.{HoldsAs, AreTotals, IsNotBegun}
use Rattle.intake_process.specs.Fault.{leaves_doubt}
use Rattle.intake_process.specs.Turning.{TurnsAway}

-- What contracts see of it: the intake, if it is open; if that is known, the files that lie in its place, if there are
-- some; whether what is kept is certain: no close and no making failed, and no opening took the files and got no
-- database; and how many calls its database refused, as far as a u64 counts.
pub record Parts {D : Type 0} (g : Ghosts D) : Type 0 where
  pub intake : Option (Intake (FileStore D g))
  pub lying : Option (Option (Files D))
  pub is_certain : Bool
  pub refused_calls : ℕ

abbrev pub parts : {D P : Type 0} {g : Ghosts D} → (P → Option (Option (Files D))) → IntakeProcess D P g → Parts g
parts lying process =
    record {
      intake = process.intake;
      lying = lying process.place;
      is_certain = process.is_certain;
      refused_calls =
          process.refused_calls;
    }

-- The log and the database file together hold the register of these requests: what was committed and is in the log
-- alone counts.
pub record HoldRegisterWithLog {D : Type 0} (g : Ghosts D) (files : Files D) (old_style : ℕ)
    (requests : List Request) : Type 0 where
  pub db : Database
  pub register : IsRegisterOf old_style requests db
  pub held : HoldWithLog g files db

-- the intake is open and holds these requests, or it is closed and the files in the place hold them, by the log and the
-- database file together
abbrev pub KeepsBy : {D : Type 0} {g : Ghosts D} → Option (Intake (FileStore D g)) → Option (Option (Files D)) → ℕ → ℕ
    → List Request → Type 0
KeepsBy (Some intake) lying limit old_style requests =
    HoldsAs over_files limit old_style requests intake × (lying ≡ Some None)
KeepsBy {D} {g} None lying limit old_style requests =
    (firsts requests ≡ requests) × Lie lying (λ files. HoldRegisterWithLog g files old_style requests)

-- the process keeps these requests, as long as no close failed, no register that was being made, and no opening once it
-- had taken the files
abbrev pub Keeps : {D : Type 0} {g : Ghosts D} → Parts g → ℕ → ℕ → List Request → Type 0
Keeps process limit old_style requests = process.is_certain ≡ true
    → KeepsBy process.intake process.lying limit old_style requests

-- What a call leaves that answers no request: the requests that were kept before it. If the process is certain after
-- the call, it was certain before.
pub record Leaves {D : Type 0} {g : Ghosts D} (limit : ℕ) (old new : Parts g) : Type 0 where
  pub kept : (old_style : ℕ) (requests : List Request) → Keeps old limit old_style requests
      → Keeps new limit old_style requests
  pub certain : new.is_certain ≡ true → old.is_certain ≡ true

-- the database of the intake, if that is open, refused no call
abbrev pub IsAwake : {S : Type 0} → Option (Intake S) → Type 0
IsAwake (Some intake) = has_stopped intake ≡ false
IsAwake None = Unit {0}

-- ---- as long as the database refuses no call

-- the intake is open, and its database refused no call
abbrev pub IsUp : {S : Type 0} → Option (Intake S) → Type 0
IsUp (Some intake) = has_stopped intake ≡ false
IsUp None = ⊥

-- The intake was up, and no call that its database refused was counted since.
pub record IsUnrefused {D : Type 0} {g : Ghosts D} (old new : Parts g) : Type 0 where
  pub up : IsUp old.intake
  pub same : new.refused_calls ≡ old.refused_calls
  pub counts : new.refused_calls < 2 ^ 64 - 1

-- As long as its database refuses no call, an intake that is up stays up, and what is kept is as certain as it was.
pub record StaysUp {D : Type 0} {g : Ghosts D} (old new : Parts g) : Type 0 where
  pub grows : old.refused_calls ≤ new.refused_calls
  pub up : IsUnrefused old new → IsUp new.intake
  pub certain : IsUnrefused old new → new.is_certain ≡ old.is_certain

-- ---- it is opened

-- Why the process was not opened: the place gave no database, and its files were taken or not; or no intake began over
-- this connection to the database that lay there or was made, and the connection was given up.
abbrev pub IsNotOpened : {D : Type 0} → Ghosts D → Bool → Option (Option (Files D)) → Option (Option (Files D)) → Bool
    → Why → Type 0
IsNotOpened g has_to_be_there old new was_taken (why.Files fault) =
    OpensPlace g has_to_be_there old new (Err (record { fault = fault; was_taken = was_taken }))
IsNotOpened {D} g has_to_be_there old new was_taken other =
    (conn : Held (FileStore D g)) × (back : Held (FileStore D g)) × ComesFrom old (Some None) conn
    × IsNotBegun over_files has_to_be_there conn other back × LieGivenUp old new back

-- the files gave no database, for this cause
abbrev pub without_files : DatabaseFault → Refusal
without_files fault = record { why = why.Files fault; holding = Nothing }

-- if the files that lie there before hold a sound database, those that lie there after hold it
abbrev pub LeavesDatabase : {D : Type 0} → Ghosts D → Option (Option (Files D)) → Option (Option (Files D)) → Type 0
LeavesDatabase g old new =
    (db : Database) → Lie old (λ files. HoldWithLog g files db) → Lie new (λ files. HoldWithLog g files db)

-- What an opening finds over this connection: a database that is read as a register, and the requests that its rows
-- stand for are kept. A register is made only in a database in which nothing is declared.
abbrev pub OpensOver : {D : Type 0} {g : Ghosts D} → Bool → ℕ → Held (FileStore D g) → Parts g → Type 0
OpensOver true limit conn new = IsReadAsRegister over_files conn
    × ((old_style : ℕ) (requests : List Request) → firsts requests ≡ requests
    → IsRegisterOf old_style requests (file_state conn).now
    → KeepsBy new.intake new.lying limit old_style requests)
OpensOver false limit conn new = (file_state conn).now.schema ≡ no_schema

-- What opening the process does, whether its register has to be there or is made.
pub record OpensProcess {D : Type 0} (g : Ghosts D) (has_to_be_there : Bool) (limit : ℕ) (old new : Parts g)
    (result : Result (Option Totals) Refusal) : Type 0 where
  -- the requests that lay there are kept, and counted
  pub leaves : IsHonest g → has_to_be_there ≡ true → Leaves limit old new
  pub counted : IsHonest g → has_to_be_there ≡ true → old.is_certain ≡ true → (old_style : ℕ) (requests : List Request)
      → Keeps old limit old_style requests
      → IfOk result (λ totals. IfSome totals (AreTotals requests))
  -- a register that is made has no requests
  pub made : IsHonest g → has_to_be_there ≡ false → old.intake ≡ None → IsSome old.lying
      → OnOk result (Keeps new limit 0 [])
  -- After a refusal the requests that lay there are kept, also if a register was to be made; and so is whatever other
  -- database lay there.
  pub unmade : IsHonest g → OnErr result (Leaves limit old new)
  pub left : IsHonest g → new.is_certain ≡ true → OnErr result (LeavesDatabase g old.lying new.lying)
  -- if the register has to be there, and no files lie there, the fault is Missing, and nothing changes
  pub absent : old.intake ≡ None → has_to_be_there ≡ true → old.lying ≡ Some None
      → (new ≡ old) × (result ≡ Err (without_files Missing))
  -- where no files lay, a refusal that leaves no doubt leaves all as it was
  pub nothing : IsHonest g → old.intake ≡ None → old.lying ≡ Some None → new.is_certain ≡ true
      → OnErr result (new ≡ old)
  -- whatever files lie there, it is opened over a connection to them, and the database that is read in them
  pub read : IsHonest g → old.intake ≡ None → (files : Files D) → old.lying ≡ Some (Some files)
      → OnOk result ((conn : Held (FileStore D g)) × ComesFrom old.lying (Some None) conn
      × IsReadIn g files (file_state conn).now × OpensOver has_to_be_there limit conn new)
  pub certain : OnOk result (new.is_certain ≡ old.is_certain)
  pub is_open : OnOk result (IsSome new.intake)
  -- whatever lay there, it keeps at most `limit` keys from now on
  pub limited : old.intake ≡ None → OnOk result (IfSome new.intake (λ intake. limit_of intake ≡ limit))
  pub up : old.intake ≡ None → OnOk result (IsUp new.intake)
  pub already : IsSome old.intake → (new ≡ old) × (result ≡ Ok None)
  pub calls : new.refused_calls ≡ old.refused_calls
  -- A refusal says why. After it the process is closed, and the files that lay in the place still lie there. If it
  -- leaves no doubt they hold what they held; otherwise they may be what a crash leaves.
  pub why : IfErr result (λ refusal. (was_taken : Bool)
      × IsNotOpened g has_to_be_there old.lying new.lying was_taken refusal.why
      × (new.is_certain ≡ (if leaves_doubt was_taken refusal.why then false else old.is_certain)))
  pub refused : IfErr result (λ _. new.intake ≡ None)
  pub back : IfErr result (λ _. (there : Files D) → old.lying ≡ Some (Some there)
      → (files : Files D) × (new.lying ≡ Some (Some files)))

-- ---- it answers a connection

-- What answering a connection by an intake does, and whether the database refused a call.
pub record ServesBy {S : Type 0} (g : database.Ghosts S) (from to : Wire) (old new : Intake S)
    (answered : Answered) : Type 0 where
  pub serves : ServesToEnd g from to old new answered.served
  pub failed : (answered.outcome ≡ outcome.Failed) ↔ (has_stopped new ≡ true)

-- while the process is open the intake serves the connection; otherwise it is turned away
abbrev pub AnswersBy : {D : Type 0} {g : Ghosts D} → Wire → Wire → Option (Intake (FileStore D g))
    → Option (Intake (FileStore D g)) → Answered → Type 0
AnswersBy from to (Some old) new answered =
    (intake : Intake _) × (new ≡ Some intake) × ServesBy over_files from to old intake answered
AnswersBy from to None new answered =
    (new ≡ None) × TurnsAway from to answered.served × (answered.outcome ≡ outcome.TurnedAway)

-- a call that the database refused is counted, as far as a u64 counts
abbrev pub CountsRefusal : AnsweredBy → ℕ → ℕ → Type 0
CountsRefusal outcome.Failed old new = (new ≡ old + 1) ⊎ ((new ≡ old) × (2 ^ 64 - 1 ≤ old))
CountsRefusal outcome.Served old new = new ≡ old
CountsRefusal outcome.TurnedAway old new = new ≡ old

-- what answering a connection by an intake does; a refusal of the database is counted, and nothing else changes
abbrev pub AnswersWire : {D : Type 0} {g : Ghosts D} → Wire → Wire → Parts g → Parts g → Answered → Type 0
AnswersWire from to old new answered =
    AnswersBy from to old.intake new.intake answered × (new.lying ≡ old.lying) × (new.is_certain ≡ old.is_certain)
    × CountsRefusal answered.outcome old.refused_calls new.refused_calls

-- ---- it answers what waits on a port

-- while the process is open the intake answers it, and says whether the database refused a call; otherwise it is turned
-- away
abbrev pub AnswersPortBy : {D S N : Type 0} {g : Ghosts D} → Streams S N → Port S → Port S
    → Option (Intake (FileStore D g)) → Option (Intake (FileStore D g)) → AnsweredBy → Type 0
AnswersPortBy s port port' (Some old) new by =
    (intake : Intake _) × (new ≡ Some intake) × AnswersRound s over_files port port' old intake
    × ((by ≡ outcome.Failed) ↔ (has_stopped intake ≡ true)) × (by ≢ outcome.TurnedAway)
AnswersPortBy s port port' None new by =
    (new ≡ None) × AnswersAway s port port' × (by ≡ outcome.TurnedAway)

-- what answering what waits on a port does; a refusal of the database is counted, and nothing else changes
abbrev pub AnswersPort : {D S N : Type 0} {g : Ghosts D} → Streams S N → Port S → Port S → Parts g → Parts g
    → AnsweredBy
    → Type 0
AnswersPort s port port' old new by =
    AnswersPortBy s port port' old.intake new.intake by × (new.lying ≡ old.lying)
    × (new.is_certain ≡ old.is_certain) × CountsRefusal by old.refused_calls new.refused_calls

-- ---- it is closed

-- closing the connection left these files, with all that was committed in the database file, unless this error came
abbrev pub IsLeftBy : {D : Type 0} (g : Ghosts D) → Held (FileStore D g) → Files D → Result (Unit {0}) Error → Type 0
IsLeftBy g conn files (Ok done) = IsClosedIn g conn files
IsLeftBy g conn files (Err error) = IsNotClosed conn files error

-- What closing the process does: its requests are kept, and counted if it was open.
pub record ClosesProcess {D : Type 0} (g : Ghosts D) (old new : Parts g) (closed : Closed) : Type 0 where
  pub leaves : IsHonest g → (limit : ℕ) → Leaves limit old new
  pub counted : IsHonest g → IsSome old.intake → old.is_certain ≡ true → (limit old_style : ℕ) (requests : List Request)
      → Keeps old limit old_style requests → closed.kept ≡ length requests
  pub certain : OnOk closed.outcome (new.is_certain ≡ old.is_certain)
  pub files : IfSome old.intake (λ intake. (files : Files D) × place.Leaves old.lying new.lying files
      × IsLeftBy g (store_of intake).conn files closed.outcome)
  pub is_closed : new.intake ≡ None
  pub already : old.intake ≡ None → (new ≡ old) × (closed.outcome ≡ Ok tt)
  pub calls : new.refused_calls ≡ old.refused_calls
