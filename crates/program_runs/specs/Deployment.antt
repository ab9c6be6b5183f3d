-- Runs of both programs on the files of a deployment, one after another on each file and beside each other on different
-- ones; own rules.
use Rattle.std.specs.Prelude.{◌≡◌, ◌++◌, ◌≤◌, ◌^◌, ℕ, true, List, [], ◌∷◌, Option, Some, None, IfSome, Result}
use Rattle.sqlite_disk.specs.declared.Disk.{Ghosts}
use Rattle.sqlite_disk.specs.declared.Files.{Files}
use Rattle.connection_hall.specs.declared.stream.Stream.{Ghosts as Streams}
use Rattle.filing_model.specs.Request.{Request}
use Rattle.filing_world.specs.World.{numbered}
use Rattle.filing_world.specs.Headline.{AreFilers}
use Rattle.outbox_tables.specs.Entries.{Contents}
use Rattle.outbox_process.specs.Dials.{Traffic}
use Rattle.outbox_process.specs.Process.{Parts}
use Rattle.outbox_commands.specs.Tasks.{Does}
use Rattle.outbox_commands.specs.Status.{status_by}
use Rattle.outbox_commands.specs.declared.fault.NotDone.{NotDone}
use Rattle.outbox_commands.specs.declared.options.Task.{Task}
use Rattle.intake_commands.specs.Tasks.{Means, Performs}
use Rattle.intake_commands.specs.declared.options.Task.{Task as IntakeTask}
use Rattle.gateway_rounds.specs.Ports.{Runs}
use Rattle.programs.specs.Happenings.{Situation, at_first, AreRegistered}
use Rattle.programs.specs.Fronts.{Passing, HappenBehind, IsReachedBehind}
use Rattle.program_runs.specs.Beside.{Act, Service, InTurn, deeds_of, services_of, network_of, AreCarried}
use Rattle.program_runs.specs.Deeds.{Deed, AreDone}
use Rattle.program_runs.specs.Registers.{LieRequests, AreOfPort, IsLimited}
use Rattle.program_runs.specs.Runs.{LieOutbox, AreNotGone, AreOfRun, IsFor}

-- these are what turns did, one after another
abbrev pub AreOfAll : {T X : Type 0} → (T → List X → Type 0) → List T → List X → Type 0
AreOfAll AreOf [] all = all ≡ []
AreOfAll {T} {X} AreOf (turn ∷ turns) all =
    (first : List X) × (rest : List X) × (all ≡ first ++ rest) × AreOf turn first × AreOfAll AreOf turns rest

module _ {D : Type 0} (g : Ghosts D) where
  -- ---- one outbox

  -- a run of `outbox` that came to its end
  pub record OutboxRun : Type 0 where
    pub task : Task
    pub net : Traffic
    pub net' : Traffic
    pub out : Option (List ℕ)
    pub out' : Option (List ℕ)
    pub old : Parts g
    pub new : Parts g
    pub result : Result (Unit {0}) NotDone

  -- a run that came to its end, or one that was killed after these deeds
  pub data OutboxTurn : Type 0 where
    Whole : OutboxRun → OutboxTurn
    Killed : List Deed → OutboxTurn

  -- It found these files in its place, closed, did its task, as its contract says, is certain at its end, and left
  -- those files. If it made an outbox, that is this filer's.
  pub record IsOutboxRun (filer : List ℕ) (run : OutboxRun) (lying lying' : Option (Option (Files D))) : Type 0 where
    pub closed : run.old.outbox ≡ None
    pub began : run.old.is_certain ≡ true
    pub found : run.old.lying ≡ lying
    pub is_for : IsFor filer run.task
    pub does : Does g run.task run.net run.net' run.out run.out' run.old run.new run.result
    pub certain : run.new.is_certain ≡ true
    pub left : run.new.lying ≡ lying'

  -- what a run left that was killed after these deeds is this filer's outbox to which they lead, if it was made
  abbrev pub LeavesDone : List ℕ → List Deed → Option (Option (Files D)) → Option (Option (Files D)) → Type 0
  LeavesDone filer deeds lying lying' = (it : Contents) → it.filer ≡ filer → LieOutbox g lying it
      → (after : Contents) × AreDone it deeds after × LieOutbox g lying' after × AreNotGone lying lying'

  abbrev pub IsOutboxTurn : List ℕ → OutboxTurn → Option (Option (Files D)) → Option (Option (Files D)) → Type 0
  IsOutboxTurn filer (Whole run) lying lying' = IsOutboxRun filer run lying lying'
  IsOutboxTurn filer (Killed deeds) lying lying' = LeavesDone filer deeds lying lying'

  -- each begins with what the one before it left
  abbrev pub AreOutboxTurns : List ℕ → List OutboxTurn → Option (Option (Files D)) → Option (Option (Files D)) → Type 0
  AreOutboxTurns filer [] lying lying' = lying' ≡ lying
  AreOutboxTurns filer (turn ∷ turns) lying lying' =
      (between : Option (Option (Files D))) × IsOutboxTurn filer turn lying between
      × AreOutboxTurns filer turns between lying'

  -- the deeds are those of its task, on the connections of its network
  abbrev pub AreOfTurn : OutboxTurn → List Deed → Type 0
  AreOfTurn (Whole run) deeds = AreOfRun run.task run.net run.net' (status_by run.result) deeds
  AreOfTurn (Killed some) deeds = deeds ≡ some

  -- ---- all files

  -- what lies in the place of the register, and in the place of each outbox
  pub record Deployment : Type 0 where
    pub register : Option (Option (Files D))
    pub boxes : ℕ → Option (Option (Files D))

  -- no files lie in any place
  abbrev pub bare : Deployment
  bare = record { register = Some None; boxes = λ outbox. Some None }

  -- the files hold what the situation has; what is not made yet has no files
  pub record HoldSituation (deployment : Deployment) (situation : Situation) : Type 0 where
    pub register : LieRequests g deployment.register situation.requests
    pub boxes : (outbox : ℕ) (it : Contents) → numbered situation.outboxes outbox ≡ Some it
        → LieOutbox g (deployment.boxes outbox) it

  -- What happened, behind fronts or without, in one order that keeps each program's own. The files hold what is kept
  -- then, the headline holds of it, and each confirmed entry is in the register once.
  pub record IsOutcome (limit : ℕ) (filers : List (List ℕ)) (old : Situation) (deployment : Deployment) : Type 0 where
    pub passings : List Passing
    pub new : Situation
    pub happen : HappenBehind limit old passings new
    pub hold : HoldSituation deployment new
    pub reached : IsReachedBehind filers limit new
    pub registered : AreRegistered new

module _ {D S N : Type 0} (g : Ghosts D) (s : Streams S N) where
  -- ---- the register

  -- a run of `intake` that came to its end
  pub record IntakeRun : Type 0 where
    pub task : IntakeTask
    pub old : Means g S
    pub new : Means g S
    pub status : ℕ

  -- a run that came to its end, or one that was killed after these services
  pub data IntakeTurn : Type 0 where
    Done : IntakeRun → IntakeTurn
    Stopped : List Service → IntakeTurn

  -- It found these files in its place, closed, and its port, if it has one, was told nothing yet. It did its task, as
  -- its contract says, is certain at its end, and left those files.
  pub record IsIntakeRun (limit : ℕ) (run : IntakeRun) (lying lying' : Option (Option (Files D))) : Type 0 where
    pub closed : run.old.process.intake ≡ None
    pub began : run.old.process.is_certain ≡ true
    pub found : run.old.process.lying ≡ lying
    pub fresh : IfSome run.old.port (Runs s [])
    pub limited : IsLimited limit run.task
    pub performs : Performs s run.task run.old run.new run.status
    pub certain : run.new.process.is_certain ≡ true
    pub left : run.new.process.lying ≡ lying'

  abbrev pub IsIntakeTurn : ℕ → IntakeTurn → Option (Option (Files D)) → Option (Option (Files D)) → Type 0
  IsIntakeTurn limit (Done run) lying lying' = IsIntakeRun limit run lying lying'
  IsIntakeTurn limit (Stopped services) lying lying' = (requests : List Request) → LieRequests g lying requests
      → (after : List Request) × InTurn limit requests services after × LieRequests g lying' after
      × AreNotGone lying lying'

  abbrev pub AreIntakeTurns : ℕ → List IntakeTurn → Option (Option (Files D)) → Option (Option (Files D)) → Type 0
  AreIntakeTurns limit [] lying lying' = lying' ≡ lying
  AreIntakeTurns limit (turn ∷ turns) lying lying' =
      (between : Option (Option (Files D))) × IsIntakeTurn limit turn lying between
      × AreIntakeTurns limit turns between lying'

  -- the services are those of its port, after these requests
  abbrev pub AreOfIntakeTurn : ℕ → List Request → IntakeTurn → List Service → Type 0
  AreOfIntakeTurn limit requests (Done run) services = AreOfPort s limit requests [] run.new.port services
  AreOfIntakeTurn limit requests (Stopped some) services = services ≡ some

  -- these are what turns did, each after the requests that the one before it left
  abbrev pub AreOfIntakeTurns : ℕ → List Request → List IntakeTurn → List Service → Type 0
  AreOfIntakeTurns limit requests [] services = services ≡ []
  AreOfIntakeTurns limit requests (turn ∷ turns) services =
      (first : List Service) × (rest : List Service) × (between : List Request) × (services ≡ first ++ rest)
      × InTurn limit requests first between × AreOfIntakeTurn limit requests turn first
      × AreOfIntakeTurns limit between turns rest

  -- ---- all of them

  -- What these runs did is a list of deeds for each outbox, and of services of the register. In whatever order they
  -- came, with what others wrote between them, they happen, if what each read was written to it or given back by a
  -- front.
  pub record RunsHappen (limit : ℕ) (filers : List (List ℕ)) (intake : List IntakeTurn)
      (outboxes : ℕ → List (OutboxTurn g)) (old : Situation) (before deployment : Deployment g) : Type 0 where
    pub deeds : ℕ → List Deed
    pub are : (outbox : ℕ) (it : Contents) → numbered old.outboxes outbox ≡ Some it
        → AreOfAll (AreOfTurn g) (outboxes outbox) (deeds outbox)
    pub services : List Service
    pub serve : AreOfIntakeTurns limit old.requests intake services
    -- what was made is not gone
    pub register_stays : AreNotGone before.register deployment.register
    pub boxes_stay : (outbox : ℕ) (it : Contents) → numbered old.outboxes outbox ≡ Some it
        → AreNotGone (before.boxes outbox) (deployment.boxes outbox)
    pub happen : (acts : List Act) → ((outbox : ℕ) → deeds_of outbox acts ≡ deeds outbox)
        → services_of acts ≡ services → AreCarried (network_of old) acts
        → IsOutcome g limit filers old deployment

  -- Whatever runs there are of both programs, on files that hold a situation to which such happenings led. What is not
  -- there yet may be made, each outbox for its filer.
  abbrev pub AnyRuns : Type 0
  AnyRuns =
      (limit : ℕ) (filers : List (List ℕ)) (before : List Passing) (situation : Situation) (old new : Deployment g)
      (intake : List IntakeTurn) (outboxes : ℕ → List (OutboxTurn g)) → AreFilers filers → limit ≤ 2 ^ 62
      → HappenBehind limit (at_first filers) before situation → HoldSituation g old situation
      → AreIntakeTurns limit intake old.register new.register
      → ((outbox : ℕ) (it : Contents) → numbered situation.outboxes outbox ≡ Some it
      → AreOutboxTurns g it.filer (outboxes outbox) (old.boxes outbox) (new.boxes outbox))
      → RunsHappen limit filers intake outboxes situation old new

  -- Whatever runs there are of both programs from the first on, each outbox for its filer.
  abbrev pub AnyDeployment : Type 0
  AnyDeployment =
      (limit : ℕ) (filers : List (List ℕ)) (new : Deployment g) (intake : List IntakeTurn)
      (outboxes : ℕ → List (OutboxTurn g)) → AreFilers filers → limit ≤ 2 ^ 62
      → AreIntakeTurns limit intake (bare g).register new.register
      → ((outbox : ℕ) (filer : List ℕ) → numbered filers outbox ≡ Some filer
      → AreOutboxTurns g filer (outboxes outbox) ((bare g).boxes outbox) (new.boxes outbox))
      → RunsHappen limit filers intake outboxes (at_first filers) (bare g) new
