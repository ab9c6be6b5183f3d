-- What a connection did with its turn; own rules.
use Rattle.std.specs.Prelude.{◌≢◌, List, IsSome}
use Rattle.connection_hall.specs.declared.served.Served.{Served}
use Rattle.connection_hall.specs.declared.stream.Stream.{Ghosts}
use Rattle.connection_hall.specs.declared.turn.Turn.{Turn}
use Rattle.connection_hall.specs.declared.turn.Turn.TheVariants.{Again, Waits, Short, Ready, Over}
use Rattle.connection_hall.specs.declared.why.Why.{Why}
use Rattle.connection_hall.specs.declared.why.Why.TheVariants.{Done, Broken, NoMemory, Late}
use Rattle.connection_hall.specs.Answers.{Answer}
use Rattle.connection_hall.specs.Connections.{IsServed, IsCutOff, IsWaiting, IsShortOfLoan, IsEnd, arrival}

-- what a connection that is over was told: a first part, if there was no memory for what came
abbrev pub WasServed : {S N : Type 0} → Ghosts S N → Why → List Answer → Served S → Type 0
WasServed s Done answers c = IsServed s answers c
WasServed s Broken answers c = IsServed s answers c
WasServed s NoMemory answers c = IsCutOff s answers c
WasServed s Late answers c = IsServed s answers c

-- After its turn the connection is told its answers; it waits only if it can do nothing, is ready only if something is
-- to be answered, and is over only for a reason other than that its peer was waited for.
abbrev pub IsAfterTurn : {S N : Type 0} → Ghosts S N → List Answer → Turn → Served S → Type 0
IsAfterTurn s answers Again c = IsServed s answers c
IsAfterTurn s answers Waits c = IsServed s answers c × IsWaiting s c
IsAfterTurn s answers Short c = IsServed s answers c × IsShortOfLoan c
IsAfterTurn s answers Ready c = IsServed s answers c × IsSome (arrival c)
IsAfterTurn s answers (Over why) c = WasServed s why answers c × IsEnd s why c × (why ≢ Late)

-- nothing is ready
abbrev pub IsNotReady : Turn → Type 0
IsNotReady Again = Unit {0}
IsNotReady Waits = Unit {0}
IsNotReady Short = Unit {0}
IsNotReady Ready = ⊥
IsNotReady (Over why) = Unit {0}
