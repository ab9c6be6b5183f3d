-- What a round does: what waits in a port is answered, and what is new is kept with one commit; own rules.
use Rattle.std.specs.Prelude.{◌≡◌, ◌⊎◌, ◌<◌, ◌≤◌, ◌+◌, ◌++◌, ℕ, List, Option, Some, None, IsSome, length}
use Rattle.std.specs.List.{AllByRecursion, sum_by}
use Rattle.sqlite.specs.Store.{Ghosts as Disk}
use Rattle.http_messages.specs.Message.{Arrival, Read, Refused}
use Rattle.connection_hall.specs.declared.hall.Hall.{Hall}
use Rattle.connection_hall.specs.declared.stream.Stream.{Ghosts}
use Rattle.connection_hall.specs.Running.{arrival_at}
use Rattle.filing_model.specs.Request.{Request}
use Rattle.filing_model.specs.Steps.{Step}
use Rattle.filing_model.specs.Text.{FileReport, route}
use Rattle.intake_core.specs.declared.intake.Intake.{Intake}
use Rattle.intake_core.specs.Held.{IsTransition, KeepsSetting, limit_of}
use Rattle.gateway_rounds.specs.Ports.{Port}
use Rattle.gateway_rounds.specs.Turns.{Turn, AreElsewhere, AreInOrder, DecidesTurns, IsBefore, LooksUpTurns, TellsTurns}

-- it asks for a report to be filed
abbrev pub arrival_asks_to_file : Arrival → Type 0
arrival_asks_to_file (Read message) = (r : Request) × (route message ≡ FileReport r)
arrival_asks_to_file (Refused refusal) = ⊥

-- the step, if it was decided, asks for a report to be filed
abbrev pub asks_to_file : Option Step → Type 0
asks_to_file None = Unit {0}
asks_to_file (Some step) = arrival_asks_to_file step.arrival

-- how long the body of what waits in a place is
abbrev pub body_len : Option Arrival → ℕ
body_len None = 0
body_len (Some (Read message)) = length message.body
body_len (Some (Refused refusal)) = 0

abbrev pub body_len_at : {S : Type 0} → Hall S → ℕ → ℕ
body_len_at hall place = body_len (arrival_at hall place)

-- There is no room for what waits in this place beside the turns that are kept with one commit: they are 64, or their
-- bodies and this one have more than 4 MiB together.
abbrev pub IsFullFor : {S : Type 0} → Hall S → List Turn → ℕ → Type 0
IsFullFor hall turns place =
    (64 ≤ length turns) ⊎ (4194304 < sum_by (λ turn. body_len_at hall turn.place) turns + body_len_at hall place)

-- What waits in this place found no room, when it was looked at, beside the first of these turns.
pub record FoundNoRoom {S : Type 0} (from : ℕ) (hall : Hall S) (turns : List Turn) (place : ℕ) : Type 0 where
  pub first : List Turn
  pub rest : List Turn
  pub are : turns ≡ first ++ rest
  pub before : AllByRecursion (λ turn. IsBefore from turn.place place) first
  pub full : IsFullFor hall first place

-- it waits in this place, and has none of these turns
pub record IsLeft {S : Type 0} (hall : Hall S) (turns : List Turn) (place : ℕ) : Type 0 where
  pub elsewhere : AreElsewhere place turns
  pub waits : IsSome (arrival_at hall place)

-- What a round does. It looks at the places in order, from where the round before said, and round. First it answers
-- what needs no commit, and nothing is kept by then: in `mid` all of this is owed or written. Then it answers what asks
-- for a report to be filed, after the same requests that were held at first.
pub record AnswersRound {S N D : Type 0} (s : Ghosts S N) (g : Disk D) (old new : Port S) (intake intake' : Intake D)
    : Type 0 where
  pub at_once : List Turn
  pub filed : List Turn
  pub mid : Port S
  pub intake_mid : Intake D
  pub first : LooksUpTurns s g at_once old mid intake intake_mid
  pub second : TellsTurns s filed mid new
  pub files : IsTransition g intake intake' (λ old_style before after.
      DecidesTurns (limit_of intake) old_style before after filed)
  pub setting : KeepsSetting g intake_mid intake'
  pub asks : AllByRecursion (λ turn. asks_to_file turn.step) filed
  pub in_order : AreInOrder old.next at_once × AreInOrder old.next filed
  pub apart : AllByRecursion (λ turn. AreElsewhere turn.place at_once) filed
  -- No more are kept with one commit than may be.
  pub within : (length filed ≤ 64) × (sum_by (λ turn. body_len_at old.hall turn.place) filed ≤ 4194304)
  -- What waits and has no turn found no room. The first one of these is the first that the next round looks at, so each
  -- has its turn some time.
  pub each : (i : ℕ) → AreElsewhere i (at_once ++ filed)
      → (arrival_at old.hall i ≡ None) ⊎ FoundNoRoom old.next old.hall filed i
  pub next : (i : ℕ) → IsLeft old.hall (at_once ++ filed) i
      → IsLeft old.hall (at_once ++ filed) new.next × ((new.next ≡ i) ⊎ IsBefore old.next new.next i)
