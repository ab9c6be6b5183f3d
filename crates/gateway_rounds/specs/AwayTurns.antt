-- The steps of turning away. No public clause cites this file.
use Rattle.std.specs.Prelude.{◌≡◌, ◌<◌, [], ◌∷◌, ℕ, List, None}
use Rattle.std.specs.List.{AllByRecursion}
use Rattle.connection_hall.specs.declared.stream.Stream.{Ghosts}
use Rattle.connection_hall.specs.Running.{arrival_at}
use Rattle.gateway_rounds.specs.Away.{IsAway}
use Rattle.gateway_rounds.specs.Groups.{places_of, AreOther, InOrder}
use Rattle.gateway_rounds.specs.Ports.{Port}
use Rattle.gateway_rounds.specs.Turns.{Turn, IsBefore, TellsTurns}

-- What waited in a place was turned away.
pub record TurnsPlaceAway {S N : Type 0} (s : Ghosts S N) (place : ℕ) (old new : Port S) : Type 0 where
  pub turn : Turn
  pub there : turn.place ≡ place
  pub tells : TellsTurns s (turn ∷ []) old new
  pub away : IsAway turn

-- Where something waited, in all places before this one, it was turned away.
pub record AnswersAwayUpTo {S N : Type 0} (s : Ghosts S N) (from : ℕ) (old new : Port S) : Type 0 where
  pub turns : List Turn
  pub tells : TellsTurns s turns old new
  pub away : AllByRecursion IsAway turns
  pub order : InOrder (IsBefore 0) (places_of turns)
  pub before : AllByRecursion (λ place. place < from) (places_of turns)
  pub each : (i : ℕ) → i < from → AreOther i (places_of turns) → arrival_at old.hall i ≡ None
