-- What is known of the connections of some sockets: which came, and which are over; own rules.
use Rattle.std.specs.Prelude.{◌≡◌, ℕ, ◌+◌, List, [], ◌∷◌, ◌++◌, Option, Some, None, Result, Ok, Err, option_map}
use Rattle.connection_hall.specs.declared.stream.Stream.{Ghosts}
use Rattle.connection_hall.specs.declared.why.Why.{Why}
use Rattle.connection_hall.specs.Arriving.{IsFresh}

-- a connection that is over, how many came before it, and why it is over
pub record Gone (S : Type 0) : Type 0 where
  pub stream : S
  pub number : ℕ
  pub why : Why

-- the connections of some sockets: how many came, and those that are over, in the order in which they ended
pub record Traffic (S : Type 0) : Type 0 where
  pub came : ℕ
  pub over : List (Gone S)

-- a connection came
abbrev pub one_came : {S : Type 0} → Traffic S → Traffic S
one_came traffic = record { came = traffic.came + 1; over = traffic.over }

-- a connection is over
abbrev pub one_over : {S : Type 0} → S → ℕ → Why → Traffic S → Traffic S
one_over stream number why traffic =
    record { came = traffic.came; over = traffic.over ++ record { stream = stream; number = number; why = why } ∷ [] }

-- One came, which is watched under this place, and of which nothing is known to have been read or written; or none did.
abbrev pub Arrives : {S N E : Type 0} → Ghosts S N → ℕ → Option (Traffic S) → Option (Traffic S)
    → Result (Option S) E → Type 0
Arrives s place before after (Ok (Some stream)) =
    IsFresh s stream × (s.place stream ≡ place) × (after ≡ option_map one_came before)
Arrives s place before after (Ok None) = after ≡ before
Arrives s place before after (Err error) = after ≡ before
