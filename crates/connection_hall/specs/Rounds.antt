-- Turns that go round; own rules.
use Rattle.std.specs.Prelude.{◌≡◌, ◌≢◌, ◌<◌, ◌+◌, ℕ, Bool, true, false, List, length, slice_index_or}
use Rattle.connection_hall.specs.Turns.{wait_from, count_turns}
use Rattle.connection_hall.specs.declared.round.Round.{Round}

abbrev pub turns : Round → List Bool
turns round = round.has_turn.items

-- how many places there are, and how many there may be
abbrev pub count : Round → ℕ
count round = length (turns round)

abbrev pub most : Round → ℕ
most round = round.most

abbrev pub has_turn : Round → ℕ → Bool
has_turn round place = slice_index_or (turns round) place false

-- how many places have their turn
abbrev pub called : Round → ℕ
called round = count_turns (turns round)

-- how many turns are given before the round is over
abbrev pub left : Round → ℕ
left round = round.left

-- for how many gives a place waits at most, however many places come
abbrev pub wait : Round → ℕ → ℕ
wait round place = wait_from round.next (most round) place

-- No turn is taken, and no place waits longer.
pub record KeepsTurns (old new : Round) : Type 0 where
  pub turns : (i : ℕ) → has_turn old i ≡ true → has_turn new i ≡ true
  pub waits : (i : ℕ) → wait new i ≡ wait old i
  pub count : count new ≡ count old
  pub most : most new ≡ most old
  pub left : left new ≡ left old

-- The turn of a place is given. Each other place that has its turn keeps it, and waits for fewer gives than before.
pub record GivesTurn (old new : Round) (place : ℕ) : Type 0 where
  pub had : has_turn old place ≡ true
  pub within : place < count old
  pub taken : has_turn new place ≡ false
  pub others : (i : ℕ) → i ≢ place → has_turn new i ≡ has_turn old i
  pub nearer : (i : ℕ) → i ≢ place → i < count old → has_turn old i ≡ true → wait new i < wait old i
  pub left : left new + 1 ≡ left old
  pub count : count new ≡ count old
  pub most : most new ≡ most old
