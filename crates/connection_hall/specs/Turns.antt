-- Turns of places, by their marks; own rules.
use Rattle.std.specs.Prelude.{◌≡◌, ℕ, ◌+◌, ◌-◌, ◌<◌, ◌≤◌, Bool, false, List, nat_le, slice_index_or}
use Rattle.std.specs.Prelude.{if◌then◌else◌, count_by}

-- how many of so many places stand before a place, from the next one on and round
abbrev pub wait_from : ℕ → ℕ → ℕ → ℕ
wait_from next most place = if nat_le next place then place - next else (most - next) + place

-- no place from the first one on up to the second has its turn
abbrev pub NoneHasTurn : List Bool → ℕ → ℕ → Type 0
NoneHasTurn turns from place = (i : ℕ) → from ≤ i → i < place → slice_index_or turns i false ≡ false

-- how many places have their turn
abbrev pub count_turns : List Bool → ℕ
count_turns turns = count_by (λ has_turn. has_turn) turns
