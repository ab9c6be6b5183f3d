-- What is counted of the connections in places; own rules.
use Rattle.std.specs.Prelude.{ℕ, Bool, false, List, Option, Some, None, vec_len, nat_eq, is_some, if◌then◌else◌}
use Rattle.std.specs.List.{sum_by}
use Rattle.http_messages.specs.Message.{Arrival}
use Rattle.connection_hall.specs.declared.served.Served.{Served}
use Rattle.connection_hall.specs.Connections.{arrival, has_passed}

-- how many connections are in a place, and in these
abbrev pub taken : {S : Type 0} → Option (Served S) → ℕ
taken None = 0
taken (Some c) = 1

abbrev pub taken_places : {S : Type 0} → List (Option (Served S)) → ℕ
taken_places places = sum_by taken places

-- how many of them came as the one before which so many came
abbrev pub numbered : {S : Type 0} → ℕ → Option (Served S) → ℕ
numbered number None = 0
numbered number (Some c) = if nat_eq c.number number then 1 else 0

abbrev pub numbered_places : {S : Type 0} → ℕ → List (Option (Served S)) → ℕ
numbered_places number places = sum_by (numbered number) places

-- how many bytes are owed to the connection in a place, and to those in these
abbrev pub owed : {S : Type 0} → Option (Served S) → ℕ
owed None = 0
owed (Some c) = vec_len c.owed

abbrev pub owed_places : {S : Type 0} → List (Option (Served S)) → ℕ
owed_places places = sum_by owed places

-- whether the connection in a place has a loan, and how many of these have one
abbrev pub lent : {S : Type 0} → Option (Served S) → ℕ
lent None = 0
lent (Some c) = if is_some c.loan then 1 else 0

abbrev pub lent_places : {S : Type 0} → List (Option (Served S)) → ℕ
lent_places places = sum_by lent places

-- what is to be answered in a place
abbrev pub arrival_in : {S : Type 0} → Option (Served S) → Option Arrival
arrival_in None = None
arrival_in (Some c) = arrival c

-- the number of the connection in a place
abbrev pub number_in : {S : Type 0} → Option (Served S) → ℕ
number_in None = 0
number_in (Some c) = c.number

-- from when on the peer of the connection in a place is waited for
abbrev pub since_of : {S : Type 0} → Option (Served S) → Option ℕ
since_of None = None
since_of (Some c) = c.since

-- the connection in a place has a loan whose term has passed, and nothing on it is to be answered
abbrev pub has_passed_in : {S : Type 0} → Option (Served S) → ℕ → Bool
has_passed_in None now = false
has_passed_in (Some c) now = has_passed c now
