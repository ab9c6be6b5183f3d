-- What contracts see of all connections; own rules.
use Rattle.std.specs.Prelude.{◌≡◌, ◌≢◌, ◌⊎◌, ◌≤◌, ◌<◌, ◌+◌, ◌-◌, ◌*◌, ◌||◌, ◌&&◌, ℕ, Bool, true, false, List, []}
use Rattle.std.specs.Prelude.{length, min}
use Rattle.std.specs.Prelude.{max, ◌∷◌}
use Rattle.std.specs.Prelude.{Option, Some, None, IfSome, IsSome, slice_index, slice_index_or, nat_eq, nat_lt}
use Rattle.std.specs.Prelude.{vec_len, if◌then◌else◌}
use Rattle.std.specs.List.{AllByRecursion, sum_by}
use Rattle.http_messages.specs.Message.{Arrival, interim}
use Rattle.connection_hall.specs.declared.hall.Hall.{Hall}
use Rattle.connection_hall.specs.declared.served.Served.{Served}
use Rattle.connection_hall.specs.declared.stream.Stream.{Ghosts}
use Rattle.connection_hall.specs.declared.why.Why.{Why}
use Rattle.connection_hall.specs.declared.why.Why.TheVariants.{Late}
use Rattle.connection_hall.specs.Answers.{Answer}
use Rattle.connection_hall.specs.Bounds.{most_lent as most_lent_of}
use Rattle.connection_hall.specs.Comings.{Gone, Traffic}
use Rattle.connection_hall.specs.Connections.{IsServed, IsWaiting, IsShortOfLoan, IsEnd, HoldsWithin, arrival, MovesOn}
use Rattle.connection_hall.specs.Connections.{has_passed as has_passed_term}
use Rattle.connection_hall.specs.Deadlines.{Awaits, patience, has_passed}
use Rattle.connection_hall.specs.Lending.{lent as lent_of, most_lent, is_short}
use Rattle.connection_hall.specs.Places.{taken_places, numbered, numbered_places, lent, lent_places, owed, owed_places}
use Rattle.connection_hall.specs.Places.{arrival_in, number_in}
use Rattle.connection_hall.specs.Rounds.{has_turn, count, left, wait}
use Rattle.connection_hall.specs.TurnsTaken.{WasServed}

-- the length of the longest text of these answers, with an interim response before it
abbrev pub longest : List Answer → ℕ
longest [] = length interim
longest (answer ∷ answers) = max (length interim + length answer.text) (longest answers)

-- No more is held than may be, with reads of 16,384 bytes, and no more is owed than the longest answer.
pub record IsBounded {S : Type 0} (answers : List Answer) (c : Served S) : Type 0 where
  pub held : HoldsWithin 16384 c
  pub owed : vec_len c.owed ≤ longest answers

-- the connection before which so many came has come
abbrev pub HasCome : {S : Type 0} → Hall S → ℕ → Type 0
HasCome hall number = number + hall.left < hall.bounds.connections

-- The connection can hold no more without a loan, and none is left. When one comes back, it is known that one was
-- short.
abbrev pub IsShort : {S : Type 0} → Hall S → Served S → Type 0
IsShort hall c =
    IsShortOfLoan c × (is_short hall.loans ≡ true) × (lent_of hall.loans ≡ most_lent hall.loans)

-- Why a connection may rest: it waits for the system, and it is known since when; or it is short of a loan while all
-- are lent; or it waits for an answer.
abbrev pub IsResting : {S N : Type 0} → Ghosts S N → Hall S → Served S → Type 0
IsResting s hall c = (IsWaiting s c × IsSome c.since) ⊎ (IsShort hall c ⊎ IsSome (arrival c))

-- A connection that was taken out of its place is served, as in its place.
pub record IsInHand {S N : Type 0} (s : Ghosts S N) (answers : List Answer) (hall : Hall S) (place : ℕ) (c : Served S)
    : Type 0 where
  pub served : IsServed s answers c
  pub watched : s.place c.stream ≡ place
  pub bounded : IsBounded answers c
  pub come : HasCome hall c.number

-- A connection in its place is told its answers, and is watched under this place. Its deadline is noted. And no wake-up
-- is lost: it has its turn, or it rests for a reason.
pub record IsInPlace {S N : Type 0} (s : Ghosts S N) (answers : List Answer) (called : ℕ → Bool) (hall : Hall S)
    (place : ℕ) (c : Served S) : Type 0 where
  pub hand : IsInHand s answers hall place c
  pub noted : Awaits hall.deadlines c.since
  pub awake : (called place ≡ true) ⊎ IsResting s hall c

-- A connection that is over was told its answers, or the first part of their text, and is over for a reason. Its peer
-- was waited for too long only if there is a limit to that, or it has a loan.
pub record WasTold {S N : Type 0} (s : Ghosts S N) (limit : Option ℕ) (answers : List Answer) (gone : Gone S)
    : Type 0 where
  pub c : Served S
  pub stream : c.stream ≡ gone.stream
  pub number : c.number ≡ gone.number
  pub served : WasServed s gone.why answers c
  pub why : IsEnd s gone.why c
  pub late : gone.why ≡ Late → IsSome limit ⊎ IsSome c.loan

-- the one that is over came as the one before which so many came
abbrev pub gone_numbered : {S : Type 0} → ℕ → Gone S → ℕ
gone_numbered number gone = if nat_eq gone.number number then 1 else 0

-- Those that are over were told their answers. Each connection that came is over, or in its place, or in hand, and none
-- is twice; and with those that are still to come, they are as many as come in all.
pub record AreOver {S N : Type 0} (s : Ghosts S N) (answers : List Answer) (hand : Option (Served S)) (hall : Hall S)
    (traffic : Traffic S) : Type 0 where
  pub told : AllByRecursion (WasTold s hall.bounds.patience answers) traffic.over
  pub each : (n : ℕ) → sum_by (gone_numbered n) traffic.over + (numbered_places n hall.places.items + numbered n hand)
      ≡ (if nat_lt n traffic.came then 1 else 0)
  pub in_all : traffic.came + hall.left ≡ hall.bounds.connections

-- The connections of the hall after these answers. One may be in hand. Those that are called have their turn. No more
-- have a loan than may.
pub record AreRunning {S N : Type 0} (s : Ghosts S N) (answers : List Answer) (hand : Option (Served S))
    (called : ℕ → Bool) (hall : Hall S) (traffic : Option (Traffic S)) : Type 0 where
  pub once : (n : ℕ) → numbered_places n hall.places.items + numbered n hand ≤ 1
  pub lent_is : lent_of hall.loans ≡ lent_places hall.places.items + lent hand
  pub most_is : most_lent hall.loans ≡ most_lent_of hall.bounds.memory
  pub counted : min (owed_places hall.places.items + owed hand) 18446744073709551615 ≤ hall.owed
  pub limit : patience hall.deadlines ≡ hall.bounds.patience
  pub numbers : AllByRecursion (λ answer. HasCome hall answer.on) answers
  pub in_place : (i : ℕ) → IfSome (slice_index_or hall.places.items i None) (IsInPlace s answers called hall i)
  pub over : IfSome traffic (AreOver s answers hand hall)

-- which places have their turn
abbrev pub turns : {S : Type 0} → Hall S → ℕ → Bool
turns hall = has_turn hall.round

abbrev pub IsRunning : {S N : Type 0} → Ghosts S N → List Answer → Hall S → Option (Traffic S) → Type 0
IsRunning s answers hall traffic = AreRunning s answers None (turns hall) hall traffic

-- no connection came yet
abbrev pub IsEmpty : {S : Type 0} → Option (Traffic S) → Type 0
IsEmpty traffic = IfSome traffic (λ known. (known.came ≡ 0) × (known.over ≡ []))

-- whether no connection comes any more: none is left to come, and none is in a place
abbrev pub is_shut : {S : Type 0} → Hall S → Bool
is_shut hall = nat_eq (hall.left + taken_places hall.places.items) 0

-- what is to be answered in a place, and on which connection
abbrev pub arrival_at : {S : Type 0} → Hall S → ℕ → Option Arrival
arrival_at hall place = arrival_in (slice_index_or hall.places.items place None)

abbrev pub number_at : {S : Type 0} → Hall S → ℕ → ℕ
number_at hall place = number_in (slice_index_or hall.places.items place None)

-- the round is over, or no place has its turn
abbrev pub IsOver : {S : Type 0} → Hall S → Type 0
IsOver hall = (left hall.round ≡ 0) ⊎ ((i : ℕ) → turns hall i ≡ false)

-- The place was given its turn, and one turn of the round less is left. Each other place that had its turn has it
-- still, and waits for fewer gives than before.
pub record GivesOne {S : Type 0} (old new : Hall S) (place : ℕ) : Type 0 where
  pub had : turns old place ≡ true
  pub kept : (i : ℕ) → i ≢ place → turns old i ≡ true → turns new i ≡ true
  pub nearer : (i : ℕ) → i ≢ place → i < count old.round → turns old i ≡ true
      → wait new.round i < wait old.round i
  pub left : left new.round + 1 ≡ left old.round

-- A connection went on: bytes came, or the end of its input, or the interim response became early; or it has a loan
-- now;
-- or it rests for a reason.
abbrev pub Advances : {S N : Type 0} → Ghosts S N → Hall S → Served S → Served S → Type 0
Advances s hall old new =
    MovesOn old new ⊎ (((old.loan ≡ None) × IsSome new.loan) ⊎ IsResting s hall new)

-- what was in a place, and owed nothing, went on, or is over
abbrev pub GoesOn : {S N : Type 0} → Ghosts S N → Hall S → Option (Served S) → Option (Served S) → Type 0
GoesOn s hall None slot = Unit {0}
GoesOn s hall (Some c) slot = c.owed.items ≡ [] → IfSome slot (Advances s hall c)

-- each of these places that has a connection has its turn
abbrev pub AreCalled : {S : Type 0} → List ℕ → Hall S → Type 0
AreCalled named hall =
    (k : ℕ) → k < length named → IsSome (slice_index_or hall.places.items (slice_index named k) None)
    → turns hall (slice_index named k) ≡ true

-- No place that is taken becomes free, or loses its turn, or waits longer for it.
pub record DelaysNone {S : Type 0} (old new : Hall S) : Type 0 where
  pub taken : (i : ℕ) → IsSome (slice_index_or old.places.items i None)
      → IsSome (slice_index_or new.places.items i None)
  pub turns : (i : ℕ) → IsSome (slice_index_or old.places.items i None) → turns old i ≡ true → turns new i ≡ true
  pub waits : (i : ℕ) → IsSome (slice_index_or old.places.items i None) → wait new.round i ≤ wait old.round i

-- each other place has what it had
abbrev pub KeepsOtherPlaces : {S : Type 0} → ℕ → Hall S → Hall S → Type 0
KeepsOtherPlaces place old new =
    (i : ℕ) → i ≢ place → slice_index_or new.places.items i None ≡ slice_index_or old.places.items i None

-- each other place that is called has its turn
abbrev pub KeepsOthers : ℕ → (ℕ → Bool) → (ℕ → Bool) → Type 0
KeepsOthers place called turns = (i : ℕ) → i ≢ place → called i ≡ true → turns i ≡ true

-- nothing is changed but what places have and which have their turn, and which deadlines are noted
pub record KeepsAll {S : Type 0} (old new : Hall S) : Type 0 where
  pub bounds : new.bounds ≡ old.bounds
  pub left : new.left ≡ old.left
  pub loans : new.loans ≡ old.loans
  pub owed : new.owed ≡ old.owed
  pub len : length new.places.items ≡ length old.places.items
  pub count : count new.round ≡ count old.round

-- the peer of a connection was waited for as long as the patience is, or as its loan is given while others are short
abbrev pub is_late_by : {S : Type 0} → Option ℕ → Bool → Option (Served S) → ℕ → Bool
is_late_by limit are_short None now = false
is_late_by limit are_short (Some c) now = has_passed limit c.since now || are_short && has_passed_term c now

abbrev pub is_late_at : {S : Type 0} → Hall S → Option (Served S) → ℕ → Bool
is_late_at hall slot now = is_late_by (patience hall.deadlines) (is_short hall.loans) slot now

abbrev pub is_late : {S : Type 0} → Hall S → Served S → ℕ → Bool
is_late hall c now = is_late_at hall (Some c) now

-- a connection may be over: it was told its answers, or a first part, and there is a reason
pub record MayEnd {S N : Type 0} (s : Ghosts S N) (answers : List Answer) (hall : Hall S) (why : Why) (c : Served S)
    : Type 0 where
  pub served : WasServed s why answers c
  pub why_is : IsEnd s why c
  pub late : why ≡ Late → IsSome hall.bounds.patience ⊎ IsSome c.loan
  pub come : HasCome hall c.number

-- a wait from now on, of so many nanoseconds, ends no later than at the moment at which a peer was waited for too long
abbrev pub EndsInTime : {S : Type 0} → Hall S → ℕ → ℕ → Type 0
EndsInTime hall now nanos =
    (i late : ℕ) → is_late_at hall (slice_index_or hall.places.items i None) late ≡ true
    → nanos ≤ (late - now) * 1000000

-- each place whose peer was waited for too long by now has its turn
abbrev pub AreLateCalled : {S : Type 0} → Hall S → ℕ → Type 0
AreLateCalled hall now =
    (i : ℕ) → is_late_at hall (slice_index_or hall.places.items i None) now ≡ true → turns hall i ≡ true

-- No peer is kept waiting: the place has its turn, or waits for an answer, or its peer was not waited for too long by
-- now.
abbrev pub IsInTime : {S : Type 0} → Hall S → ℕ → ℕ → Type 0
IsInTime hall place now =
    (turns hall place ≡ true) ⊎ (IsSome (arrival_at hall place)
    ⊎ (is_late_at hall (slice_index_or hall.places.items place None) now ≡ false))
