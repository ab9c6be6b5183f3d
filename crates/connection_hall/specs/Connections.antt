-- What contracts see of one connection; own rules.
use Rattle.std.specs.Prelude.{◌≡◌, ◌⊎◌, ℕ, ◌+◌, ◌<◌, ◌≤◌, Bool, true, false, List, [], ◌++◌, length}
use Rattle.std.specs.Prelude.{Option, Some, None, IfSome, is_none, nat_le, ◌&&◌, if◌then◌else◌}
use Rattle.std.specs.Option.{option_map_or}
use Rattle.http_messages.specs.Message.{Arrival, IsRest, Asks, interim}
use Rattle.http_connection.specs.Connection.{held, lent, is_over, has_ended, HasFinished, max_request_len}
use Rattle.connection_hall.specs.declared.loan.Loan.{Loan}
use Rattle.connection_hall.specs.declared.ready.Ready.{Ready}
use Rattle.connection_hall.specs.declared.served.Served.{Served}
use Rattle.connection_hall.specs.declared.stream.Stream.{Ghosts}
use Rattle.connection_hall.specs.declared.why.Why.{Why}
use Rattle.connection_hall.specs.declared.why.Why.TheVariants.{Done, Broken, NoMemory, Late}
use Rattle.connection_hall.specs.Answers.{Answer, own, arrivals_on, text_on, EndsBy}
use Rattle.connection_hall.specs.Loans.{term_of}
use Rattle.connection_hall.specs.Ready.{arrival_of, StandsFirst}

-- the bytes of a connection that came and were not answered
abbrev pub held_by : {S : Type 0} → Served S → List ℕ
held_by c = held c.machine

-- what is to be answered on a connection
abbrev pub arrival : {S : Type 0} → Served S → Option Arrival
arrival c = arrival_of c.ready (lent c.machine)

-- the interim response, if it went before
abbrev pub early_text : Bool → List ℕ
early_text is_early = if is_early then interim else []

-- what is held is less than a request, and the interim response that it asks for went, or is owed
pub record HoldsRest {S : Type 0} (c : Served S) : Type 0 where
  pub rest : IsRest (held_by c)
  pub interim : Asks (held_by c) true → c.is_early ≡ true

-- this stands first in what is held; before it is answered, nothing else is owed
pub record IsReady {S : Type 0} (c : Served S) (ready : Ready) : Type 0 where
  pub next : StandsFirst c.machine ready
  pub owes_nothing : c.owed.items ≡ []
  pub open_still : c.is_closing ≡ false

-- Of these answers the connection was told its own: if it is known what came on it, these are its arrivals, and the
-- rest
-- is held; if it is known what went, it is their text, with the interim response that the next one asks for, if that
-- is early. The last of this is what is owed.
pub record IsTold {S : Type 0} (came went : Option (List ℕ)) (is_ended : Bool) (answers : List Answer) (c : Served S)
    : Type 0 where
  pub bytes : List ℕ
  pub read : HasFinished bytes (arrivals_on c.number answers) c.machine
  pub came_is : IfSome came (λ known. known ≡ bytes)
  pub went_is : IfSome went (λ known. known ++ c.owed.items ≡ text_on c.number answers ++ early_text c.is_early)
  pub ends : EndsBy (own c.number answers) c.is_closing
  pub over : is_over c.machine ≡ true → c.is_closing ≡ true
  pub shut : c.is_closing ≡ true → c.is_early ≡ false
  pub ended : has_ended c.machine ≡ is_ended
  pub rest : has_ended c.machine ≡ true → HoldsRest c
  pub early : c.is_early ≡ true → Asks (held_by c) true
  pub ready : IfSome c.ready (IsReady c)

-- the connection was told its answers, of all that came on it
abbrev pub IsServed : {S N : Type 0} → Ghosts S N → List Answer → Served S → Type 0
IsServed s answers c = IsTold (s.came c.stream) (s.went c.stream) (s.is_ended c.stream) answers c

-- the connection was told its answers, of the first bytes that came on it
abbrev pub IsCutOff : {S N : Type 0} → Ghosts S N → List Answer → Served S → Type 0
IsCutOff s answers c =
    (first : List ℕ) × IfSome (s.came c.stream) (λ known. (rest : List ℕ) × (known ≡ first ++ rest))
    × IsTold (Some first) (s.went c.stream) (s.is_ended c.stream) answers c

-- how many bytes a connection holds at most if reads are of so many: with a loan a request, and without one 16,384
-- bytes and one read
abbrev pub most_held : Option Loan → ℕ → ℕ
most_held None read = 16384 + read
most_held (Some loan) read = max_request_len

-- it holds no more than it may
abbrev pub HoldsWithin : {S : Type 0} → ℕ → Served S → Type 0
HoldsWithin read c = length (held_by c) ≤ most_held c.loan read

-- its number and place, its loan, and whether it is over once nothing is owed, stay as they were
pub record KeepsStanding {S N : Type 0} (s : Ghosts S N) (old new : Served S) : Type 0 where
  pub number : new.number ≡ old.number
  pub place : s.place new.stream ≡ s.place old.stream
  pub loan : new.loan ≡ old.loan
  pub closing : new.is_closing ≡ old.is_closing

-- No byte that is held is dropped, no end of the input is forgotten, and no interim response that went. The peer of a
-- connection is waited for from the same moment on while nothing is held, and while more of a request comes. Once the
-- first bytes of a request came, it is waited for anew.
pub record Grows {S : Type 0} (old new : Served S) : Type 0 where
  pub held : length (held_by old) ≤ length (held_by new)
  pub ended : has_ended old.machine ≡ true → has_ended new.machine ≡ true
  pub early : old.is_early ≡ true → new.is_early ≡ true
  pub idle : length (held_by new) ≡ 0 → new.since ≡ old.since
  pub first : length (held_by old) ≡ 0 → 0 < length (held_by new) → new.since ≡ None
  pub more : 0 < length (held_by old) → new.since ≡ old.since

-- bytes came, or the end of the input, or the interim response became early
abbrev pub MovesOn : {S : Type 0} → Served S → Served S → Type 0
MovesOn old new =
    (length (held_by old) < length (held_by new))
    ⊎ (((has_ended old.machine ≡ false) × (has_ended new.machine ≡ true))
    ⊎ ((old.is_early ≡ false) × (new.is_early ≡ true)))

-- it has a loan whose term has passed, and nothing on it is to be answered
abbrev pub has_passed : {S : Type 0} → Served S → ℕ → Bool
has_passed c now =
    is_none c.ready && option_map_or (λ loan. nat_le (term_of loan (length (held_by c))) now) c.loan false

-- it owes nothing, or its last write took less than it was given
abbrev pub HasWritten : {S N : Type 0} → Ghosts S N → Served S → Type 0
HasWritten s c = (c.owed.items ≡ []) ⊎ (s.is_stuck c.stream ≡ true)

-- it is open, owes nothing, and needs more bytes
pub record NeedsMore {S : Type 0} (c : Served S) : Type 0 where
  pub owes_nothing : c.owed.items ≡ []
  pub none_ready : c.ready ≡ None
  pub open_still : c.is_closing ≡ false
  pub goes_on : has_ended c.machine ≡ false
  pub rest : HoldsRest c
  pub short : length (held_by c) < max_request_len

-- The connection can do nothing before the system says that it may: what it owes was not all taken, or it needs more
-- bytes, and nothing was there to be read.
abbrev pub IsWaiting : {S N : Type 0} → Ghosts S N → Served S → Type 0
IsWaiting s c =
    ((0 < length c.owed.items) × (s.is_stuck c.stream ≡ true)) ⊎ (NeedsMore c × (s.is_idle c.stream ≡ true))

-- The connection may hold no more without a loan: it needs more bytes, and holds as much as it may.
pub record IsShortOfLoan {S : Type 0} (c : Served S) : Type 0 where
  pub needs_more : NeedsMore c
  pub not_lent : c.loan ≡ None
  pub full : 16384 ≤ length (held_by c)

-- Why a connection is over: nothing is owed, and it was closed, or its input has ended and all arrivals were answered;
-- or a write failed; or its peer was waited for: nothing was there at its last read, or its last write took less than
-- it was given. Of a want of memory nothing is said.
abbrev pub IsEnd : {S N : Type 0} → Ghosts S N → Why → Served S → Type 0
IsEnd s Done c =
    (c.owed.items ≡ []) × ((c.is_closing ≡ true) ⊎ ((s.is_ended c.stream ≡ true) × HoldsRest c))
IsEnd s Broken c = s.is_broken c.stream ≡ true
IsEnd s NoMemory c = Unit {0}
IsEnd s Late c = (s.is_idle c.stream ≡ true) ⊎ (s.is_stuck c.stream ≡ true)
