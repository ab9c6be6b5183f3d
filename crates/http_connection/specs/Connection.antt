-- What contracts see of a connection without its input and output, and which event comes next on it.
use Rattle.std.specs.Prelude.{◌≡◌, ◌⊎◌, ◌<◌, ℕ, ◌+◌, Bool, true, false, List, [], Option, Some, None, length}
use Rattle.std.specs.Option.{ForSome, option_map_or}
use Rattle.std.specs.Prelude.{nat_le, is_some, if◌then◌else◌}
use Rattle.http_messages.specs.Head.{max_body_len, closes}
use Rattle.http_messages.specs.Block.{max_block_len}
use Rattle.http_messages.specs.Message.{Arrival, Ending, Rest, ArrivalsThen, BeginsRequest, IsRefused, IsRest}
use Rattle.http_messages.specs.Message.{Asks, awaits}
use Rattle.http_messages.specs.Request.{Request as Message}
use Rattle.http_connection.specs.declared.connection.Connection.{Connection}
use Rattle.http_connection.specs.declared.event.Event.{Event}
use Rattle.http_connection.specs.declared.event.Event.TheVariants.{Request, Refused, NeedData, ConnectionClosed}
use Rattle.http_connection.specs.declared.parsed.Parsed.{Parsed}
use Rattle.http_connection.specs.Buffer.{buffered, memory as buffer_memory, spare as buffer_spare}
use Rattle.http_connection.specs.Parsed.{parsed_end, parsed_request, IsHeadOf}

-- the bytes that came and belong to no request that was finished
abbrev pub held : Connection → List ℕ
held c = buffered c.held

-- for how many bytes there is memory
abbrev pub memory : Connection → ℕ
memory c = buffer_memory c.held

-- for how many more bytes there is room
abbrev pub spare : Connection → ℕ
spare c = buffer_spare c.held

-- the head that begins the bytes was parsed
abbrev pub has_head : Connection → Bool
has_head c = is_some c.parsed

-- nothing comes any more
abbrev pub has_ended : Connection → Bool
has_ended c = c.has_ended

-- nothing is told any more
abbrev pub is_over : Connection → Bool
is_over c = c.is_over

-- the request of a head, if its whole body is there
abbrev pub lent_in : List ℕ → Option Parsed → Option Message
lent_in bytes None = None
lent_in bytes (Some p) = if nat_le (parsed_end p) (length bytes) then Some (parsed_request bytes p) else None

-- the request that is lent
abbrev pub lent : Connection → Option Message
lent c = lent_in (held c) c.parsed

-- how long it is, whether it asks for an interim response before its body, and whether nothing follows it
abbrev pub lent_len : Connection → ℕ
lent_len c = if is_some (lent c) then option_map_or parsed_end c.parsed 0 else 0

abbrev pub lent_awaits : Connection → Bool
lent_awaits c = option_map_or (λ request. awaits request.head) (lent c) false

abbrev pub lent_closes : Connection → Bool
lent_closes c = option_map_or (λ request. closes request.head) (lent c) false

-- nothing came, and the connection is open
pub record IsNew (c : Connection) : Type 0 where
  pub held_is : held c ≡ []
  pub more : is_over c ≡ false
  pub goes_on : has_ended c ≡ false
  pub no_head : has_head c ≡ false

-- this is left, and requests may follow
abbrev pub Leaves : List ℕ → List ℕ → Ending → Type 0
Leaves left bytes ending = (bytes ≡ left) × (ending ≡ Rest false)

-- how the arrivals end so far
abbrev pub ending_by : Bool → Ending
ending_by true = Ending.Closed
ending_by false = Rest false

-- the head that was parsed begins the bytes that are held
pub record IsSound (c : Connection) : Type 0 where
  pub head : ForSome c.parsed (IsHeadOf (held c))

-- Of all bytes that came, these arrivals were finished, one after another, and what follows them is held. The
-- connection is over if the last of them closes.
pub record HasFinished (came : List ℕ) (arrivals : List Arrival) (c : Connection) : Type 0 where
  pub splits : ArrivalsThen (Leaves (held c)) came arrivals (ending_by (is_over c))
  pub sound : IsSound c

-- no request is longer: the CRLF that is skipped before it, its head and its body
abbrev pub max_request_len : ℕ
max_request_len = 2 + max_block_len + max_body_len

-- the request that is lent begins the bytes that are held
pub record LendsFirst (c : Connection) : Type 0 where
  pub request : Message
  pub lends : lent c ≡ Some request
  pub begins : BeginsRequest (held c) request (lent_len c)

-- the connection is open, and what is held is less than a request; `awaits` is whether it asks for an interim response
pub record CanWait (c : Connection) (awaits : Bool) : Type 0 where
  pub more : is_over c ≡ false
  pub rest : IsRest (held c)
  pub asks : Asks (held c) awaits
  pub short : length (held c) < max_request_len

-- What comes next on a connection.
abbrev pub TellsNext : Connection → Event → Type 0
TellsNext c Request = (is_over c ≡ false) × LendsFirst c
TellsNext c (Refused refusal) = (is_over c ≡ false) × IsRefused (held c) refusal
TellsNext c (NeedData awaits) = (has_ended c ≡ false) × CanWait c awaits
TellsNext c ConnectionClosed = (is_over c ≡ true) ⊎ ((has_ended c ≡ true) × IsRest (held c))

-- nothing is changed but where the bytes are held
pub record KeepsState (old new : Connection) : Type 0 where
  pub bytes : held new ≡ held old
  pub parsed : new.parsed ≡ old.parsed
  pub over : is_over new ≡ is_over old
  pub ended : has_ended new ≡ has_ended old
