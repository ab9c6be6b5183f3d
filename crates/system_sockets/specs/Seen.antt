-- What contracts see of the sockets of this machine.
use Rattle.std.specs.Prelude.{ℕ, Bool, List, map}
use Rattle.mio.specs.Event.{event_token}
use Rattle.mio.specs.declared.event.event.Event.{Event}

-- the bytes that were noted
abbrev pub bytes_in : List (ℕ × Bool) → List ℕ
bytes_in noted = map (λ one. one.0) noted

-- the tokens of what may go on: of a connection its place, of the listener the largest number
abbrev pub tokens_in : List Event → List ℕ
tokens_in events = map (λ event. (event_token event).0) events
