-- Until when peers are waited for; own rules.
use Rattle.std.specs.Prelude.{ℕ, ◌+◌, ◌≤◌, Bool, false, Option, Some, None, nat_le}
use Rattle.connection_hall.specs.declared.deadlines.Deadlines.{Deadlines}

abbrev pub patience : Deadlines → Option ℕ
patience deadlines = deadlines.patience

-- a peer that is waited for since this moment was waited for as long as the patience is
abbrev pub has_passed : Option ℕ → Option ℕ → ℕ → Bool
has_passed None since now = false
has_passed (Some patience) None now = false
has_passed (Some patience) (Some since) now = nat_le (since + patience) now

-- the moment is not before the first one, if there is one
abbrev pub IsFrom : Option ℕ → ℕ → Type 0
IsFrom None moment = ⊥
IsFrom (Some first) moment = first ≤ moment

-- the deadline is noted of a peer that is waited for since this moment, if it is
abbrev pub AwaitsBy : Option ℕ → Option ℕ → Option ℕ → Type 0
AwaitsBy None soonest since = Unit {0}
AwaitsBy (Some patience) soonest None = Unit {0}
AwaitsBy (Some patience) soonest (Some since) = IsFrom soonest (since + patience)

abbrev pub Awaits : Deadlines → Option ℕ → Type 0
Awaits deadlines since = AwaitsBy deadlines.patience deadlines.soonest since
