-- That a target is the number of a filing has one proof at most, so a struct may hold it as a fact.
use Rattle.std.specs.Prelude.{ℕ, Option, Some, None}
use Rattle.std.specs.Coded.{×_prop, Unit-prop, le_prop}
use Rattle.http_messages.specs.Posting.{IsTarget}

pub IsTarget-prop : (target : Option ℕ) → IsProp (IsTarget target)
IsTarget-prop None = Unit-prop
IsTarget-prop (Some n) = ×_prop le_prop le_prop
