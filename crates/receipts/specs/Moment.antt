-- The moment of a receipt (RFC 3339, section 5.6).
use Rattle.std.specs.Prelude.{◌≡◌, ℕ, List, ◌++◌, codes}
use Rattle.jiff.specs.Words.{iso_datetime_text}
use Rattle.jiff_core.specs.DateTime.{civil_nanos}
use Rattle.jiff_core.specs.declared.civil.datetime.DateTime.{DateTime}
use Rattle.jiff_core.specs.declared.timestamp.Timestamp.{Timestamp}

-- YYYY-MM-DDThh:mm:ss, a fraction if there is one, and Z: what a clock in UTC shows then
abbrev pub IsMomentText : Timestamp → List ℕ → Type 0
IsMomentText moment text =
    (shown : DateTime) × (civil_nanos shown ≡ moment.nanosecond) × (text ≡ iso_datetime_text shown ++ codes "Z")
