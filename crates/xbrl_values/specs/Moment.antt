-- What a read date-time or period stands for.
use Rattle.std.specs.Prelude.{◌≡◌, ℕ, List, pos, false, true}
use Rattle.std.specs.List.{list_any, before_first, after_first}
use Rattle.jiff.specs.declared.civil.datetimes.DateTime.{DateTime}
use Rattle.jiff_core.specs.Date.{IsYmd}
use Rattle.jiff_core.specs.Time.{IsHms}
use Rattle.xbrl_values.specs.declared.period.Period.{Period}
use Rattle.xbrl_values.specs.declared.period.Period.TheVariants.{At, Span}
use Rattle.xbrl_values.specs.Period.{year_of, two_digits, is_slash}

abbrev pub IsMoment : ℕ → ℕ → ℕ → ℕ → ℕ → ℕ → DateTime → Type 0
IsMoment year month day hour minute second d =
    IsYmd (pos year) (pos month) (pos day) d.date × IsHms (pos hour) (pos minute) (pos second) (pos 0) d.time

-- the moment that a text of the form `YYYY-MM-DDThh:mm:ss` writes
abbrev pub IsMomentOf : List ℕ → DateTime → Type 0
IsMomentOf s d =
    IsMoment (year_of s) (two_digits s 5) (two_digits s 8) (two_digits s 11) (two_digits s 14) (two_digits s 17) d

-- one moment, or two if a slash joins them
abbrev pub IsPeriodOf : List ℕ → Period → Type 0
IsPeriodOf s (At d) = (list_any is_slash s ≡ false) × IsMomentOf s d
IsPeriodOf s (Span from to) =
    (list_any is_slash s ≡ true) × IsMomentOf (before_first is_slash s) from × IsMomentOf (after_first is_slash s) to
