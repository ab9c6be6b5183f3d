-- The beginning of 1970.
use Rattle.std.proofs.Common.{◌≡◌, pos, ◌+ℤ◌, ◌*ℤ◌, ap, ◌∙◌, arith}
use Rattle.jiff_core.specs.declared.civil.datetime.DateTime.{DateTime}
use Rattle.jiff_core.specs.Date.{IsYmd}
use Rattle.jiff_core.specs.DateTime.{civil_nanos}
use Rattle.jiff_core.specs.Time.{IsHms, time_nanos}
use Rattle.jiff_core.proofs.DateTimeLemmas.{civil_nanos-parts}
use Rattle.jiff_core.proofs.StandardFacts.{known_days}

pub epoch : (dt : DateTime) → IsYmd (pos 1970) (pos 1) (pos 1) dt.date → IsHms (pos 0) (pos 0) (pos 0) (pos 0) dt.time
    → civil_nanos dt ≡ pos 0
epoch dt day time =
    let month : dt.date.month ≡ 1 = cc day.1 in
    let first : dt.date.day ≡ 1 = cc day.2 in
    let hour : dt.time.hour ≡ 0 = cc time.0 in
    let minute : dt.time.minute ≡ 0 = cc time.1 in
    let second : dt.time.second ≡ 0 = cc time.2 in
    let subsec : dt.time.subsec_nanosecond ≡ 0 = cc time.3 in
    let none : time_nanos dt.time ≡ 0 = omega (arith, hour, minute, second, subsec) in
    civil_nanos-parts dt ∙ rw (day.0, month, first, none) (ap (λ z. z *ℤ pos 86_400_000_000_000 +ℤ pos 0) known_days.0)
