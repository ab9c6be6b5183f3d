-- The date of a day by its number is the calendar's.
use Rattle.std.proofs.Common.{◌≡◌, ℕ, zero, suc, ◌+◌, ◌-◌, ◌<◌, ◌≤◌, true, false, pos, negsuc, ℤ, ◌≤ℤ◌}
use Rattle.std.proofs.Common.{nat_lt, refl}
use Rattle.std.proofs.Common.{⊎_elim, ap, ap₂, sym, subst, ◌∙◌, arith}
use Rattle.std.proofs.lemmas.Bool.{cases_Bool}
use Rattle.std.proofs.lemmas.Bool.Decides.{nat_tests}
use Rattle.std.proofs.lemmas.Int.{by_lt_z}
use Rattle.jiff_core.specs.declared.civil.date.Date.{Date}
use Rattle.jiff_core.specs.Calendar.{IsCivilDate, IsYear, day_count, day_of_year, days_in_month, days_in_year}
use Rattle.jiff_core.specs.Calendar.{days_of_months}
use Rattle.jiff_core.specs.Date.{epoch_day}
use Rattle.jiff_core.proofs.CalendarLemmas.{day_count-day_of_year, day_count-epoch, day_count-lt_year}
use Rattle.jiff_core.proofs.CalendarLemmas.{day_count-next_year}
use Rattle.jiff_core.proofs.CalendarLemmas.{day_count-year_is, day_of_year_bound, days_from_civil-day_count}
use Rattle.jiff_core.proofs.CalendarLemmas.{days_of_months-zero, days_of_months_mono, days_of_months_more}
use Rattle.jiff_core.proofs.DateLemmas.{civil}
use Rattle.jiff_core.proofs.SignedLemmas.{signed_arith}
use Rattle.register_extracts.specs.Text.{month_of, year_of}

-- ---- the year

year_here : (y m d day : ℕ) → IsCivilDate (pos y) m d → day_count (pos y) 1 1 + day ≡ day_count (pos y) m d
    → day + 1 ≡ day_of_year (pos y) m d
year_here y m d day h is = let ordinal = day_count-day_of_year (pos y) m d h.2.0 in omega (arith, ordinal, is)

pub year_found : (more from y m d day : ℕ) → IsCivilDate (pos y) m d → from ≤ y → y ≤ from + more
    → day_count (pos from) 1 1 + day ≡ day_count (pos y) m d
    → year_of more from day ≡ (y, day_of_year (pos y) m d - 1)
unfolding year_of
year_found zero from y m d day h low high is =
    let here : from ≡ y = omega arith in
    let place = year_here y m d day h (ap (λ n. day_count (pos n) 1 1 + day) (sym here) ∙ is) in
    ap₂ (λ year at. (year, at)) here (omega (arith, place))
year_found (suc more) from y m d day h low high is = ⊎_elim
    (λ (t : nat_lt day (days_in_year (pos from)) ≡ true).
    let within : day < days_in_year (pos from) = grind (arith, nat_tests, t) in
    let year : IsYear (pos from) = omega (arith, signed_arith, h.0, low) in
    let same = day_count-year_is (pos from) (pos y) m d year h (omega (arith, is)) (omega (arith, is, within)) in
    let here : from ≡ y = omega (arith, signed_arith, same) in
    let place = year_here y m d day h (ap (λ n. day_count (pos n) 1 1 + day) (sym here) ∙ is) in
    rw t (ap₂ (λ year at. (year, at)) here (omega (arith, place))))
    (λ (t : nat_lt day (days_in_year (pos from)) ≡ false).
    let beyond : days_in_year (pos from) ≤ day = grind (arith, nat_tests, t) in
    let next = day_count-next_year (pos from) (pos (suc from)) (omega (arith, signed_arith))
    (omega (arith, signed_arith)) in
    let above : from < y = past beyond in
    rw t (year_found more (suc from) y m d (day - days_in_year (pos from)) h above (omega arith)
    (omega (arith, next, is, beyond))))
    (cases_Bool (nat_lt day (days_in_year (pos from))))
  where
    past : days_in_year (pos from) ≤ day → from < y
    past beyond = ⊎_elim
        (λ (t : nat_lt from y ≡ true). grind (arith, nat_tests, t))
        (λ (t : nat_lt from y ≡ false).
        let not_below : y ≤ from = grind (arith, nat_tests, t) in
        let here : from ≡ y = omega (arith, low, not_below) in
        let place = year_here y m d day h (ap (λ n. day_count (pos n) 1 1 + day) (sym here) ∙ is) in
        let bound = day_of_year_bound (pos y) m d h in
        absurd (omega (arith, place, bound, ap (λ n. days_in_year (pos n)) here, beyond)))
        (cases_Bool (nat_lt from y))

-- ---- the month

pub month_found : (more from y m d day : ℕ) → 1 ≤ from → from ≤ m → m ≤ from + more → 1 ≤ d
    → d ≤ days_in_month (pos y) m
    → days_of_months (pos y) (from - 1) + day + 1 ≡ days_of_months (pos y) (m - 1) + d
    → month_of more y from day ≡ (m, d - 1)
unfolding month_of
month_found zero from y m d day one low high first last is =
    let here : from ≡ m = omega arith in
    let same = ap (λ n. days_of_months (pos y) (n - 1)) here in
    ap₂ (λ month at. (month, at)) here (omega (arith, same, is))
month_found (suc more) from y m d day one low high first last is = ⊎_elim
    (λ (t : nat_lt day (days_in_month (pos y) from) ≡ true).
    let within : day < days_in_month (pos y) from = grind (arith, nat_tests, t) in
    let here : from ≡ m = not_later within in
    let same = ap (λ n. days_of_months (pos y) (n - 1)) here in
    rw t (ap₂ (λ month at. (month, at)) here (omega (arith, same, is))))
    (λ (t : nat_lt day (days_in_month (pos y) from) ≡ false).
    let beyond : days_in_month (pos y) from ≤ day = grind (arith, nat_tests, t) in
    let above : from < m = past beyond in
    let next = days_of_months_more (pos y) from one in
    let back : suc from - 1 ≡ from = omega arith in
    let same = ap (days_of_months (pos y)) back in
    rw t (month_found more (suc from) y m d (day - days_in_month (pos y) from) (omega arith) above (omega arith) first
    last (omega (arith, next, same, is, beyond))))
    (cases_Bool (nat_lt day (days_in_month (pos y) from)))
  where
    not_later : day < days_in_month (pos y) from → from ≡ m
    not_later within = ⊎_elim
        (λ (t : nat_lt from m ≡ true).
        let above : from < m = grind (arith, nat_tests, t) in
        let next = days_of_months_more (pos y) from one in
        let rise = days_of_months_mono (pos y) from (m - 1) (omega arith) in
        absurd (omega (arith, next, rise, is, within, first)))
        (λ (t : nat_lt from m ≡ false). let not_below : m ≤ from = grind (arith, nat_tests, t) in
        omega (arith, low, not_below))
        (cases_Bool (nat_lt from m))

    past : days_in_month (pos y) from ≤ day → from < m
    past beyond = ⊎_elim
        (λ (t : nat_lt from m ≡ true). grind (arith, nat_tests, t))
        (λ (t : nat_lt from m ≡ false).
        let not_below : m ≤ from = grind (arith, nat_tests, t) in
        let here : from ≡ m = omega (arith, low, not_below) in
        let same = ap (λ n. days_of_months (pos y) (n - 1)) here in
        absurd (omega (arith, same, is, ap (λ n. days_in_month (pos y) n) here, beyond, last)))
        (cases_Bool (nat_lt from m))

-- ---- a date

-- the year of a day that is not before 1970
pub record IsOfYear (date : Date) : Type 0 where
  pub y : ℕ
  pub is : date.year ≡ pos y
  pub low : 1970 ≤ y
  pub high : y ≤ 9999

pub year_is : (date : Date) (day : ℕ) → epoch_day date ≡ pos day → IsOfYear date
year_is date day is =
    by_lt_z date.year (pos 1970)
    (λ lt. absurd (omega (
      arith,
      signed_arith,
      day_count-lt_year date.year date.month date.day (pos 1970) 1 1 (civil date) (omega arith) lt,
      day_count-epoch,
      days_from_civil-day_count date.year date.month date.day,
      is,
    )))
    (λ le. from_sign date.year refl le)
  where
    from_sign : (z : ℤ) → date.year ≡ z → pos 1970 ≤ℤ date.year → IsOfYear date
    from_sign (pos y) so le = record {
      y = y;
      is = so;
      low = omega (arith, signed_arith, so, le);
      high = omega (arith, signed_arith, so, (civil date).0);
    }
    from_sign (negsuc y) so le = absurd (omega (arith, signed_arith, so, le))

module _ (date : Date) (day : ℕ) (is : epoch_day date ≡ pos day) (its : IsOfYear date) where
  whole : IsCivilDate (pos its.y) date.month date.day
  whole = subst (λ z. IsCivilDate z date.month date.day) its.is (civil date)

  counted : day_count (pos 1970) 1 1 + day ≡ day_count (pos its.y) date.month date.day
  counted =
      let count = days_from_civil-day_count date.year date.month date.day in
      let same = ap (λ z. day_count z date.month date.day) its.is in
      omega (arith, signed_arith, count, same, day_count-epoch, is)

  pub its_year : year_of 8029 1970 day ≡ (its.y, day_of_year (pos its.y) date.month date.day - 1)
  its_year =
      year_found 8029 1970 its.y date.month date.day day whole its.low (omega (arith, its.high)) counted

  pub its_month : month_of 11 its.y 1 (day_of_year (pos its.y) date.month date.day - 1) ≡ (date.month, date.day - 1)
  its_month =
      month_found 11 1 its.y date.month date.day _ (omega arith) whole.1.0 (omega (arith, whole.1.1)) whole.2.0
      whole.2.1 (omega (arith, days_of_months-zero (pos its.y), whole.2.0))
