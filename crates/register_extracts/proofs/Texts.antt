-- What is written of a moment is what is shown then.
use Rattle.std.proofs.Common.{◌≡◌, ℕ, ◌+◌, ◌*◌, ◌/◌, ◌%◌, ◌<◌, pos, [], ◌∷◌, ◌++◌, Some}
use Rattle.std.proofs.Common.{append_assoc, ap, ap₂, codes, false, ◌∙◌, arith}
use Rattle.jiff_core.specs.declared.civil.date.Date.{Date}
use Rattle.jiff_core.specs.declared.civil.time.Time.{Time}
use Rattle.jiff_core.specs.declared.civil.datetime.DateTime.{DateTime}
use Rattle.jiff_core.specs.Date.{epoch_day}
use Rattle.jiff_core.specs.DateTime.{civil_nanos}
use Rattle.jiff_core.specs.Time.{time_nanos}
use Rattle.jiff_core.proofs.DateTimeLemmas.{civil_nanos-parts, time_nanos_bound}
use Rattle.jiff_core.proofs.CalendarLemmas.{days_in_month_bounds}
use Rattle.jiff_core.proofs.DateLemmas.{civil}
use Rattle.jiff_core.proofs.SignedLemmas.{signed_arith}
use Rattle.jiff_fmt.specs.Text.{pad2, pad4, year_text, date_text, time_text, datetime_text, places}
use Rattle.jiff_fmt.specs.declared.temporal.printer.DateTimePrinter.{DateTimePrinter}
use Rattle.jiff_fmt.specs.Printer.{options, datetime_text as printer_text}
use Rattle.register_extracts.specs.Text as own
use Rattle.register_extracts.specs.Text.{digits, moment_text}
use Rattle.register_extracts.proofs.Dates.{year_is, its_year, its_month}

-- ---- digits

two : (n : ℕ) → n < 100 → pad2 n ≡ digits 2 n
two n low =
    let tens : 48 + n / 10 ≡ 48 + n / 10 % 10 = omega arith in
    ap (λ d. d ∷ (48 + n % 10) ∷ []) tens

four : (n : ℕ) → n < 10_000 → pad4 n ≡ digits 4 n
four n low =
    let a : 48 + n / 100 / 10 ≡ 48 + n / 10 / 10 / 10 % 10 = omega arith in
    let b : 48 + n / 100 % 10 ≡ 48 + n / 10 / 10 % 10 = omega arith in
    let c : 48 + n % 100 / 10 ≡ 48 + n / 10 % 10 = omega arith in
    let d : 48 + n % 100 % 10 ≡ 48 + n % 10 = omega arith in
    ap₂ (λ x y. x ∷ y ∷ (48 + n % 100 / 10) ∷ (48 + n % 100 % 10) ∷ []) a b
    ∙ ap₂ (λ x y. (48 + n / 10 / 10 / 10 % 10) ∷ (48 + n / 10 / 10 % 10) ∷ x ∷ y ∷ []) c d

three : (n : ℕ) → n < 1000 → places 3 1_000_000_000 (n * 1_000_000) ≡ digits 3 n
unfolding places
three n low =
    let a : 48 + n * 1_000_000 / 100_000_000 ≡ 48 + n / 10 / 10 % 10 = omega arith in
    let b : 48 + n * 1_000_000 % 100_000_000 / 10_000_000 ≡ 48 + n / 10 % 10 = omega arith in
    let c : 48 + n * 1_000_000 % 100_000_000 % 10_000_000 / 1_000_000 ≡ 48 + n % 10 = omega arith in
    ap₂ (λ x y. x ∷ y ∷ (48 + n * 1_000_000 % 100_000_000 % 10_000_000 / 1_000_000) ∷ []) a b
    ∙ ap (λ x. (48 + n / 10 / 10 % 10) ∷ (48 + n / 10 % 10) ∷ x ∷ []) c

-- ---- a date and a time

its_date : (date : Date) (day : ℕ) → epoch_day date ≡ pos day → date_text date ≡ own.date_text day
unfolding own.date_text
its_date date day is =
    let its = year_is date day is in
    let parts = civil date in
    let month : date.month < 100 = omega (arith, parts.1.1) in
    let last : date.day < 100 = omega (arith, parts.2.1, days_in_month_bounds date.year date.month) in
    rw (its_year date day is its, its_month date day is its)
    (ap (λ z. year_text z ++ 45 ∷ [] ++ pad2 date.month ++ 45 ∷ [] ++ pad2 date.day) its.is
    ∙ ap₂ (λ y rest. y ++ 45 ∷ rest) (four its.y (omega (arith, its.high)))
    (ap₂ (λ m d. m ++ 45 ∷ d) (two date.month month)
    (two date.day last ∙ ap (digits 2) (omega (arith, parts.2.0)))))

its_time : (t : Time) (n : ℕ) → time_nanos t ≡ n * 1_000_000 → time_text (Some 3) t ≡ own.time_text n
unfolding own.time_text
its_time t n is =
    let hour : t.hour ≡ n / 3_600_000 = omega (arith, is, t.minute_in, t.second_in, t.subsec_in) in
    let minute : t.minute ≡ n / 60_000 % 60 = omega (arith, is, t.hour_in, t.minute_in, t.second_in, t.subsec_in) in
    let second : t.second ≡ n / 1000 % 60 = omega (arith, is, t.hour_in, t.minute_in, t.second_in, t.subsec_in) in
    let subsec : t.subsec_nanosecond ≡ n % 1000 * 1_000_000 = omega (arith, is, t.subsec_in) in
    rw (subsec, three (n % 1000) (omega arith)) (ap₂ (λ h rest. h ++ 58 ∷ rest)
    (two t.hour (omega (arith, t.hour_in)) ∙ ap (digits 2) hour)
    (ap₂ (λ m rest. m ++ 58 ∷ rest) (two t.minute (omega (arith, t.minute_in)) ∙ ap (digits 2) minute)
    (ap (λ s. s ++ 46 ∷ digits 3 (n % 1000)) (two t.second (omega (arith, t.second_in)) ∙ ap (digits 2) second))))

-- ---- both

pub written : (shown : DateTime) (moment : ℕ) → civil_nanos shown ≡ pos (moment * 1_000_000)
    → datetime_text false 84 (Some 3) shown ++ codes "Z" ≡ moment_text moment
unfolding moment_text own.date_text own.time_text
written shown moment is =
    let parts = civil_nanos-parts shown in
    let within = time_nanos_bound shown.time in
    let day : epoch_day shown.date ≡ pos (moment / 86_400_000) = omega (arith, signed_arith, parts, within, is) in
    let time : time_nanos shown.time ≡ moment % 86_400_000 * 1_000_000 =
    omega (arith, signed_arith, parts, within, is) in
    let date = own.date_text (moment / 86_400_000) in
    let clock = own.time_text (moment % 86_400_000) in
    ap₂ (λ d t. (d ++ 84 ∷ t) ++ codes "Z") (its_date shown.date (moment / 86_400_000) day)
    (its_time shown.time (moment % 86_400_000) time)
    ∙ append_assoc date (84 ∷ clock) (codes "Z")

-- what a printer with these options writes
pub printed : (printer : DateTimePrinter) (shown : DateTime) → options printer ≡ (false, 84, Some 3)
    → printer_text printer shown ≡ datetime_text false 84 (Some 3) shown
printed printer shown is = ap (λ o. datetime_text o.0 o.1 o.2 shown) is
