-- How a moment is written (RFC 3339, section 5.6): in UTC, with milliseconds, by the Gregorian calendar.
use Rattle.std.specs.Prelude.{ℕ, zero, suc, pos, ◌+◌, ◌-◌, ◌/◌, ◌%◌, nat_lt, if◌then◌else◌, List, [], ◌∷◌, ◌++◌, codes}
use Rattle.jiff_core.specs.Calendar.{days_in_year, days_in_month}

-- the last digits of a number, so many
abbrev pub digits : ℕ → ℕ → List ℕ
digits zero n = []
digits (suc more) n = digits more (n / 10) ++ (48 + n % 10) ∷ []

-- The year of the day that comes so many days after the first of this year, and its place there, from 0. At most so
-- many years are passed.
unfoldable pub year_of : ℕ → ℕ → ℕ → ℕ × ℕ
year_of zero year day = (year, day)
year_of (suc more) year day =
    if nat_lt day (days_in_year (pos year)) then (year, day)
    else year_of more (suc year) (day - days_in_year (pos year))

-- The month of the day that comes so many days after the first of this month of the year, and its place there, from 0.
-- At most so many months are passed.
unfoldable pub month_of : ℕ → ℕ → ℕ → ℕ → ℕ × ℕ
month_of zero year month day = (month, day)
month_of (suc more) year month day =
    if nat_lt day (days_in_month (pos year) month) then (month, day)
    else month_of more year (suc month) (day - days_in_month (pos year) month)

-- YYYY-MM-DD: the day that comes so many days after 1970-01-01, up to the last of the year 9999
unfoldable pub date_text : ℕ → List ℕ
date_text day =
    let year = year_of 8029 1970 day in
    let month = month_of 11 year.0 1 year.1 in
    digits 4 year.0 ++ codes "-" ++ digits 2 month.0 ++ codes "-" ++ digits 2 (month.1 + 1)

-- hh:mm:ss.sss: so many milliseconds after midnight
unfoldable pub time_text : ℕ → List ℕ
time_text time =
    digits 2 (time / 3_600_000) ++ codes ":" ++ digits 2 (time / 60_000 % 60) ++ codes ":"
    ++ digits 2 (time / 1000 % 60) ++ codes "." ++ digits 3 (time % 1000)

-- so many milliseconds after 1970-01-01T00:00:00Z
unfoldable pub moment_text : ℕ → List ℕ
moment_text moment = date_text (moment / 86_400_000) ++ codes "T" ++ time_text (moment % 86_400_000) ++ codes "Z"
