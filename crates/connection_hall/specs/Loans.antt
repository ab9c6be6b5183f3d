-- How long a loan is held; own rules.
use Rattle.std.specs.Prelude.{ℕ, ◌+◌, ◌-◌, ◌*◌, ◌/◌}
use Rattle.connection_hall.specs.declared.loan.Loan.{Loan}

-- While others are short of a loan, one is held for five seconds, and for one more for each 64 KiB that came since, if
-- its connection holds so many bytes by now.
abbrev pub term_of : Loan → ℕ → ℕ
term_of loan held = loan.since + 5000 + 1000 * ((held - loan.held) / 65536)
