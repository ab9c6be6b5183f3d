-- What contracts see of the loans of a hall; own rules.
use Rattle.std.specs.Prelude.{ℕ, Bool}
use Rattle.connection_hall.specs.declared.loans.Loans.{Loans}

-- how many connections have a loan, and how many may
abbrev pub lent : Loans → ℕ
lent loans = loans.lent

abbrev pub most_lent : Loans → ℕ
most_lent loans = loans.most

-- one was refused since the last came back
abbrev pub is_short : Loans → Bool
is_short loans = loans.is_short
