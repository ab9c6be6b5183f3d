-- How entries ended that were sent; own rules.
use Rattle.std.specs.Prelude.{◌+◌, Bool, true, false, List, length, count_by, Result, Ok, Err}
use Rattle.filing_model.specs.declared.state.State.{State}
use Rattle.filing_model.specs.declared.state.State.TheVariants.{Open, Confirmed, Refused, Clashed}
use Rattle.outbox_process.specs.declared.tasks.rounds.Ending.{Ending}
use Rattle.outbox_process.specs.declared.tasks.rounds.Ending.TheVariants as ending
use Rattle.outbox_process.specs.declared.tasks.rounds.Round.{Round}

-- by the state after the reply
abbrev pub ending_of : State → Ending
ending_of Open = ending.Open
ending_of (Confirmed number) = ending.Filed
ending_of Refused = ending.Refused
ending_of Clashed = ending.Refused

-- by what came of the exchange
abbrev pub ending_by : {E : Type 0} → Result State E → Ending
ending_by (Ok state) = ending_of state
ending_by (Err fault) = ending.Failed

abbrev pub has_failed : Ending → Bool
has_failed ending.Failed = true
has_failed _ = false

abbrev pub was_left_open : Ending → Bool
was_left_open ending.Open = true
was_left_open _ = false

abbrev pub was_refused : Ending → Bool
was_refused ending.Refused = true
was_refused _ = false

-- how many there are, and how many of each kind
abbrev pub counts : List Ending → Round
counts all = record {
  sent = length all;
  failed = count_by has_failed all;
  left_open = count_by was_left_open all;
  refused = count_by was_refused all;
}

-- the counts with one more
abbrev pub with_one : Round → Ending → Round
with_one round ending.Filed = record round { sent = round.sent + 1 }
with_one round ending.Refused = record round { sent = round.sent + 1; refused = round.refused + 1 }
with_one round ending.Open = record round { sent = round.sent + 1; left_open = round.left_open + 1 }
with_one round ending.Failed = record round { sent = round.sent + 1; failed = round.failed + 1 }

abbrev pub none_sent : Round
none_sent = record { sent = 0; failed = 0; left_open = 0; refused = 0 }

-- the counts of one entry in this state
abbrev pub one_sent : State → Round
one_sent state = with_one none_sent (ending_of state)
