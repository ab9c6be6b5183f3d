use Rattle.filing_world.proofs.Worked.{stays_open, is_confirmed}
use Rattle.filing_world.proofs.schedules.each_event_may_come.Goals as goal

pub returns-clause-open_before : goal.returns-clause-open_before
returns-clause-open_before c =
    λ r limit all part cut good some enough short short_reply. stays_open r good limit all part cut some enough short
    short_reply

pub returns-clause-confirmed : goal.returns-clause-confirmed
returns-clause-confirmed c =
    λ r limit all part cut good some enough short short_reply. is_confirmed r good limit all part cut some enough short
    short_reply
