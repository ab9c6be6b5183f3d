use Rattle.std.proofs.Common.{◌≡◌, drop}
use Rattle.std.specs.Prelude.{option_copied}
use Rattle.event_script.specs.Complaints.{complaint_in}
use Rattle.event_script.proofs.complaint.complaint_in.Given as goal

abbrev pub invariant-loop-kind : goal.invariant-loop-kind
invariant-loop-kind l =
    complaint_in l.form (option_copied l.fn.rest) ≡ complaint_in (drop l.kind-index l.form) (option_copied l.rest)
