use Rattle.std.proofs.Common.{◌∙◌}
use Rattle.std.proofs.Math.IntN.{+ℤ_idr}
use Rattle.receipts.proofs.moment.moment_text.Goals as goal

pub returns : goal.returns
returns c =
    (c.to_datetime-shown.result, c.to_datetime-shown.ensures ∙ +ℤ_idr c.args.moment.nanosecond, c.in_ok-text.ensures.ok)
