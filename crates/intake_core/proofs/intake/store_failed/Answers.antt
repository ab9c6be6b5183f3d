use Rattle.std.proofs.Common.{Err, refl, ap, ◌∙◌}
use Rattle.intake_core.proofs.intake.store_failed.Goals as goal

pub returns-in-Err-Store : goal.returns-in-Err-Store
returns-in-Err-Store c =
    (λ is. c.in-Err-Store.is ∙ ap Err (rw c.in-Err-Store.is at c.in-Err-Store.field-0-is), λ is. refl)
