use Rattle.std.proofs.Common.{refl, ap, ◌∙◌}
use Rattle.intake_process.specs.Process.{Parts}
use Rattle.schedule.proofs.opening.make.Goals as goal

pub returns-clause-kept : goal.returns-clause-kept
returns-clause-kept g c =
    let certain = c.in_ok-open.ensures.certain ∙ ap (λ (p : Parts g.D.Disk). p.is_certain) c.new-process.ensures in (
      certain,
      c.in_ok-open.ensures.made g.met.D.Honest.honest refl
          (ap (λ (p : Parts g.D.Disk). p.intake) c.new-process.ensures) refl certain,
    )
