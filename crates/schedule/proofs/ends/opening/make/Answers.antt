use Rattle.std.proofs.Common.{refl, ap, ◌∙◌}
use Rattle.outbox_tables.specs.Entries.{empty}
use Rattle.outbox_process.specs.Process.{Parts}
use Rattle.schedule.proofs.ends.opening.make.Goals as goal

pub returns-clause-kept : goal.returns-clause-kept
returns-clause-kept g c =
    let certain = c.in_ok-open.ensures.certain ∙ ap (λ (p : Parts g.D.Disk). p.is_certain) c.new-process.ensures in (
      certain,
      c.in_ok-open.ensures.keeps g.met.D.Honest.honest (empty c.args.filer.now)
          (ap (λ (p : Parts g.D.Disk). p.outbox) c.new-process.ensures, refl, refl) certain,
    )
