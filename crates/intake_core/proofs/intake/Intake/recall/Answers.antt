use Rattle.intake_core.specs.Cache.{Remembers}
use Rattle.intake_core.specs.Held.{old_style_in}
use Rattle.intake_core.proofs.Deciding.{IfSome-made}
use Rattle.intake_core.proofs.intake.Intake.recall.Goals as goal

pub returns-in-None-default-clause-same : goal.returns-in-None-default-clause-same
returns-in-None-default-clause-same g c = λ requests h.
    let old_style = old_style_in c.args.self.now requests in
    record {
      firsts' = h.firsts';
      rows = h.rows;
      known =
          rw c.ok.ensures.value (IfSome-made c.new.result (Remembers old_style requests)
          (c.new.ensures old_style requests));
    }
