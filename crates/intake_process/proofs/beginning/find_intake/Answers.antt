use Rattle.std.proofs.Common.{subst, ap, ◌∙◌}
use Rattle.sqlite.specs.State.{HasCleanDisk}
use Rattle.register_store.specs.Store.{shows}
use Rattle.intake_process.proofs.Errands.{as_register}
use Rattle.intake_process.proofs.beginning.find_intake.Goals as goal

pub returns-in-Ok-clause-found : goal.returns-in-Ok-clause-found
returns-in-Ok-clause-found g c =
    let opened = subst (λ s. HasCleanDisk (shows g.S.Store s)) c.new.ensures.store in
    record {
      is_one = λ clean. as_register g.S.Store c.args.conn c.in-Ok.register c.in-Ok.ensures (opened clean);
      holds = λ clean old_style F firsts_are is.
          let only = c.in-Ok.ensures.outcome.only (opened clean) old_style F is in (
            record {
              holds = c.new.ensures.holds F firsts_are only.1;
              limit_is = c.new.ensures.limit;
              old_style_is =
                  ap (λ s. s.old_style) c.new.ensures.store ∙ only.0;
            },
            (c.totals_of-totals.ensures.0 ∙ only.1.kept_is, c.totals_of-totals.ensures.1 ∙ only.1.filings_is),
          );
    }
