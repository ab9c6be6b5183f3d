use Rattle.std.proofs.Common.{refl}
use Rattle.outbox_core.specs.OutboxParts.{contents}
use Rattle.outbox_process.proofs.beginning.find_outbox.Goals as goal

pub returns-in-Ok-clause-found : goal.returns-in-Ok-clause-found
returns-in-Ok-clause-found g c =
    let outcome = c.in-Ok.ensures.outcome in
    record {
      is_one = λ clean. (
        outcome.says clean,
        λ declared.
            let one = outcome.opened clean declared in (contents c.in-Ok.outbox one.0, one.1, (one.2, refl)),
      );
      only = λ clean it is. let same = outcome.same clean it is in (same.1, same.0);
    }
