use Rattle.std.proofs.Common.{refl, sym, ◌∙◌, rules, arith}
use Rattle.sqlite.specs.Held.{state}
use Rattle.sqlite.proofs.StateLemmas.{survives_weaker}
use Rattle.register_tables.proofs.Making.{none_registered, leaves_empty}
use Rattle.register_store.proofs.StoreLemmas.{none_listed}
use Rattle.register_store.proofs.store.Store.create_or_back.Goals as goal

pub returns-in-Ok : goal.returns-in-Ok
returns-in-Ok g c = record {
  outcome = record {
    made = λ clean none.
        let made = c.in-Ok.ensures.makes.made clean none in
        record {
          stands = record {
            autocommit = c.make_register.ensures.makes.autocommit;
            now = λ _. made.1;
            committed =
                λ _. made.2;
          };
          kept_is = refl;
          filings_is = rw none_registered refl;
          within = omega arith;
          catalogue_is = c.new.ensures ∙ sym none_listed;
        };
    counts = search rules;
    taken = search rules;
    crash = survives_weaker (state g.S.Store c.args.conn) (state g.S.Store c.make_register.new.conn) _ _
        (λ _ trees made. leaves_empty g.S.Store c.args.conn trees made) c.make_register.ensures.makes.crash;
    durable = search rules;
  };
  back = search rules;
}

pub returns-in-Err : goal.returns-in-Err
returns-in-Err g c =
    let crash = c.make_register.ensures.makes.crash in
    record {
      outcome = record {
        made = search rules;
        counts = search rules;
        taken = search rules;
        crash = search rules;
        durable = search rules;
      };
      back = record {
        autocommit = c.make_register.ensures.makes.autocommit;
        unlimited = crash.limit ∙ c.requires.unlimited;
        same = c.in-Err.ensures.makes.neither;
        why = c.in-Err.ensures.failed;
        crash = crash;
      };
    }
