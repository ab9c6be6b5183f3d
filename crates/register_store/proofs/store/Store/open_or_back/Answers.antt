use Rattle.std.proofs.Common.{◌≤◌, length, not, ap, sym, ◌∙◌, subst, rules}
use Rattle.table_rows.specs.Standing.{HasCommitted}
use Rattle.register_tables.specs.Registers.{IsRegisterOf}
use Rattle.sqlite.specs.Held.{state}
use Rattle.register_store.proofs.StoreLemmas.{leaves}
use Rattle.register_store.proofs.store.Store.open_or_back.Goals as goal

pub returns-in-Ok : goal.returns-in-Ok
returns-in-Ok g c = record {
  outcome = record {
    opened = λ clean d.
        let found = c.in-Ok.ensures.found clean d in (
          found.0,
          found.1,
          record {
            stands = found.2;
            kept_is = found.3;
            filings_is = found.4;
            within =
                found.1.rows.within;
            catalogue_is = found.5;
          },
        );
    only = λ clean old_style F is.
        let found = c.in-Ok.ensures.only clean old_style F is in
        let same = found.0 in (
          same,
          record {
            stands = subst (λ n. HasCommitted (IsRegisterOf n F) (state g.S.Store c.read_register.new.conn))
                (sym same) found.1;
            kept_is = found.2;
            filings_is = found.3;
            within =
                subst (λ n. n ≤ length F) (sym same) is.rows.within;
            catalogue_is = found.4;
          },
        );
    says = c.in-Ok.ensures.says;
    same = search rules;
    crash = search rules;
    durable = λ clean old_style F is.
        let alive = (c.in-Ok.ensures.same clean).0.is_open in
        let new = c.read_register.new.conn in (
          alive,
          λ trees left. leaves old_style F (state g.S.Store new) (c.in-Ok.ensures.only clean old_style F is).1
              alive trees (g.met.S.Store.settled new.store trees alive left),
        );
  };
  back = search rules;
}

pub returns-in-Err : goal.returns-in-Err
returns-in-Err g c =
    let kept = c.in-Err.ensures.keeps in
    let settled =
    c.is_autocommit.ensures.settled (c.is_autocommit.ensures.value ∙ ap not c.read_register.ensures.mode) in
    record {
      outcome = record {
        opened = search rules;
        only = search rules;
        says = tt;
        same = search rules;
        crash = search rules;
        durable = search rules;
      };
      back = record {
        autocommit = c.read_register.ensures.mode;
        unlimited = c.read_register.ensures.survives.limit ∙ c.requires.unlimited;
        same = λ clean. record {
          was_open = (kept clean).was_open;
          now =
              λ alive. settled alive ∙ (kept clean).committed alive;
          committed = (kept clean).committed;
        };
        why = c.in-Err.ensures.refused;
        sound = c.in-Err.ensures.sound;
        crash = c.read_register.ensures.survives;
      };
    }
