use Rattle.std.proofs.Common.{◌≡◌, length, replicate, None, sym, ◌∙◌, subst, rules}
use Rattle.std.proofs.lemmas.List.{length-replicate}
use Rattle.sqlite.specs.Held.{state}
use Rattle.sqlite.proofs.StateLemmas.{survives_weaker}
use Rattle.table_rows.specs.Standing.{HasCommitted}
use Rattle.register_rows.specs.Received.{Received}
use Rattle.register_tables.specs.Registers.{IsRegisterOf}
use Rattle.register_tables.proofs.Surveyed.{old_style_within, leaves_migrated}
use Rattle.register_store.proofs.store.Store.migrate_or_back.Goals as goal

pub returns-in-Ok : goal.returns-in-Ok
returns-in-Ok g c = record {
  outcome = record {
    migrated = λ clean form alone.
        let m = c.in-Ok.ensures.migrated clean form alone in (
          m.requests,
          m.were,
          record {
            stands = m.are;
            kept_is = m.kept_is;
            filings_is = m.filings_is;
            within =
                old_style_within form _ _ _ m.were.rows.old_style_is;
            catalogue_is = m.catalogue_is;
          },
        );
    only = λ clean form old_style F alone is.
        let found = c.in-Ok.ensures.only clean form old_style F alone is in
        let same = sym found.0 in (
          found.0,
          record {
            stands = subst (λ n. HasCommitted (IsRegisterOf n F) (state g.S.Store c.migrate_register.new.conn)) same
                found.1;
            kept_is = found.2;
            filings_is = found.3;
            within = rw found.0 (old_style_within form _ old_style _ is.rows.old_style_is);
            catalogue_is = found.4;
          },
        );
    current = c.in-Ok.ensures.current;
    crash = survives_weaker (state g.S.Store c.args.conn) (state g.S.Store c.migrate_register.new.conn) _ _
        (λ _ trees m form old_style F alone is. leaves_migrated g.S.Store c.args.conn trees m form old_style F alone is)
        c.migrate_register.ensures.crash;
    durable = λ clean form old_style F alone is. c.in-Ok.ensures.durable clean form old_style F alone is;
    undated = λ clean form old_style F alone is.
        let m = c.in-Ok.ensures.migrated clean form alone in
        let many : length m.requests ≡ length F =
        sym m.kept_is ∙ (c.in-Ok.ensures.only clean form old_style F alone is).2 in
        record {
          stands = subst (λ n. HasCommitted (λ db. Received db (replicate n None))
              (state g.S.Store c.migrate_register.new.conn)) many m.undated;
          one_each = length-replicate (length F) None ∙ sym (c.in-Ok.ensures.only clean form old_style F alone is).2;
        };
  };
  back = search rules;
}

pub returns-in-Err : goal.returns-in-Err
returns-in-Err g c =
    let crash = c.migrate_register.ensures.crash in
    record {
      outcome = record {
        migrated = search rules;
        only = search rules;
        current = search rules;
        crash = search rules;
        durable = search rules;
        undated = search rules;
      };
      back = record {
        autocommit = c.migrate_register.ensures.autocommit;
        unlimited = crash.limit ∙ c.requires.unlimited;
        same = c.in-Err.ensures.neither;
        why = c.in-Err.ensures.refused;
        sound = c.in-Err.ensures.sound;
        crash = crash;
        unwritten = c.in-Err.ensures.unwritten;
      };
    }
