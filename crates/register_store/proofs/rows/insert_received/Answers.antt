use Rattle.std.proofs.Common.{w64, pos, arith}
use Rattle.std.proofs.lemmas.Int.{to_z-of_z}
use Rattle.std.proofs.lemmas.Result.{IfOk-weaker}
use Rattle.sqlite.specs.Held.{state}
use Rattle.register_store.proofs.OurGains.{received_gains}
use Rattle.register_store.proofs.rows.insert_received.Goals as goal

pub returns-clause-inserts : goal.returns-clause-inserts
returns-clause-inserts g c =
    let moment = c.args.moment.milliseconds in
    record {
      leaves = c.run.ensures.leaves;
      was_inside = c.run.ensures.inside;
      gains = λ clean. IfOk-weaker c.run.result _ _ (λ _ ran.
          received_gains (state g.S.Store c.args.tx.now.conn.now) (state g.S.Store c.run.new.tx.conn.now)
          (pos c.args.seq) (pos moment) ran.0
          (rw (
            c.params-to_sql.ensures,
            c.params-to_sql-2.ensures,
            c.milliseconds-milliseconds.ensures.is,
            to_z-of_z w64 (pos c.args.seq) (record { sfits = omega (arith, c.requires) }),
            to_z-of_z w64 (pos moment) (record { sfits = omega (arith, c.milliseconds-milliseconds.ensures.within) }),
          ) at ran.1))
          (c.run.ensures.ran clean);
    }
