use Rattle.std.proofs.Common.{w64, pos, arith}
use Rattle.std.proofs.lemmas.Int.{to_z-of_z}
use Rattle.std.proofs.lemmas.Result.{IfOk-weaker}
use Rattle.sqlite.specs.Held.{state}
use Rattle.register_store.proofs.OurGains.{amends_gains}
use Rattle.register_store.proofs.rows.insert_amends.Goals as goal

pub returns : goal.returns
returns g c = record {
  leaves = c.run.ensures.leaves;
  was_inside = c.run.ensures.inside;
  gains = λ clean. IfOk-weaker c.run.result _ _ (λ _ ran.
      amends_gains (state g.S.Store c.args.tx.now.conn.now) (state g.S.Store c.run.new.tx.conn.now) (pos c.args.seq)
      (pos c.args.target) ran.0
      (rw (
        c.params-to_sql.ensures,
        c.params-to_sql-2.ensures,
        to_z-of_z w64 (pos c.args.seq) (record { sfits = omega (arith, c.requires.seq) }),
        to_z-of_z w64 (pos c.args.target) (record { sfits = omega (arith, c.requires.target) }),
      ) at ran.1))
      (c.run.ensures.ran clean);
}
