use Rattle.std.proofs.Common.{w64, pos, arith}
use Rattle.std.specs.Prelude.{option_map}
use Rattle.std.proofs.lemmas.Int.{to_z-of_z}
use Rattle.std.proofs.lemmas.Result.{IfOk-weaker}
use Rattle.sqlite.specs.declared.types.Value.TheVariants.{Int}
use Rattle.sqlite.specs.Held.{state}
use Rattle.table_rows.proofs.GainLemmas.{bound_maybe}
use Rattle.register_store.proofs.OurGains.{kept_gains, held_as}
use Rattle.register_store.proofs.rows.insert_kept.Goals as goal

pub returns-clause-inserts : goal.returns-clause-inserts
returns-clause-inserts g c = record {
  leaves = c.run.ensures.leaves;
  was_inside = c.run.ensures.inside;
  gains = λ clean. IfOk-weaker c.run.result _ _ (λ _ ran.
      let row = c.args.row.now in
      rw (held_as Int pos c.args.number)
      (kept_gains (state g.S.Store c.args.tx.now.conn.now) (state g.S.Store c.run.new.tx.conn.now) (pos c.args.seq)
      row.filer.now row.key.now row.body.now (option_map pos c.args.number) ran.0
      (rw (
        c.params-to_sql.ensures,
        c.params-to_sql-2.ensures,
        c.params-to_sql-3.ensures,
        c.params-to_sql-4.ensures,
        c.params-to_sql-5.ensures,
        c.as_str.ensures.value,
        c.signed-number.ensures,
        bound_maybe (option_map pos c.args.number),
        to_z-of_z w64 (pos c.args.seq) (record { sfits = omega (arith, c.requires.seq) }),
      ) at ran.1)))
      (c.run.ensures.ran clean);
}
