use Rattle.std.proofs.Common.{w64, pos, arith}
use Rattle.std.proofs.lemmas.Int.{to_z-of_z}
use Rattle.std.proofs.lemmas.Result.{IfOk-weaker}
use Rattle.sqlite.specs.Held.{state}
use Rattle.xbrl_report.specs.CodeNumber.{number_of}
use Rattle.register_store.proofs.OurGains.{finding_gains}
use Rattle.register_store.proofs.rows.FindingInsertItem.insert.Goals as goal

pub returns : goal.returns
returns g c = record {
  leaves = c.run.ensures.leaves;
  was_inside = c.run.ensures.inside;
  gains = λ clean. IfOk-weaker c.run.result _ _ (λ _ ran.
      rw (← c.self.view_is)
      (finding_gains (state g.S.Store c.args.tx.now.conn.now) (state g.S.Store c.run.new.tx.conn.now)
      (pos c.args.number) (pos c.args.at) (pos (number_of c.self.inside.code)) _ ran.0
      (rw (
        c.params-to_sql.ensures,
        c.params-to_sql-2.ensures,
        c.params-to_sql-3.ensures,
        c.params-to_sql-4.ensures,
        c.as_bytes-place.ensures.value,
        c.from-code.ensures,
        c.number.ensures,
        to_z-of_z w64 (pos c.args.number) (record { sfits = omega (arith, c.requires.number) }),
        to_z-of_z w64 (pos c.args.at) (record { sfits = omega (arith, c.requires.at) }),
      ) at ran.1)))
      (c.run.ensures.ran clean);
}
