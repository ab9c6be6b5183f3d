use Rattle.std.proofs.Common.{w64, pos, arith}
use Rattle.std.proofs.lemmas.Int.{to_z-of_z}
use Rattle.std.proofs.lemmas.Result.{IfOk-weaker}
use Rattle.sqlite.specs.Held.{state}
use Rattle.outbox_core.proofs.InsertLemmas.{target_gains}
use Rattle.outbox_core.proofs.rows.insert_target.Goals as goal

pub returns-clause-gains : goal.returns-clause-gains
returns-clause-gains g c clean =
    IfOk-weaker c.run.result _ _ (λ _ ran. target_gains (state g.S.Store c.args.tx.now.conn.now)
    (state g.S.Store c.run.new.tx.conn.now) (pos c.args.id) (pos c.args.number) ran.0 ran.1)
    (rw (
      c.params-to_sql.ensures,
      c.params-to_sql-2.ensures,
      to_z-of_z w64 (pos c.args.id) (record { sfits = omega (arith, c.requires.id) }),
      to_z-of_z w64 (pos c.args.number) (record { sfits = omega (arith, c.requires.number) }),
    )
    at (c.run.ensures.ran clean))
