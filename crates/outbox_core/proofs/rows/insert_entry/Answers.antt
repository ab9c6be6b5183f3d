use Rattle.std.proofs.Common.{w64, pos, arith}
use Rattle.std.proofs.lemmas.Int.{to_z-of_z}
use Rattle.std.proofs.lemmas.Result.{IfOk-weaker}
use Rattle.sqlite.specs.Held.{state}
use Rattle.outbox_core.proofs.InsertLemmas.{entry_gains}
use Rattle.outbox_core.proofs.rows.insert_entry.Goals as goal

pub returns-clause-gains : goal.returns-clause-gains
returns-clause-gains g c clean =
    IfOk-weaker c.run.result _ _ (λ _ ran. entry_gains (state g.S.Store c.args.tx.now.conn.now)
    (state g.S.Store c.run.new.tx.conn.now) (pos c.args.id) c.args.key.now c.args.body.now ran.0 ran.1)
    (rw (
      c.params-to_sql.ensures,
      c.params-to_sql-2.ensures,
      c.params-to_sql-3.ensures,
      to_z-of_z w64 (pos c.args.id) (record { sfits = omega (arith, c.requires) }),
    ) at (c.run.ensures.ran clean))
