use Rattle.std.proofs.lemmas.Result.{IfOk-weaker}
use Rattle.sqlite.specs.Held.{state}
use Rattle.register_store.proofs.FindTexts.{query_key}
use Rattle.register_store.proofs.FindReads.{reads_key}
use Rattle.register_store.proofs.rows.rows_with_key.Goals as goal

pub returns-clause-read : goal.returns-clause-read
returns-clause-read g c clean knows =
    IfOk-weaker c.select.result _ _ (λ rows h. reads_key (state g.S.Store c.args.conn.now)
    (state g.S.Store c.select.new.conn) knows rows.items c.args.filer.now c.args.key.now
    (rw (c.params-to_sql.ensures, c.params-to_sql-2.ensures) at h)) (c.select.ensures.shown clean)

pub select-requires : goal.select-requires
select-requires g c = query_key
