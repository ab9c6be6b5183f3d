use Rattle.std.proofs.lemmas.Result.{IfOk-weaker}
use Rattle.sqlite.specs.Held.{state}
use Rattle.register_pages.proofs.OwnReads.{query_own, reads_own}
use Rattle.register_pages.proofs.reads.own_rows.Goals as goal

pub returns-clause-read : goal.returns-clause-read
returns-clause-read g c clean knows =
    IfOk-weaker c.select.result _ _ (λ rows h. reads_own (state g.S.Store c.args.conn.now)
    (state g.S.Store c.select.new.conn) knows rows.items c.args.filer.now (rw c.params-to_sql.ensures at h))
    (c.select.ensures.shown clean)

pub select-requires : goal.select-requires
select-requires g c = query_own
