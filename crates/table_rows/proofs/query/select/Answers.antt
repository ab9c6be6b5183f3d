use Rattle.table_rows.proofs.LeavingLemmas.{query_reads}
use Rattle.table_rows.proofs.query.select.Goals as goal

pub returns-clause-leaves : goal.returns-clause-leaves
returns-clause-leaves g c =
    query_reads g.S.Store c.args.sql.now c.requires _ (λ rows. rows.items) c.args.conn.now c.query_all.new.self
    c.query_all.result
    c.query_all.ensures.ok c.query_all.ensures.err c.query_all.ensures.mode c.query_all.ensures.survives
