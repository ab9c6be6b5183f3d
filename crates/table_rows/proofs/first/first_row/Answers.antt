use Rattle.std.proofs.Common.{Some, None, Ok, Err}
use Rattle.table_rows.proofs.OutcomeLemmas.{first_reads}
use Rattle.table_rows.proofs.first.first_row.Goals as goal

pub returns-in-Ok-clause-leaves : goal.returns-in-Ok-clause-leaves
returns-in-Ok-clause-leaves g c =
    first_reads g.S.Store c.args.sql.now c.requires _ c.args.conn.now c.query_row.new.self (Ok (Some c.in-Ok.row))
    c.in-Ok.ensures.row c.query_row.ensures.mode c.query_row.ensures.survives

pub returns-in-Err-QueryReturnedNoRows-clause-leaves : goal.returns-in-Err-QueryReturnedNoRows-clause-leaves
returns-in-Err-QueryReturnedNoRows-clause-leaves g c =
    let none = c.in-Err-QueryReturnedNoRows in
    first_reads g.S.Store c.args.sql.now c.requires _ c.args.conn.now c.query_row.new.self (Ok None)
    (rw none.field-0-is at none.ensures.row) c.query_row.ensures.mode c.query_row.ensures.survives

pub returns-in-Err-clause-leaves : goal.returns-in-Err-clause-leaves
returns-in-Err-clause-leaves g c =
    first_reads g.S.Store c.args.sql.now c.requires _ c.args.conn.now c.query_row.new.self (Err c.in-Err.error)
    c.in-Err.ensures.row c.query_row.ensures.mode c.query_row.ensures.survives
