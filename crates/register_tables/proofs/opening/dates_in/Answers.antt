use Rattle.std.proofs.Common.{◌≡◌, Err, rules}
use Rattle.register_tables.specs.Faults.{table_fault}
use Rattle.register_tables.proofs.Beside.{dates_failed, dates_read}
use Rattle.register_tables.proofs.opening.dates_in.Goals as goal

pub returns-in_err-received_rows-in-None : goal.returns-in_err-received_rows-in-None
returns-in_err-received_rows-in-None g c =
    let told : c.from_residual.result ≡ Err (table_fault c.in_err-received_rows-in-None.field-0.0) = search rules in
    rw (told, c.in-None.is) (dates_failed g.S.Store c.args.conn.now c.received_rows.new.conn
    c.in_err-received_rows-in-None.field-0.0 c.in_err-received_rows-in-None.ensures.failed
    c.in_err-received_rows-in-None.ensures.leaves)

pub returns-in_ok-received_rows-in-None : goal.returns-in_ok-received_rows-in-None
returns-in_ok-received_rows-in-None g c =
    rw c.in-None.is (dates_read g.S.Store c.args.conn.now c.received_rows.new.conn
    c.in_ok-received_rows-in-None.field-0 c.of.result
    (rw c.deref.ensures.value at c.of.ensures) c.in_ok-received_rows-in-None.ensures.shown
    c.in_ok-received_rows-in-None.ensures.leaves)
