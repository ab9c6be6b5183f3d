use Rattle.std.proofs.Common.{◌≡◌, inr, Err, rules}
use Rattle.register_tables.proofs.Surveyed.{not_surveyed, surveyed}
use Rattle.register_tables.proofs.migrate.read_earlier.Goals as goal

pub returns-clause-found : goal.returns-clause-found
returns-clause-found g c clean =
    surveyed g.S.Store c.args.conn.now c.read_form.new.conn c.read_in.new.conn c.in-Some.form c.requires
    (rw c.in-Some.is at c.in_ok-form.ensures.read) c.in_ok-form.ensures.leaves c.in_ok-counts.counts
    c.in_ok-counts.ensures clean

pub returns-in_err-counts-clause-refused : goal.returns-in_err-counts-clause-refused
returns-in_err-counts-clause-refused g c clean =
    let told : c.from_residual-in_err-counts.result ≡ Err c.in_err-counts.field-0.0 = search rules in
    rw told (not_surveyed g.S.Store c.args.conn.now c.read_form.new.conn c.read_in.new.conn c.in-Some.form c.requires
    (rw c.in-Some.is at c.in_ok-form.ensures.read) c.in_ok-form.ensures.leaves c.in_err-counts.field-0.0
    c.in_err-counts.ensures clean)

pub returns-in_default-clause-refused : goal.returns-in_default-clause-refused
returns-in_default-clause-refused g c clean =
    inr (c.read_form.new.conn, rw c.in_default.is at c.in_ok-form.ensures.read clean)
