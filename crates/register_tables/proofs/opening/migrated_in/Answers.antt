use Rattle.std.proofs.Common.{◌≡◌, ◌≢◌, Some, Err, rules}
use Rattle.sqlite.specs.Held.{state}
use Rattle.register_tables.specs.declared.opening.form.Earlier.TheVariants.{Second}
use Rattle.register_tables.specs.Faults.{table_fault}
use Rattle.register_tables.proofs.Beside.{knows_migrated, migrated_failed, migrated_read}
use Rattle.register_tables.proofs.opening.migrated_in.Goals as goal

pub returns-in_err-migrated_rows-in_default-clause-reads : goal.returns-in_err-migrated_rows-in_default-clause-reads
returns-in_err-migrated_rows-in_default-clause-reads g c =
    let apart : c.args.form ≢ Some Second = search rules in
    let told : c.from_residual.result ≡ Err (table_fault c.in_err-migrated_rows-in_default.field-0.0) = search rules in
    rw told (migrated_failed g.S.Store c.args.conn.now c.migrated_rows.new.conn c.args.form apart
    c.in_err-migrated_rows-in_default.field-0.0 c.in_err-migrated_rows-in_default.ensures.failed
    c.in_err-migrated_rows-in_default.ensures.leaves)

pub returns-in_ok-migrated_rows-in_default-clause-reads : goal.returns-in_ok-migrated_rows-in_default-clause-reads
returns-in_ok-migrated_rows-in_default-clause-reads g c =
    let apart : c.args.form ≢ Some Second = search rules in
    migrated_read g.S.Store c.args.conn.now c.migrated_rows.new.conn c.args.form apart
    c.in_ok-migrated_rows-in_default.field-0 c.in_ok-migrated_rows-in_default.ensures.shown
    c.in_ok-migrated_rows-in_default.ensures.leaves

pub returns-in_ok-migrated_rows-in_default-clause-known : goal.returns-in_ok-migrated_rows-in_default-clause-known
returns-in_ok-migrated_rows-in_default-clause-known g c =
    let apart : c.args.form ≢ Some Second = search rules in
    λ clean. knows_migrated (state g.S.Store c.args.conn.now)
    (state g.S.Store c.migrated_rows.new.conn) c.args.form apart
    c.in_ok-migrated_rows-in_default.field-0.items (c.in_ok-migrated_rows-in_default.ensures.shown clean)
