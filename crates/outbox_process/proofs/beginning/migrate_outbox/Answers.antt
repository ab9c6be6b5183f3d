use Rattle.std.proofs.Common.{refl, inl}
use Rattle.outbox_process.proofs.Migrating.{all_migrated, all_refused}
use Rattle.outbox_process.proofs.beginning.migrate_outbox.Goals as goal

pub returns-in-Ok-clause-refused : goal.returns-in-Ok-clause-refused
returns-in-Ok-clause-refused g c = inl (refl, c.in-Ok.outbox, c.in-Ok.ensures.outcome, c.into_conn.ensures)

pub returns-in-Err-NotOurs-default-clause-migrated : goal.returns-in-Err-NotOurs-default-clause-migrated
returns-in-Err-NotOurs-default-clause-migrated g c =
    all_migrated g.S.Store c.args.conn c.in-Err-NotOurs-default.back
    (rw c.in-Err-NotOurs-default.field-0-0-is at c.in-Err-NotOurs-default.ensures.back) c.migrate_earlier.result
    c.migrate_earlier.ensures.migrated

pub returns-in-Err-NotOurs-default-clause-refused : goal.returns-in-Err-NotOurs-default-clause-refused
returns-in-Err-NotOurs-default-clause-refused g c =
    all_refused g.S.Store c.args.conn c.in-Err-NotOurs-default.back
    (rw c.in-Err-NotOurs-default.field-0-0-is at c.in-Err-NotOurs-default.ensures.back) c.migrate_earlier.result
    c.migrate_earlier.ensures.refused
