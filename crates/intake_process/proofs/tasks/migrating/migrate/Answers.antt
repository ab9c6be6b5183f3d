use Rattle.intake_process.proofs.Errands.{migrated, not_migrated}
use Rattle.intake_process.proofs.tasks.migrating.migrate.Goals as goal

pub returns : goal.returns
returns g c =
    migrated g.S.Store (g.O.Write.contents c.args.output.now) (g.O.Write.contents c.print.new.output) c.args.conn.now
    c.migrate_register.new.conn c.in-Ok.counts c.in-Ok.ensures c.print.result c.print.ensures.printed
    c.print.ensures.fault

pub returns-in-Err : goal.returns-in-Err
returns-in-Err g c =
    let out = g.O.Write.contents c.args.output.now in
    not_migrated g.S.Store out out c.args.conn.now c.migrate_register.new.conn c.in-Err.fault c.in-Err.ensures
