use Rattle.std.proofs.Common.{sym}
use Rattle.table_rows.proofs.FileLemmas.{leaves}
use Rattle.database_places.proofs.closing.close.Goals as goal

pub returns-in-Ok-clause-closed : goal.returns-in-Ok-clause-closed
returns-in-Ok-clause-closed g c = (
  c.in-Ok.files,
  c.leave.ensures.left,
  record {
    usable = record { log = c.in-Ok.ensures.usable.0; db = c.in-Ok.ensures.usable.1 };
    copied = c.in-Ok.ensures.copied;
    holds = λ clean. leaves c.args.conn c.in-Ok.files (c.in-Ok.ensures.copied clean);
  },
)

pub returns-in-Err-clause-refused : goal.returns-in-Err-clause-refused
returns-in-Err-clause-refused g c = (
  c.close.result,
  c.leave-in-Err.ensures.left,
  record {
    last = c.in-Err.store;
    same = sym c.close.ensures;
    closed =
        c.in-Err.ensures.err.0;
    failed = c.in-Err.ensures.err.1;
  },
)
