use Rattle.std.proofs.Common.{sym, subst}
use Rattle.register_store.proofs.FiledRows.{closed_register}
use Rattle.register_store.specs.Files.{AreLeft}
use Rattle.register_store.proofs.store.files.Store+FileStore+D.close.Goals as goal

pub returns-in-Ok-clause-kept : goal.returns-in-Ok-clause-kept
returns-in-Ok-clause-kept g c clean F has =
    closed_register c.args.self F c.in-Ok.copied has (rw c.into_conn.ensures at c.in-Ok.ensures.copied clean)
    (record { log = c.in-Ok.ensures.usable.0; db = c.in-Ok.ensures.usable.1 })

pub returns-in-Err-clause-left : goal.returns-in-Err-clause-left
returns-in-Err-clause-left g c =
    let kind = c.in-Err.ensures.kind in
    let err = c.in-Err.ensures.err in
    subst (λ conn. AreLeft conn c.from.result c.close.result) c.into_conn.ensures (record {
      last = c.in-Err.store;
      same = sym c.close.ensures;
      why = record {
        error = c.in-Err.error;
        named = c.from.ensures;
        cause = kind.0;
        by = kind.1;
        closed =
            err.0;
        failed = err.1;
      };
    })
