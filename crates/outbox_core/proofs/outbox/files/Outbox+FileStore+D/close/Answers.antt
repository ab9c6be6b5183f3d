use Rattle.std.proofs.Common.{sym, ◌∙◌, rules}
use Rattle.outbox_core.proofs.FileLemmas.{closed_outbox, excused}
use Rattle.outbox_core.proofs.outbox.files.Outbox+FileStore+D.close.Goals as goal

pub returns-in-Ok : goal.returns-in-Ok
returns-in-Ok g c = record {
  held = λ clean entries has.
      closed_outbox c.args.self entries c.in-Ok.files has (rw c.into_conn.ensures at (c.in-Ok.ensures.copied clean))
      (record { log = c.in-Ok.ensures.usable.0; db = c.in-Ok.ensures.usable.1 });
  copied = search rules;
  usable = search rules;
  fault = search rules;
}

pub returns-in-Err : goal.returns-in-Err
returns-in-Err g c = record {
  held = search rules;
  copied = search rules;
  usable = search rules;
  fault =
      let err = rw c.into_conn.ensures at c.in-Err.ensures.err in
      record {
        last = c.in-Err.store;
        same = sym c.close.ensures;
        why = record {
          error = c.in-Err.error;
          named = c.from.ensures;
          closed = err.0;
          failed = err.1;
          store = λ clean is. excused c.args.self.conn c.in-Err.store c.in-Err.error (err.1 clean) (sym c.from.ensures
              ∙ is);
        };
      };
}
