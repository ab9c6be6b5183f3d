use Rattle.std.proofs.Common.{Bool, ◌||◌, ap, ◌∙◌, rules}
use Rattle.http_wire.specs.Conn.{conn_inbox}
use Rattle.http_wire.specs.Inbox.{is_failed}
use Rattle.http_wire.proofs.conn.Conn.reply.Goals as goal

pub returns : goal.returns
returns g c = record {
  ok = search rules;
  fine = search rules;
  fault = search rules;
  after_fault = search rules;
  over = search rules;
  closed = search rules;
  failed = c.close_after.ensures.failed
      ∙ ap (λ (fails : Bool). is_failed (conn_inbox c.args.self.now) || fails) c.is_err.ensures.value;
  reader = search rules;
  bytes = search rules;
}
