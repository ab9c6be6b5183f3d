use Rattle.std.proofs.Common.{rules}
use Rattle.table_rows.proofs.InsideLemmas.{statement_writes}
use Rattle.table_rows.proofs.statement.run.Goals as goal

pub returns : goal.returns
returns g c = record {
  inside = search rules;
  ran = search rules;
  failed = search rules;
  leaves = statement_writes g.S.Store c.args.tx.now.conn c.execute.new.self.conn _ _ c.execute.result
      c.execute.ensures.same_reference c.execute.ensures.ended c.execute.ensures.runs c.execute.ensures.survives;
}

pub returns-in_err-execute : goal.returns-in_err-execute
returns-in_err-execute g c = record {
  inside = search rules;
  ran = search rules;
  failed = search rules;
  leaves = statement_writes g.S.Store c.args.tx.now.conn c.execute.new.self.conn _ _ c.execute.result
      c.execute.ensures.same_reference c.execute.ensures.ended c.execute.ensures.runs c.execute.ensures.survives;
}
