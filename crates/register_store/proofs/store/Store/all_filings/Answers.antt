use Rattle.std.proofs.Common.{◌∙◌}
use Rattle.std.proofs.lemmas.Result.{IfOk-weaker}
use Rattle.register_store.proofs.StoreLemmas.{answers_last, keeps_store}
use Rattle.table_rows.proofs.OutcomeLemmas.{concluded}
use Rattle.register_store.proofs.store.Store.all_filings.Goals as goal

pub returns-clause-rows : goal.returns-clause-rows
returns-clause-rows g c clean F has =
    let told = c.in_ok-both.ensures.read clean c.self.inside.old_style F (rw (← c.self.view_is) at has).stands in
    IfOk-weaker c.read_filings.result _ _ (λ list h. h)
    (c.read_filings.ensures _ (c.deref.ensures.value ∙ told.1) (c.deref-2.ensures.value ∙ told.2))

pub returns-clause-keeps : goal.returns-clause-keeps
returns-clause-keeps g c =
    rw (← c.self.view_is) (keeps_store g.S.Store _ c.read_both.new.conn c.read_both.ensures.leaves)

pub returns-clause-durable : goal.returns-clause-durable
returns-clause-durable g c clean F = rw (← c.self.view_is) (λ had.
    answers_last g.S.Store _ c.read_both.new.conn F had clean c.read_filings.result
    (concluded c.read_filings.result c.in_ok-both.ensures.leaves)
    (g.met.S.Store.settled c.read_both.new.conn.store))

pub returns-in_err-both-clause-keeps : goal.returns-in_err-both-clause-keeps
returns-in_err-both-clause-keeps g c =
    rw (← c.self.view_is) (keeps_store g.S.Store _ c.read_both.new.conn c.read_both.ensures.leaves)
