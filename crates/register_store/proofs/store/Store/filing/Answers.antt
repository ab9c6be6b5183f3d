use Rattle.std.proofs.Common.{sym, ◌∙◌}
use Rattle.table_rows.proofs.OutcomeLemmas.{concluded}
use Rattle.register_store.proofs.CatalogueLemmas.{listed_none, listed_one}
use Rattle.register_store.proofs.StoreLemmas.{answers_last, keeps_store}
use Rattle.register_store.proofs.store.Store.filing.Goals.{then-branch, else-branch}
use Rattle.register_store.proofs.store.Store.filing.Goals as goal

pub returns-clause-row : goal.returns-clause-row
returns-clause-row g c clean F has =
    let had = rw (← c.self.view_is) at has in
    let filer = c.args.filer.now in
    let n = c.args.number in
    let told = c.in_ok-has_filing.ensures.found clean c.self.inside.old_style F had.stands had.catalogue_is in
    elim c.if-branch.branch [
      | then-branch w ↦ rw w.result-is (listed_one filer n F w.row_of.result (sym told
          ∙ w.if-branch.true) (w.row_of.ensures F had.catalogue_is))
      | else-branch w ↦ rw w.result-is (listed_none filer n F (sym told ∙ w.if-branch.false))
    ]

pub returns-clause-keeps : goal.returns-clause-keeps
returns-clause-keeps g c =
    rw (← c.self.view_is) (keeps_store g.S.Store _ c.has_filing.new.conn c.has_filing.ensures.leaves)

pub returns-clause-durable : goal.returns-clause-durable
returns-clause-durable g c clean F = rw (← c.self.view_is) (λ had.
    answers_last g.S.Store _ c.has_filing.new.conn F had clean c.if-branch.result
    (concluded c.if-branch.result c.in_ok-has_filing.ensures.leaves)
    (g.met.S.Store.settled c.has_filing.new.conn.store))

pub returns-in_err-has_filing-clause-keeps : goal.returns-in_err-has_filing-clause-keeps
returns-in_err-has_filing-clause-keeps g c =
    rw (← c.self.view_is) (keeps_store g.S.Store _ c.has_filing.new.conn c.has_filing.ensures.leaves)
