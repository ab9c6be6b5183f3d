use Rattle.std.proofs.Common.{◌≡◌, Ok, true, not, ap, sym, ◌∙◌}
use Rattle.std.specs.Prelude.{◌&&◌}
use Rattle.std.specs.List.{list_any}
use Rattle.filing_model.specs.Register.{is_amendment_of, is_filing_of, register}
use Rattle.table_rows.specs.declared.fault.StoreFault.{StoreFault}
use Rattle.register_store.proofs.StoreLemmas.{answers_last, keeps_store}
use Rattle.register_store.proofs.store.Store.replaceable.Goals.{then-is_own, else-is_own}
use Rattle.register_store.proofs.store.Store.replaceable.Goals as goal

pub returns-clause-answer : goal.returns-clause-answer
returns-clause-answer g c clean F has =
    let had = rw (← c.self.view_is) at has in
    let filer = c.args.filer.now in
    let n = c.args.number in
    let told = c.in_ok-is_own.ensures.found clean c.self.inside.old_style F had.stands had.catalogue_is in
    elim c.if-is_own.branch [
      | then-is_own w ↦ (let there : list_any (is_filing_of filer n) (register F) ≡ true =
          sym told ∙ w.if-is_own.true in
          rw w.result-is (w.is_unreplaced.ensures F filer had.catalogue_is there
          ∙ sym (ap (λ b. b && not (list_any (is_amendment_of n) (register F))) there)))
      | else-is_own w ↦ rw w.result-is (w.if-is_own.false
          ∙ sym (ap (λ b. b && not (list_any (is_amendment_of n) (register F))) (sym told ∙ w.if-is_own.false)))
    ]

pub returns-clause-keeps : goal.returns-clause-keeps
returns-clause-keeps g c =
    rw (← c.self.view_is) (keeps_store g.S.Store _ c.has_filing.new.conn c.has_filing.ensures.leaves)

pub returns-clause-durable : goal.returns-clause-durable
returns-clause-durable g c clean F = rw (← c.self.view_is) (λ had.
    answers_last g.S.Store _ c.has_filing.new.conn F had clean {E =
    StoreFault} (Ok c.if-is_own.result) c.in_ok-is_own.ensures.leaves
    (g.met.S.Store.settled c.has_filing.new.conn.store))

pub returns-in_err-is_own-clause-keeps : goal.returns-in_err-is_own-clause-keeps
returns-in_err-is_own-clause-keeps g c =
    rw (← c.self.view_is) (keeps_store g.S.Store _ c.has_filing.new.conn c.has_filing.ensures.leaves)
