use Rattle.std.proofs.Common.{◌+◌, ◌≤◌, ◌<◌, [], length, map, sym, ◌∙◌, ap, arith}
use Rattle.sqlite.specs.Held.{state}
use Rattle.xbrl_report.specs.ReportParts.{facts}
use Rattle.filing_model.specs.Register.{Filing, register}
use Rattle.filing_model.proofs.Keeping.{register_numbered}
use Rattle.register_rows.specs.Columns.{fact_in}
use Rattle.register_store.specs.Numbered.{filing_numbered}
use Rattle.std.specs.Prelude.{option_map}
use Rattle.register_store.proofs.StoreLemmas.{keeps_store, leaves}
use Rattle.register_store.proofs.ListLemmas.{knows}
use Rattle.register_store.proofs.FactLemmas.{facts_read, is_there, is_absent, some_list}
use Rattle.register_store.proofs.store.Store.facts.Goals.{then-number-eq0-via-then-number-eq0}
use Rattle.register_store.proofs.store.Store.facts.Goals.{then-number-eq0-via-else-number-eq0+then-self-number}
use Rattle.table_rows.proofs.LeavingLemmas.{none_yet, stands}
use Rattle.register_store.proofs.store.Store.facts.Goals as goal

pub returns-then-number-eq0-clause-facts : goal.returns-then-number-eq0-clause-facts
returns-then-number-eq0-clause-facts g c clean F has =
    let had = rw (← c.self.view_is) at has in
    let n = c.args.number in
    let apart : 1 ≤ n → n < 1 + length (register F) → ⊥ = λ low high. elim c.then-number-eq0.branch [
      | then-number-eq0-via-then-number-eq0 w ↦ omega (arith, low, w.if-number-eq0.true)
      | then-number-eq0-via-else-number-eq0+then-self-number w ↦ omega (
        arith,
        high,
        had.filings_is,
        w.if-self-number.true,
      )
    ] in
    sym (ap (option_map (λ (f : Filing). facts f.request.body))
    (is_absent n 1 (register F) (register_numbered F) apart))

pub returns-clause-facts : goal.returns-clause-facts
returns-clause-facts g c clean F has =
    let had = rw (← c.self.view_is) at has in
    let n = c.args.number in
    let there =
    is_there n 1 (register F) (register_numbered F) (omega (arith, c.if-number-eq0.false))
    (omega (arith, had.filings_is, c.if-self-number.false)) in
    let read =
    facts_read F (state g.S.Store c.self.inside.conn) (state g.S.Store c.facts_of_filing.new.conn)
    c.in_ok-rows.rows.items had.stands n (c.in_ok-rows.ensures.read clean (knows F _ had.stands)) in
    some_list (λ (f : Filing). facts f.request.body) (filing_numbered n (register F)) _ [] there (c.in_ok-facts.ensures
    ∙ ap (map fact_in) c.deref.ensures.value ∙ read)

pub returns-then-number-eq0-clause-keeps : goal.returns-then-number-eq0-clause-keeps
returns-then-number-eq0-clause-keeps g c =
    rw (← c.self.view_is) (keeps_store g.S.Store _ c.self.inside.conn (none_yet (state g.S.Store c.self.inside.conn)))

pub returns-then-number-eq0-clause-durable : goal.returns-then-number-eq0-clause-durable
returns-then-number-eq0-clause-durable g c clean F = rw (← c.self.view_is) (λ had alive trees left.
    let conn = c.self.inside.conn in
    leaves c.self.inside.old_style F (state g.S.Store conn) had.stands alive trees
    (g.met.S.Store.settled conn.store trees alive left))

pub returns-clause-keeps : goal.returns-clause-keeps
returns-clause-keeps g c =
    rw (← c.self.view_is) (keeps_store g.S.Store _ c.facts_of_filing.new.conn c.facts_of_filing.ensures.leaves)

pub returns-clause-durable : goal.returns-clause-durable
returns-clause-durable g c clean F = rw (← c.self.view_is) (λ had alive trees left.
    let conn = c.facts_of_filing.new.conn in
    leaves c.self.inside.old_style F (state g.S.Store conn) (stands c.facts_of_filing.ensures.leaves clean had.stands)
    alive trees (g.met.S.Store.settled conn.store trees alive left))

pub returns-in_err-rows-clause-keeps : goal.returns-in_err-rows-clause-keeps
returns-in_err-rows-clause-keeps g c =
    rw (← c.self.view_is) (keeps_store g.S.Store _ c.facts_of_filing.new.conn c.facts_of_filing.ensures.leaves)

pub returns-in_err-rows-clause-durable : goal.returns-in_err-rows-clause-durable
returns-in_err-rows-clause-durable g c clean F = rw (← c.self.view_is) (λ had alive trees left.
    let conn = c.facts_of_filing.new.conn in
    leaves c.self.inside.old_style F (state g.S.Store conn) (stands c.facts_of_filing.ensures.leaves clean had.stands)
    alive trees (g.met.S.Store.settled conn.store trees alive left))

pub returns-in_err-facts-clause-keeps : goal.returns-in_err-facts-clause-keeps
returns-in_err-facts-clause-keeps g c =
    rw (← c.self.view_is) (keeps_store g.S.Store _ c.facts_of_filing.new.conn c.facts_of_filing.ensures.leaves)

pub returns-in_err-facts-clause-durable : goal.returns-in_err-facts-clause-durable
returns-in_err-facts-clause-durable g c clean F = rw (← c.self.view_is) (λ had alive trees left.
    let conn = c.facts_of_filing.new.conn in
    leaves c.self.inside.old_style F (state g.S.Store conn) (stands c.facts_of_filing.ensures.leaves clean had.stands)
    alive trees (g.met.S.Store.settled conn.store trees alive left))
