use Rattle.std.proofs.Common.{◌≡◌, ◌+◌, length, ap, sym, ◌∙◌}
use Rattle.std.proofs.lemmas.Result.{IfOk-weaker}
use Rattle.sqlite.specs.Held.{state}
use Rattle.register_rows.proofs.MomentLemmas.{length-all_moments}
use Rattle.register_store.proofs.DateLemmas.{received_read}
use Rattle.register_store.proofs.ListLemmas.{knows_all}
use Rattle.register_store.proofs.StoreLemmas.{answers_last, keeps_store}
use Rattle.table_rows.proofs.OutcomeLemmas.{concluded}
use Rattle.register_store.proofs.store.Store.moments.Goals as goal

pub returns-clause-moments : goal.returns-clause-moments
returns-clause-moments g c clean F has moments had =
    let was = rw (← c.self.view_is) at has in
    let dated = rw (← c.self.view_is) at had in
    let old = state g.S.Store c.self.inside.conn in
    let read = c.in_ok-rows.ensures.read clean (knows_all F old was.stands) in
    let is = dated.stands.now read.same.0.was_open in
    let many : c.self.inside.kept ≡ is.undated + length is.dated =
    sym dated.one_each ∙ ap length is.is ∙ length-all_moments is.undated is.dated in
    IfOk-weaker c.read_all.result _ _ (λ list h. h ∙ sym is.is)
    (c.read_all.ensures is.undated is.dated many is.within (c.deref.ensures.value
    ∙ received_read moments old (state g.S.Store c.received_rows.new.conn) c.in_ok-rows.rows.items dated.stands read))

pub returns-clause-keeps : goal.returns-clause-keeps
returns-clause-keeps g c =
    rw (← c.self.view_is) (keeps_store g.S.Store _ c.received_rows.new.conn c.received_rows.ensures.leaves)

pub returns-clause-durable : goal.returns-clause-durable
returns-clause-durable g c clean F = rw (← c.self.view_is) (λ had.
    answers_last g.S.Store _ c.received_rows.new.conn F had clean c.read_all.result
    (concluded c.read_all.result c.in_ok-rows.ensures.leaves)
    (g.met.S.Store.settled c.received_rows.new.conn.store))

pub returns-in_err-rows-clause-keeps : goal.returns-in_err-rows-clause-keeps
returns-in_err-rows-clause-keeps g c =
    rw (← c.self.view_is) (keeps_store g.S.Store _ c.received_rows.new.conn c.received_rows.ensures.leaves)
