use Rattle.std.proofs.Common.{◌∙◌}
use Rattle.sqlite.specs.Held.{state}
use Rattle.table_rows.proofs.OutcomeLemmas.{concluded}
use Rattle.register_store.proofs.ListLemmas.{knows}
use Rattle.register_store.proofs.OwnRows.{places_shown}
use Rattle.register_store.proofs.StoreLemmas.{answers_last, keeps_store}
use Rattle.register_store.proofs.store.Store.filings.Goals as goal

pub returns-clause-rows : goal.returns-clause-rows
returns-clause-rows g c clean F has =
    let had = rw (← c.self.view_is) at has in
    let filer = c.args.filer.now in
    let places =
    c.deref.ensures.value ∙ places_shown filer F (state g.S.Store c.self.inside.conn)
    (state g.S.Store c.places_of.new.conn) _ had.stands
    (c.in_ok-places.ensures.read clean (knows F _ had.stands)) in
    c.rows_at.ensures F filer had.catalogue_is places

pub returns-clause-keeps : goal.returns-clause-keeps
returns-clause-keeps g c =
    rw (← c.self.view_is) (keeps_store g.S.Store _ c.places_of.new.conn c.places_of.ensures.leaves)

pub returns-clause-durable : goal.returns-clause-durable
returns-clause-durable g c clean F = rw (← c.self.view_is) (λ had.
    answers_last g.S.Store _ c.places_of.new.conn F had clean c.rows_at.result
    (concluded c.rows_at.result c.in_ok-places.ensures.leaves) (g.met.S.Store.settled c.places_of.new.conn.store))

pub returns-in_err-places-clause-keeps : goal.returns-in_err-places-clause-keeps
returns-in_err-places-clause-keeps g c =
    rw (← c.self.view_is) (keeps_store g.S.Store _ c.places_of.new.conn c.places_of.ensures.leaves)
