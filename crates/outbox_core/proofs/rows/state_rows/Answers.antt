use Rattle.std.proofs.lemmas.Result.{IfOk-weaker}
use Rattle.sqlite.specs.Held.{state}
use Rattle.sqlite.specs.Effect.{Database}
use Rattle.table_rows.proofs.QueryLemmas.{Asks, all_told}
use Rattle.outbox_tables.specs.Entries.{Contents}
use Rattle.outbox_tables.specs.Rows.{IsOutboxOf}
use Rattle.outbox_core.proofs.Texts.{states_text, states_query, states_asks, states_reads}
use Rattle.outbox_core.proofs.SelectLemmas.{states_selected}
use Rattle.outbox_core.proofs.rows.state_rows.Goals as goal

asked : (it : Contents) (db : Database) → IsOutboxOf it db → Asks db.schema states_text states_query
asked it db o = states_asks db.schema o.rows.declared

pub select-requires : goal.select-requires
select-requires g c = states_reads

pub returns-clause-found : goal.returns-clause-found
returns-clause-found g c clean it was =
    IfOk-weaker c.select.result _ _ (λ rows shown.
    let told =
    all_told (IsOutboxOf it) states_text states_query (asked it) _ (state g.S.Store c.args.conn.now)
    (state g.S.Store c.select.new.conn) was rows.items shown in
    states_selected it.entries (state g.S.Store c.args.conn.now).now.trees rows.items told.stood.rows.entries_are
    told.answer) (c.select.ensures.shown clean)
