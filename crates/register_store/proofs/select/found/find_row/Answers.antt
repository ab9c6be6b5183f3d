use Rattle.std.proofs.lemmas.Result.{IfOk-weaker}
use Rattle.sqlite.specs.Held.{state}
use Rattle.register_store.proofs.ListLemmas.{knows}
use Rattle.register_store.proofs.FindLemmas.{key_found}
use Rattle.table_rows.proofs.OutcomeLemmas.{concluded}
use Rattle.register_store.proofs.select.found.find_row.Goals as goal

pub returns-clause-found : goal.returns-clause-found
returns-clause-found g c clean e F was =
    let old = state g.S.Store c.args.conn.now in
    let new = state g.S.Store c.rows_with_key.new.conn in
    let read = c.in_ok-rows.ensures.read clean (knows F old was) in
    IfOk-weaker c.read_first.result _ _ (λ found h. key_found c.args.filer.now c.args.key.now F old new
    c.in_ok-rows.rows.items was read found h) c.read_first.ensures

pub returns-clause-leaves : goal.returns-clause-leaves
returns-clause-leaves g c = concluded c.read_first.result c.in_ok-rows.ensures.leaves
