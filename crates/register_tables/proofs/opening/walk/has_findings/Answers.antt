use Rattle.std.proofs.Common.{◌≡◌, Err, refl, rules}
use Rattle.table_rows.specs.Picking.{has_number}
use Rattle.register_rows.specs.Register.{finding_row}
use Rattle.register_rows.specs.Schema.{finding_table}
use Rattle.register_tables.proofs.Ours.{asked_so, not_asked}
use Rattle.register_tables.proofs.WalkLemmas.{found_items}
use Rattle.register_tables.proofs.opening.walk.has_findings.Goals as goal

pub returns : goal.returns
returns g c =
    asked_so g.S.Store _ c.in_ok-rows.rows c.are_items.result
    (found_items finding_table (has_number c.args.seq) (finding_row c.args.seq)
    (λ _ _. refl) c.args.findings.now c.in_ok-rows.rows.items c.are_items.result
    (rw c.deref.ensures.value at c.are_items.ensures)) c.in_ok-rows.ensures.asks

pub returns-in_err-rows : goal.returns-in_err-rows
returns-in_err-rows g c =
    let told : c.from_residual.result ≡ Err c.in_err-rows.field-0.0 = search rules in
    rw told (not_asked g.S.Store _ c.in_err-rows.field-0.0 c.in_err-rows.ensures.asks)
