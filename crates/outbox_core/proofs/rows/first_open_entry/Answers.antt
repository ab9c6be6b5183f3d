use Rattle.std.proofs.Common.{refl, pos}
use Rattle.sqlite.specs.declared.types.Value.TheVariants.{Int}
use Rattle.sqlite.specs.Held.{state}
use Rattle.outbox_core.specs.Entries.{is_open}
use Rattle.outbox_tables.proofs.Texts.{equals, entry_columns}
use Rattle.outbox_core.proofs.Texts.{by_state_text, by_state_asks, by_state_reads}
use Rattle.outbox_tables.proofs.SelectLemmas.{whole, matches}
use Rattle.outbox_core.proofs.SelectLemmas.{open_matches, row_selected}
use Rattle.outbox_core.proofs.rows.first_open_entry.Goals as goal

pub first_row-requires : goal.first_row-requires
first_row-requires g c = by_state_reads

pub returns-clause-found : goal.returns-clause-found
returns-clause-found g c clean it was =
    let old = state g.S.Store c.args.conn.now in
    let new = state g.S.Store c.first_row.new.conn in
    let ran = rw c.params-to_sql.ensures at (c.first_row.ensures.row clean) in
    row_selected by_state_text (equals 4) entry_columns by_state_asks _ old new it was whole (λ r. refl)
    (matches 3 (Int (pos 0))) (is_open) (open_matches) (λ r. refl) c.first_row.result ran
