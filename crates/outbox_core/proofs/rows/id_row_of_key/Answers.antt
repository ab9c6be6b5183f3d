use Rattle.std.proofs.Common.{refl}
use Rattle.sqlite.specs.declared.types.Value.TheVariants.{Text}
use Rattle.sqlite.specs.Held.{state}
use Rattle.outbox_core.specs.Entries.{has_text}
use Rattle.outbox_tables.proofs.Texts.{equals}
use Rattle.outbox_core.proofs.Texts.{id_terms, by_key_text, by_key_asks, by_key_reads}
use Rattle.outbox_tables.proofs.SelectLemmas.{id_column, matches}
use Rattle.outbox_core.proofs.SelectLemmas.{key_matches, row_selected}
use Rattle.outbox_core.proofs.rows.id_row_of_key.Goals as goal

pub first_row-requires : goal.first_row-requires
first_row-requires g c = by_key_reads

pub returns-clause-found : goal.returns-clause-found
returns-clause-found g c clean it was =
    let old = state g.S.Store c.args.conn.now in
    let new = state g.S.Store c.first_row.new.conn in
    let ran = rw c.params-to_sql.ensures at (c.first_row.ensures.row clean) in
    row_selected by_key_text (equals 2) id_terms by_key_asks _ old new it was id_column (λ r. refl)
    (matches 1 (Text c.args.key.now)) (has_text c.args.key.now) (key_matches c.args.key.now) (λ r. refl)
    c.first_row.result ran
