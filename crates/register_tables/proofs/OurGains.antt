-- What each INSERT of ours adds.
use Rattle.std.proofs.Common.{ℕ, pos, [], ◌∷◌, Ok, refl}
use Rattle.sqlite.specs.Effect.{IsDatabase}
use Rattle.sqlite.specs.State.{State, ExecutesInside}
use Rattle.table_rows.specs.Tables.{schema_with}
use Rattle.table_rows.proofs.GainLemmas.{inside, gained, cast_int}
use Rattle.table_rows.proofs.InsertLemmas.{inserts}
use Rattle.register_rows.specs.Schema.{register_tables, IsDeclared, meta_table, migrated_table}
use Rattle.register_rows.specs.Register.{meta_row, migrated_row}
use Rattle.register_tables.specs.Gains.{GainsRows}
use Rattle.register_tables.specs.Making.{insert_meta, insert_none_old_style}
use Rattle.register_tables.proofs.Texts.{inserts_meta, inserts_none_old_style}

module _ (old new : State) where
  -- the row of the database itself; what SQLite's files can have comes of it
  pub meta_gains : (count : ℕ) → IsDeclared old.now.schema → ExecutesInside 0 insert_meta [] old new (Ok count)
      → GainsRows meta_table (meta_row ∷ []) old new × IsDatabase new.now
  meta_gains count d h =
      let means = inserts_meta d.tables d.indexes d.views in
      let i = inserts (schema_with register_tables d.tables d.indexes d.views) 0 _ _ _ _ _ _ _ refl _ 4 (λ _. refl)
      insert_meta _ old new count d.is means.0 means.1 h.0 in
      let g = gained register_tables meta_table _ meta_row old.now new.now d i
      (λ row is. rw (is, cast_int (pos 1), cast_int (pos 5)) refl) in
      (record { gains = λ _. g; inside = h.1.mode; committed = h.1.committed_is }, i.sound)

  -- the row that says that no request was kept before there were problem details
  pub none_old_style_gains : (count : ℕ) → ExecutesInside 0 insert_none_old_style [] old new (Ok count)
      → GainsRows migrated_table (migrated_row 0 ∷ []) old new
  none_old_style_gains count = inside register_tables migrated_table _ insert_none_old_style _ old new count (λ ran d.
      let means = inserts_none_old_style d.tables d.indexes d.views in
      let i = inserts (schema_with register_tables d.tables d.indexes d.views) 5 _ _ _ _ _ _ _ refl _ 3 (λ _. refl)
      insert_none_old_style _ old new count d.is means.0 means.1 ran in
      gained register_tables migrated_table _ (migrated_row 0) old.now new.now d i
      (λ row is. rw (is, cast_int (pos 1), cast_int (pos 0)) refl))
