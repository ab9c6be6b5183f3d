-- The tables of every form are among those of a register.
use Rattle.std.proofs.Common.{◌∷◌}
use Rattle.sqlite.specs.Schema.{Schema}
use Rattle.register_rows.specs.Schema.{IsDeclared, HasCommon, migrated_table, amends_table, received_table}

pub has_common : (s : Schema) → IsDeclared s → HasCommon s
has_common s d =
    record {
      tables = migrated_table ∷ amends_table ∷ received_table ∷ d.tables;
      indexes = d.indexes;
      views = d.views;
      is = d.is;
    }
