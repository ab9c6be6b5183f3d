-- The texts that make the tables of a register, and what they make.
use Rattle.std.proofs.Common.{List, [], ◌∷◌, refl}
use Rattle.sqlite_schema.specs.declared.schema.Index.{Index}
use Rattle.sqlite.specs.Schema.{Schema}
use Rattle.sqlite.specs.Change.{created}
use Rattle.sqlite_tied.specs.Compute.{everything}
use Rattle.sqlite.specs.Listing.{understood}
use Rattle.sqlite_catalog.specs.Listing.{automatic}
use Rattle.table_rows.specs.Tables.{no_schema}
use Rattle.table_rows.proofs.CreateLemmas.{IsCreation}
use Rattle.register_tables.specs.Making.{create_meta, create_kept, create_finding, create_filing, create_fact}
use Rattle.register_tables.specs.Making.{create_migrated, create_amends, create_received}
use Rattle.register_rows.specs.Schema.{meta_table, kept_table, finding_table, filing_table, fact_table, migrated_table}
use Rattle.register_rows.specs.Schema.{amends_table, received_table}

abbrev pub first_schema : Schema
first_schema = created no_schema meta_table

abbrev pub second_schema : Schema
second_schema = created first_schema kept_table

abbrev pub third_schema : Schema
third_schema = created second_schema finding_table

abbrev pub fourth_schema : Schema
fourth_schema = created third_schema filing_table

abbrev pub fifth_schema : Schema
fifth_schema = created fourth_schema fact_table

abbrev pub sixth_schema : Schema
sixth_schema = created fifth_schema migrated_table

abbrev pub seventh_schema : Schema
seventh_schema = created sixth_schema amends_table

pub creates_meta : IsCreation no_schema create_meta meta_table
unfolding understood everything
creates_meta = record { command = refl; statement = refl; defined = refl; plain = (refl, refl) }

pub creates_kept : IsCreation first_schema create_kept (record kept_table { tree = 0 })
unfolding understood everything
creates_kept = record { command = refl; statement = refl; defined = refl; plain = (refl, refl) }

pub creates_finding : IsCreation second_schema create_finding (record finding_table { tree = 0 })
unfolding understood everything
creates_finding = record { command = refl; statement = refl; defined = refl; plain = (refl, refl) }

pub creates_filing : IsCreation third_schema create_filing (record filing_table { tree = 0 })
unfolding understood everything
creates_filing = record { command = refl; statement = refl; defined = refl; plain = (refl, refl) }

pub creates_fact : IsCreation fourth_schema create_fact (record fact_table { tree = 0 })
unfolding understood everything
creates_fact = record { command = refl; statement = refl; defined = refl; plain = (refl, refl) }

pub creates_migrated : IsCreation fifth_schema create_migrated (record migrated_table { tree = 0 })
unfolding understood everything
creates_migrated = record { command = refl; statement = refl; defined = refl; plain = (refl, refl) }

pub creates_amends : IsCreation sixth_schema create_amends (record amends_table { tree = 0 })
unfolding understood everything
creates_amends = record { command = refl; statement = refl; defined = refl; plain = (refl, refl) }

pub creates_received : IsCreation seventh_schema create_received (record received_table { tree = 0 })
unfolding understood everything
creates_received = record { command = refl; statement = refl; defined = refl; plain = (refl, refl) }

-- the indexes that SQLite makes for the keys
abbrev pub own_indexes : List Index
own_indexes =
    automatic kept_table 0 (2 ∷ 3 ∷ []) 2 ∷ automatic finding_table 0 (1 ∷ 2 ∷ []) 4
    ∷ automatic filing_table 0 (2 ∷ []) 6 ∷ automatic fact_table 0 (1 ∷ 2 ∷ []) 8 ∷ []
