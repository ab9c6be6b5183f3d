-- What the texts on the rows mean under the declared tables.
use Rattle.std.proofs.Common.{◌≡◌, List, [], ◌∷◌, codes, refl, pos}
use Rattle.sqlite.specs.Table.{Table}
use Rattle.sqlite_schema.specs.declared.schema.Index.{Index}
use Rattle.sqlite_schema.specs.declared.schema.View.{View}
use Rattle.sqlite.specs.Schema.{Schema}
use Rattle.sqlite.specs.declared.types.Value.TheVariants.{Null, Int, Text}
use Rattle.sqlite.specs.Term.{lit}
use Rattle.sqlite.specs.Source.TheVariants.{Values}
use Rattle.sqlite.specs.Command.TheVariants.{Insert}
use Rattle.sqlite_tied.specs.Compute.{everything}
use Rattle.sqlite.specs.Listing.{understood}
use Rattle.sqlite.proofs.Callers.{IsPlain, command_of}
use Rattle.table_rows.specs.Tables.{schema_with}
use Rattle.register_tables.specs.Making.{insert_meta, insert_none_old_style}
use Rattle.register_rows.specs.Schema.{register_tables}

module _ (tables : List Table) (indexes : List Index) (views : List View) where
  abbrev schema : Schema
  schema = schema_with register_tables tables indexes views

  pub inserts_meta : (command_of (understood schema insert_meta)
      ≡ Insert 0 (Values (lit (Int (pos 1)) ∷ lit Null ∷ lit (Text (codes "register")) ∷ lit (Int (pos 5)) ∷ []) 4))
      × IsPlain (understood schema insert_meta)
  unfolding understood everything
  inserts_meta = (refl, (refl, refl))

  pub inserts_none_old_style : (command_of (understood schema insert_none_old_style)
      ≡ Insert 5 (Values (lit (Int (pos 1)) ∷ lit Null ∷ lit (Int (pos 0)) ∷ []) 3))
      × IsPlain (understood schema insert_none_old_style)
  unfolding understood everything
  inserts_none_old_style = (refl, (refl, refl))
