-- What the texts on the rows mean under the declared tables.
use Rattle.std.proofs.Common.{◌≡◌, List, [], ◌∷◌, ℕ, refl}
use Rattle.sqlite.specs.Table.{Table}
use Rattle.sqlite_schema.specs.declared.schema.Index.{Index}
use Rattle.sqlite_schema.specs.declared.schema.View.{View}
use Rattle.sqlite.specs.Schema.{Schema}
use Rattle.sqlite.specs.declared.types.Value.TheVariants.{Null}
use Rattle.sqlite.specs.Term.{lit, col}
use Rattle.sqlite.specs.Source.TheVariants.{Values}
use Rattle.sqlite.specs.Command.TheVariants.{Insert}
use Rattle.sqlite_tied.specs.Compute.{everything}
use Rattle.sqlite.specs.Listing.{understood}
use Rattle.sqlite.proofs.Callers.{IsPlain, command_of}
use Rattle.table_rows.specs.Tables.{schema_with}
use Rattle.register_rows.specs.Schema.{register_tables}
use Rattle.register_store.specs.declared.rows.TheConstants.{INSERT_AMENDS, INSERT_FACT, INSERT_FILING, INSERT_FINDING}
use Rattle.register_store.specs.declared.rows.TheConstants.{INSERT_KEPT, INSERT_RECEIVED}

abbrev pub insert_kept : List ℕ
insert_kept = INSERT_KEPT.now

abbrev pub insert_finding : List ℕ
insert_finding = INSERT_FINDING.now

abbrev pub insert_filing : List ℕ
insert_filing = INSERT_FILING.now

abbrev pub insert_fact : List ℕ
insert_fact = INSERT_FACT.now

abbrev pub insert_amends : List ℕ
insert_amends = INSERT_AMENDS.now

abbrev pub insert_received : List ℕ
insert_received = INSERT_RECEIVED.now

module _ (tables : List Table) (indexes : List Index) (views : List View) where
  abbrev schema : Schema
  schema = schema_with register_tables tables indexes views

  pub inserts_kept : command_of (understood schema insert_kept)
      ≡ Insert 1 (Values (col 0 0 ∷ lit Null ∷ col 0 1 ∷ col 0 2 ∷ col 0 3 ∷ col 0 4 ∷ []) 6)
  unfolding understood everything
  inserts_kept = refl

  pub inserts_finding : command_of (understood schema insert_finding)
      ≡ Insert 2 (Values (lit Null ∷ col 0 0 ∷ col 0 1 ∷ col 0 2 ∷ col 0 3 ∷ []) 5)
  unfolding understood everything
  inserts_finding = refl

  pub inserts_filing : command_of (understood schema insert_filing)
      ≡ Insert 3 (Values (col 0 0 ∷ lit Null ∷ col 0 1 ∷ []) 3)
  unfolding understood everything
  inserts_filing = refl

  pub inserts_fact : command_of (understood schema insert_fact)
      ≡ Insert 4 (Values (lit Null ∷ col 0 0 ∷ col 0 1 ∷ col 0 2 ∷ col 0 3 ∷ col 0 4 ∷ col 0 5 ∷ col 0 6 ∷ []) 8)
  unfolding understood everything
  inserts_fact = refl

  pub plain_inserts : IsPlain (understood schema insert_kept) × IsPlain (understood schema insert_finding)
      × IsPlain (understood schema insert_filing) × IsPlain (understood schema insert_fact)
  unfolding understood everything
  plain_inserts = ((refl, refl), (refl, refl), (refl, refl), (refl, refl))

  pub inserts_amends : (command_of (understood schema insert_amends)
      ≡ Insert 6 (Values (col 0 0 ∷ lit Null ∷ col 0 1 ∷ []) 3)) × IsPlain (understood schema insert_amends)
  unfolding understood everything
  inserts_amends = (refl, (refl, refl))

  pub inserts_received : (command_of (understood schema insert_received)
      ≡ Insert 7 (Values (col 0 0 ∷ lit Null ∷ col 0 1 ∷ []) 3)) × IsPlain (understood schema insert_received)
  unfolding understood everything
  inserts_received = (refl, (refl, refl))
