-- What the SELECT of a moment means under the declared tables, and what it reads.
use Rattle.std.proofs.Common.{ℤ, List, ℕ, [], ◌∷◌, codes, refl, sym, subst}
use Rattle.sqlite_schema.specs.declared.schema.Index.{Index}
use Rattle.sqlite_schema.specs.declared.schema.View.{View}
use Rattle.sqlite.specs.declared.types.Value.TheVariants.{Int}
use Rattle.sqlite.specs.Order.{Row}
use Rattle.sqlite.specs.Schema.{Schema}
use Rattle.sqlite.specs.State.{State, Shown}
use Rattle.sqlite.specs.Table.{Table}
use Rattle.sqlite.specs.Listing.{understood}
use Rattle.sqlite_tied.specs.Compute.{everything}
use Rattle.table_rows.specs.Reading.{ReadsRows}
use Rattle.table_rows.specs.Tables.{schema_with}
use Rattle.table_rows.proofs.QueryLemmas.{Asks}
use Rattle.table_rows.proofs.ReadingLemmas.{by_each, reads_rows}
use Rattle.table_rows.proofs.SelectLemmas.{one_table}
use Rattle.table_rows.proofs.TextLemmas.{IsQueryText}
use Rattle.register_rows.specs.Schema.{received_table, register_tables, IsDeclared}
use Rattle.register_tables.specs.Reads.{KnowsAll}
use Rattle.register_tables.proofs.ReadTexts.{columns, equals}
use Rattle.register_store.specs.Found.{has_seq, unsorted}
use Rattle.register_extracts.specs.Reading.{moment_alone}
use Rattle.register_extracts.specs.declared.reads.TheConstants.{MOMENT_AT}

abbrev pub moment_query : List ℕ
moment_query = MOMENT_AT.now

pub query_moment : IsQueryText moment_query
unfolding everything
query_moment = refl

module _ (tables : List Table) (indexes : List Index) (views : List View) where
  asked : Asks (schema_with register_tables tables indexes views) moment_query
      (one_table 11 (equals 0) (columns (2 ∷ [])) (by_each []))
  unfolding understood everything
  asked = record { names = codes "moment" ∷ []; is = refl; plain = (refl, refl); listing = refl }

asks_moment : (s : Schema) → IsDeclared s
    → Asks s moment_query (one_table 11 (equals 0) (columns (2 ∷ [])) (by_each []))
asks_moment s d =
    subst (λ t. Asks t moment_query (one_table 11 (equals 0) (columns (2 ∷ [])) (by_each []))) (sym d.is)
    (asked d.tables d.indexes d.views)

pub reads_moment : (old new : State) → KnowsAll old → (rows : List Row) (seq : ℤ)
    → Shown moment_query (Int seq ∷ []) old new rows
    → ReadsRows received_table (has_seq seq) unsorted moment_alone rows old new
reads_moment old new knows rows seq h =
    reads_rows register_tables received_table moment_query (equals 0) (columns (2 ∷ [])) [] asks_moment (Int seq ∷ [])
    old new knows (has_seq seq) (λ _. refl) unsorted (λ _. refl)
    moment_alone (λ _. refl) (λ _. refl) rows h
