-- What the SELECT of a kept row means under the declared tables, and what it reads.
use Rattle.std.proofs.Common.{ℤ, List, ℕ, [], ◌∷◌, codes, refl}
use Rattle.sqlite_schema.specs.declared.schema.Index.{Index}
use Rattle.sqlite_schema.specs.declared.schema.View.{View}
use Rattle.sqlite.specs.declared.types.Value.TheVariants.{Int}
use Rattle.sqlite.specs.Order.{Row}
use Rattle.sqlite.specs.Schema.{Schema}
use Rattle.sqlite.specs.State.{State, Shown}
use Rattle.sqlite.specs.Table.{Table}
use Rattle.sqlite.specs.Term.{col}
use Rattle.sqlite.specs.Listing.{understood}
use Rattle.sqlite_tied.specs.Compute.{everything}
use Rattle.table_rows.specs.Reading.{ReadsRows}
use Rattle.table_rows.specs.Tables.{schema_with}
use Rattle.table_rows.proofs.QueryLemmas.{Asks}
use Rattle.table_rows.proofs.ReadingLemmas.{by_each, reads_rows}
use Rattle.table_rows.proofs.SelectLemmas.{one_table}
use Rattle.table_rows.proofs.TextLemmas.{IsQueryText}
use Rattle.register_rows.specs.Schema.{common_tables, kept_table, HasCommon}
use Rattle.register_tables.specs.Reads.{Knows, by_first}
use Rattle.register_tables.proofs.ReadTexts.{columns, equals, on_ours}
use Rattle.register_store.specs.Found.{has_seq}
use Rattle.register_extracts.specs.DigestReading.{kept_columns}
use Rattle.register_extracts.specs.declared.digest_reads.TheConstants.{KEPT_AT}

abbrev pub kept_text : List ℕ
kept_text = KEPT_AT.now

pub query_kept : IsQueryText kept_text
unfolding everything
query_kept = refl

module _ (tables : List Table) (indexes : List Index) (views : List View) where
  abbrev schema : Schema
  schema = schema_with common_tables tables indexes views

  asked : Asks schema kept_text (one_table 1 (equals 0) (columns (2 ∷ 3 ∷ 4 ∷ 5 ∷ [])) (by_each (col 1 0 ∷ [])))
  unfolding understood everything
  asked = record {
    names = codes "filer" ∷ codes "idem" ∷ codes "body" ∷ codes "number" ∷ [];
    is = refl;
    plain = (refl, refl);
    listing =
        refl;
  }

asks_kept : (s : Schema) → HasCommon s
    → Asks s kept_text (one_table 1 (equals 0) (columns (2 ∷ 3 ∷ 4 ∷ 5 ∷ [])) (by_each (col 1 0 ∷ [])))
asks_kept = on_ours _ _ asked

pub reads_kept : (old new : State) → Knows old → (rows : List Row) (seq : ℤ)
    → Shown kept_text (Int seq ∷ []) old new rows
    → ReadsRows kept_table (has_seq seq) by_first kept_columns rows old new
reads_kept old new knows rows seq h =
    reads_rows common_tables kept_table kept_text (equals 0) (columns (2 ∷ 3 ∷ 4 ∷ 5 ∷ [])) (col 1 0 ∷ []) asks_kept
    (Int seq ∷ []) old new knows (has_seq seq) (λ _. refl) by_first (λ _. refl)
    kept_columns (λ _. refl) (λ _. refl) rows h
