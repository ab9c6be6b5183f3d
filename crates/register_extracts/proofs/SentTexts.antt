-- What the SELECT of a kept row means under the declared tables, and what it reads.
use Rattle.std.proofs.Common.{ℤ, List, ℕ, [], ◌∷◌, codes, refl}
use Rattle.sqlite_schema.specs.declared.schema.Index.{Index}
use Rattle.sqlite_schema.specs.declared.schema.View.{View}
use Rattle.sqlite.specs.declared.types.Value.TheVariants.{Int}
use Rattle.sqlite.specs.Order.{Row}
use Rattle.sqlite.specs.Schema.{Schema}
use Rattle.sqlite.specs.State.{State, Shown}
use Rattle.sqlite.specs.Table.{Table}
use Rattle.sqlite.specs.Term.{col}
use Rattle.sqlite.specs.Listing.{understood}
use Rattle.sqlite_tied.specs.Compute.{everything}
use Rattle.table_rows.specs.Reading.{ReadsRows}
use Rattle.table_rows.specs.Tables.{schema_with}
use Rattle.table_rows.proofs.QueryLemmas.{Asks}
use Rattle.table_rows.proofs.ReadingLemmas.{by_each, reads_rows}
use Rattle.table_rows.proofs.SelectLemmas.{one_table}
use Rattle.table_rows.proofs.TextLemmas.{IsQueryText}
use Rattle.register_rows.specs.Schema.{common_tables, kept_table, HasCommon}
use Rattle.register_tables.specs.Reads.{Knows, by_first}
use Rattle.register_tables.proofs.ReadTexts.{columns, equals, on_ours}
use Rattle.register_store.specs.Found.{has_seq}
use Rattle.register_extracts.specs.Sent.{sent_columns}

abbrev pub sent_text : List ℕ
sent_text = codes "SELECT filer, idem, body FROM kept WHERE seq = ?1 ORDER BY seq"

pub query_sent : IsQueryText sent_text
unfolding everything
query_sent = refl

module _ (tables : List Table) (indexes : List Index) (views : List View) where
  abbrev schema : Schema
  schema = schema_with common_tables tables indexes views

  asked : Asks schema sent_text (one_table 1 (equals 0) (columns (2 ∷ 3 ∷ 4 ∷ [])) (by_each (col 1 0 ∷ [])))
  unfolding understood everything
  asked = record {
    names = codes "filer" ∷ codes "idem" ∷ codes "body" ∷ [];
    is = refl;
    plain = (refl, refl);
    listing =
        refl;
  }

asks_sent : (s : Schema) → HasCommon s
    → Asks s sent_text (one_table 1 (equals 0) (columns (2 ∷ 3 ∷ 4 ∷ [])) (by_each (col 1 0 ∷ [])))
asks_sent = on_ours _ _ asked

pub reads_sent : (old new : State) → Knows old → (rows : List Row) (seq : ℤ)
    → Shown sent_text (Int seq ∷ []) old new rows
    → ReadsRows kept_table (has_seq seq) by_first sent_columns rows old new
reads_sent old new knows rows seq h =
    reads_rows common_tables kept_table sent_text (equals 0) (columns (2 ∷ 3 ∷ 4 ∷ [])) (col 1 0 ∷ []) asks_sent
    (Int seq ∷ []) old new knows (has_seq seq) (λ _. refl) by_first (λ _. refl)
    sent_columns (λ _. refl) (λ _. refl) rows h
