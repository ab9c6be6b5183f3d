-- What each look-up reads.
use Rattle.std.proofs.Common.{ℕ, ℤ, List, [], ◌∷◌, refl}
use Rattle.sqlite.specs.declared.types.Value.TheVariants.{Int, Text}
use Rattle.sqlite.specs.Order.{Row}
use Rattle.sqlite.specs.Term.{col}
use Rattle.sqlite.specs.State.{State, Shown}
use Rattle.table_rows.specs.Reading.{ReadsRows}
use Rattle.table_rows.proofs.ReadingLemmas.{reads_rows}
use Rattle.register_rows.specs.Schema.{common_tables, kept_table, finding_table}
use Rattle.register_tables.specs.Reads.{Knows, by_second, has_texts}
use Rattle.register_store.specs.Found.{has_seq, unsorted, found_in, pair_in}
use Rattle.register_tables.proofs.ReadTexts.{columns, equals}
use Rattle.register_store.proofs.FindTexts.{find_text, found_text, asks_key, asks_seq}
use Rattle.register_tables.proofs.PickTexts.{same_filer_and_key}

module _ (old new : State) (knows : Knows old) (rows : List Row) where
  pub reads_key : (filer key : List ℕ) → Shown find_text (Text filer ∷ Text key ∷ []) old new rows
      → ReadsRows kept_table (has_texts filer key) unsorted found_in rows old new
  reads_key filer key h =
      reads_rows common_tables kept_table find_text same_filer_and_key (columns (0 ∷ 4 ∷ 5 ∷ [])) [] asks_key
      (Text filer ∷ Text key ∷ []) old new knows
      (has_texts filer key) (λ _. refl) unsorted (λ _. refl) found_in (λ _. refl) (λ _. refl) rows h

  pub reads_seq : (seq : ℤ) → Shown found_text (Int seq ∷ []) old new rows
      → ReadsRows finding_table (has_seq seq) by_second pair_in rows old new
  reads_seq seq h =
      reads_rows common_tables finding_table found_text (equals 1) (columns (3 ∷ 4 ∷ [])) (col 1 2 ∷ []) asks_seq
      (Int seq ∷ []) old new knows
      (has_seq seq) (λ _. refl) by_second (λ _. refl) pair_in (λ _. refl) (λ _. refl) rows h
