-- What each SELECT reads.
use Rattle.std.proofs.Common.{ℕ, ℤ, pos, List, [], ◌∷◌, refl}
use Rattle.sqlite.specs.declared.types.Value.TheVariants.{Int, Text}
use Rattle.sqlite.specs.Order.{Row}
use Rattle.sqlite.specs.Term.{col}
use Rattle.sqlite.specs.State.{State, Shown}
use Rattle.table_rows.specs.Reading.{ReadsRows}
use Rattle.table_rows.proofs.ReadingLemmas.{reads_rows}
use Rattle.register_rows.specs.Schema.{common_tables, register_tables, kept_table, fact_table, amends_table}
use Rattle.register_rows.specs.Schema.{received_table}
use Rattle.register_store.specs.Found.{has_seq, unsorted, target_alone}
use Rattle.register_tables.specs.Reads.{Knows, KnowsAll, by_first, by_second}
use Rattle.register_store.specs.Reads.{has_filer, filer_alone, said}
use Rattle.register_tables.proofs.ReadTexts.{columns, equals}
use Rattle.register_store.proofs.ReadTexts.{places_of, filer_at, target_at, facts_said, asks_places_of, asks_filer}
use Rattle.register_store.proofs.ReadTexts.{asks_moment, asks_target, asks_said, moment_at}
use Rattle.table_rows.specs.Picking.{has_number}

module _ (old new : State) (knows : Knows old) (rows : List Row) where
  pub reads_places_of : (filer : List ℕ) → Shown places_of (Text filer ∷ []) old new rows
      → ReadsRows kept_table (has_filer filer) by_first by_first rows old new
  reads_places_of filer h =
      reads_rows common_tables kept_table places_of (equals 2) (columns (0 ∷ [])) (col 1 0 ∷ []) asks_places_of
      (Text filer ∷ []) old new knows (has_filer filer) (λ _. refl) by_first (λ _. refl) by_first
      (λ _. refl) (λ _. refl) rows h

  pub reads_filer : (seq : ℤ) → Shown filer_at (Int seq ∷ []) old new rows
      → ReadsRows kept_table (has_seq seq) by_first filer_alone rows old new
  reads_filer seq h =
      reads_rows common_tables kept_table filer_at (equals 0) (columns (2 ∷ [])) (col 1 0 ∷ []) asks_filer
      (Int seq ∷ []) old new knows (has_seq seq) (λ _. refl) by_first (λ _. refl)
      filer_alone (λ _. refl) (λ _. refl) rows h

  pub reads_said : (number : ℕ) → Shown facts_said (Int (pos number) ∷ []) old new rows
      → ReadsRows fact_table (has_number number) by_second said rows old new
  reads_said number h =
      reads_rows common_tables fact_table facts_said (equals 1) (columns (3 ∷ 4 ∷ 5 ∷ 6 ∷ 7 ∷ [])) (col 1 2 ∷ [])
      asks_said (Int (pos number) ∷ []) old new knows (has_number number) (λ _. refl) by_second (λ _. refl)
      said (λ _. refl) (λ _. refl) rows h

module _ (old new : State) (knows : KnowsAll old) (rows : List Row) where
  pub reads_target : (seq : ℤ) → Shown target_at (Int seq ∷ []) old new rows
      → ReadsRows amends_table (has_seq seq) unsorted target_alone rows old new
  reads_target seq h =
      reads_rows register_tables amends_table target_at (equals 0) (columns (2 ∷ [])) [] asks_target (Int seq ∷ []) old
      new knows (has_seq seq) (λ _. refl) unsorted (λ _. refl)
      target_alone (λ _. refl) (λ _. refl) rows h

  pub reads_moment : (seq : ℤ) → Shown moment_at (Int seq ∷ []) old new rows
      → ReadsRows received_table (has_seq seq) by_first by_second rows old new
  reads_moment seq h =
      reads_rows register_tables received_table moment_at (equals 0) (columns (2 ∷ [])) (col 1 0 ∷ []) asks_moment
      (Int seq ∷ []) old new knows (has_seq seq) (λ _. refl) by_first (λ _. refl)
      by_second (λ _. refl) (λ _. refl) rows h
