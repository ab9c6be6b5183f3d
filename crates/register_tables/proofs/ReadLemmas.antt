-- What each SELECT reads.
use Rattle.std.proofs.Common.{[], ◌∷◌, List, refl}
use Rattle.sqlite.specs.Order.{Row}
use Rattle.sqlite.specs.Schema.{Schema}
use Rattle.sqlite.specs.Term.{col}
use Rattle.sqlite.specs.State.{State, Shown}
use Rattle.table_rows.specs.Reading.{ReadsRows}
use Rattle.table_rows.specs.Tables.{BeginsWith}
use Rattle.table_rows.proofs.QuestionLemmas.{asked}
use Rattle.table_rows.proofs.ReadingLemmas.{reads_rows}
use Rattle.register_rows.specs.Schema.{common_tables, register_tables, IsDeclared, kept_table, amends_table}
use Rattle.register_rows.specs.Schema.{received_table}
use Rattle.register_tables.specs.Earlier.{tables_of}
use Rattle.register_tables.specs.Opening.{all_kept, all_amends, all_received}
use Rattle.register_tables.specs.Reads.{Knows, KnowsAll, every, whole, by_first}
use Rattle.register_tables.specs.declared.opening.form.Earlier.TheVariants.{Fourth}
use Rattle.register_tables.proofs.ReadTexts.{columns, asks_kept, asks_amends, asks_received}

module _ (old new : State) (knows : Knows old) (rows : List Row) where
  pub reads_kept : Shown all_kept [] old new rows → ReadsRows kept_table every by_first whole rows old new
  reads_kept h =
      reads_rows common_tables kept_table all_kept [] (columns (0 ∷ 2 ∷ 3 ∷ 4 ∷ 5 ∷ [])) (col 1 0 ∷ [])
      (asked asks_kept) [] old new knows every (λ _. refl) by_first (λ _. refl) whole (λ _. refl) (λ _. refl) rows h

-- the tables of the present form begin with those of the fourth
fourth : (s : Schema) → IsDeclared s → BeginsWith (tables_of Fourth) s
fourth s d = record { tables = received_table ∷ d.tables; indexes = d.indexes; views = d.views; is = d.is }

module _ (old new : State) (knows : KnowsAll old) (rows : List Row) where
  pub reads_amends : Shown all_amends [] old new rows → ReadsRows amends_table every by_first whole rows old new
  reads_amends h =
      reads_rows register_tables amends_table all_amends [] (columns (0 ∷ 2 ∷ [])) (col 1 0 ∷ [])
      (λ s d. asked asks_amends s (fourth s d)) [] old new knows every (λ _. refl) by_first (λ _. refl) whole
      (λ _. refl) (λ _. refl) rows h

  pub reads_received : Shown all_received [] old new rows → ReadsRows received_table every by_first whole rows old new
  reads_received h =
      reads_rows register_tables received_table all_received [] (columns (0 ∷ 2 ∷ [])) (col 1 0 ∷ [])
      (asked asks_received) [] old new knows every (λ _. refl) by_first (λ _. refl) whole (λ _. refl) (λ _. refl) rows h
