-- What an opening reads beside the tables with the rows of kept requests.
use Rattle.std.proofs.Common.{◌≡◌, ◌≢◌, ℕ, List, [], ◌∷◌, map, Some, refl, sym, ap, subst, ◌∙◌}
use Rattle.std.proofs.Common.{IsPermutation, Option, None}
use Rattle.std.proofs.lemmas.List.Sorted.{IsPermutation-refl, IsPermutation-sym}
use Rattle.sqlite.specs.Order.{Row}
use Rattle.sqlite.specs.Table.{Table}
use Rattle.sqlite.specs.Schema.{Schema}
use Rattle.sqlite.specs.Term.{col}
use Rattle.sqlite.specs.Store.{Ghosts}
use Rattle.sqlite.specs.Held.{Held, state}
use Rattle.sqlite.specs.State.{State, Shown}
use Rattle.table_rows.specs.Reading.{ReadsRows, RisesBy}
use Rattle.table_rows.specs.Rows.{shown}
use Rattle.table_rows.specs.Tables.{BeginsWith}
use Rattle.table_rows.proofs.QuestionLemmas.{asked}
use Rattle.table_rows.proofs.ReadingLemmas.{reads_rows}
use Rattle.register_rows.specs.Schema.{HasCommon, common_tables, meta_table, migrated_table, amends_table}
use Rattle.register_rows.specs.Schema.{received_table}
use Rattle.register_tables.specs.declared.opening.form.Earlier.{Earlier}
use Rattle.register_tables.specs.declared.opening.form.Earlier.TheVariants.{Second, Third, Fourth}
use Rattle.register_tables.specs.Earlier.{tables_in, tables_of}
use Rattle.register_tables.specs.Opening.{all_meta, all_migrated, all_amends, all_received, IsRead}
use Rattle.register_tables.specs.Reads.{HasInOrder, IsKnown, every, whole, by_first}
use Rattle.register_tables.proofs.CommonLemmas.{has_common}
use Rattle.register_tables.proofs.ListLemmas.{filter_every, map_whole}
use Rattle.register_tables.proofs.ReadTexts.{columns, asks_amends, asks_meta, asks_migrated, asks_received}

pub is_read : {S : Type 0} (g : Ghosts S) (text : List ℕ) (old new : Held S) (rows : List Row)
    → Shown text [] (state g old) (state g new) rows → new.step_limit ≡ old.step_limit → IsRead g text old new rows
is_read g text old new rows shown limit = record { shown = shown; limit = limit }

-- a text that shows rows is one of tables that are declared
pub known : (text : List ℕ) (old new : State) (rows : List Row) → Shown text [] old new rows
    → IsKnown old.now.schema text
unfolding Shown
known text old new rows h = (h.0, h.1.is)

in_order : (table : Table) (rows : List Row) (old new : State)
    → ReadsRows table every by_first whole rows old new → HasInOrder table rows old.now
in_order table rows old new r = record {
  held = let all = map (shown table) (old.now.trees table.tree) in
      IsPermutation-sym _ _ (subst (λ l. IsPermutation l rows) (ap (map whole) (filter_every all)
      ∙ map_whole all) (r.any all (IsPermutation-refl all)));
  ordered =
      λ wanted has rises. r.ordered wanted has (subst (RisesBy by_first) (sym (filter_every wanted)) rises)
      ∙ ap (map whole) (filter_every wanted) ∙ map_whole wanted;
}

pub got_meta : (old new : State) (rows : List Row) → HasCommon old.now.schema → Shown all_meta [] old new rows
    → HasInOrder meta_table rows old.now
got_meta old new rows d h =
    in_order meta_table rows old new
    (reads_rows common_tables meta_table all_meta [] (columns (0 ∷ 2 ∷ 3 ∷ [])) (col 1 0 ∷ []) (asked asks_meta) [] old
    new (λ _. d) every (λ _. refl) by_first (λ _. refl) whole (λ _. refl) (λ _. refl) rows h)

-- ---- each form begins with the tables of every form

pub common_in : (form : Option Earlier) (s : Schema) → BeginsWith (tables_in form) s → HasCommon s
common_in (Some Second) s d = d
common_in (Some Third) s d =
    record { tables = migrated_table ∷ d.tables; indexes = d.indexes; views = d.views; is = d.is }
common_in (Some Fourth) s d =
    record { tables = migrated_table ∷ amends_table ∷ d.tables; indexes = d.indexes; views = d.views; is = d.is }
common_in None s d = has_common s d

pub third_in : (form : Option Earlier) → form ≢ Some Second → (s : Schema) → BeginsWith (tables_in form) s
    → BeginsWith (tables_of Third) s
third_in (Some Second) apart s d = absurd (apart refl)
third_in (Some Third) apart s d = d
third_in (Some Fourth) apart s d =
    record { tables = amends_table ∷ d.tables; indexes = d.indexes; views = d.views; is = d.is }
third_in None apart s d =
    record { tables = amends_table ∷ received_table ∷ d.tables; indexes = d.indexes; views = d.views; is = d.is }

pub fourth_in : (form : Option Earlier) → form ≢ Some Second → form ≢ Some Third → (s : Schema)
    → BeginsWith (tables_in form) s → BeginsWith (tables_of Fourth) s
fourth_in (Some Second) apart other s d = absurd (apart refl)
fourth_in (Some Third) apart other s d = absurd (other refl)
fourth_in (Some Fourth) apart other s d = d
fourth_in None apart other s d =
    record { tables = received_table ∷ d.tables; indexes = d.indexes; views = d.views; is = d.is }

-- ---- the tables that not every form has

pub got_third : (old new : State) (rows : List Row) → BeginsWith (tables_of Third) old.now.schema
    → Shown all_migrated [] old new rows → HasInOrder migrated_table rows old.now
got_third old new rows d h =
    in_order migrated_table rows old new
    (reads_rows (tables_of Third) migrated_table all_migrated [] (columns (0 ∷ 2 ∷ [])) (col 1 0 ∷ [])
    (asked asks_migrated) [] old new (λ _. d) every (λ _. refl) by_first (λ _. refl) whole (λ _. refl) (λ _. refl)
    rows h)

pub got_fourth : (old new : State) (rows : List Row) → BeginsWith (tables_of Fourth) old.now.schema
    → Shown all_amends [] old new rows → HasInOrder amends_table rows old.now
got_fourth old new rows d h =
    in_order amends_table rows old new
    (reads_rows (tables_of Fourth) amends_table all_amends [] (columns (0 ∷ 2 ∷ [])) (col 1 0 ∷ [])
    (asked asks_amends) [] old new (λ _. d) every (λ _. refl) by_first (λ _. refl) whole (λ _. refl) (λ _. refl)
    rows h)

pub got_received : (old new : State) (rows : List Row) → BeginsWith (tables_in None) old.now.schema
    → Shown all_received [] old new rows → HasInOrder received_table rows old.now
got_received old new rows d h =
    in_order received_table rows old new
    (reads_rows (tables_in None) received_table all_received [] (columns (0 ∷ 2 ∷ [])) (col 1 0 ∷ [])
    (asked asks_received) [] old new (λ _. d) every (λ _. refl) by_first (λ _. refl) whole (λ _. refl) (λ _. refl)
    rows h)
