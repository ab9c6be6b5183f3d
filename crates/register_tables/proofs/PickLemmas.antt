-- What the statements of a walk pick.
use Rattle.std.proofs.Common.{◌≡◌, ◌<◌, ◌^◌, ◌-◌, ℕ, pos, Bool, List, [], ◌∷◌, map, filter, length, refl, subst, ◌∙◌}
use Rattle.std.proofs.Common.{IsPermutation, Option, Result, Ok, Err, IfOk, IfErr, IfSome, OnOk, arith}
use Rattle.std.specs.Prelude.{Vec}
use Rattle.std.specs.declared.alloc.Global.{Global}
use Rattle.std.proofs.Common.{◌++◌, ◌↔◌, append-nil, not, true, false, sym, ap, ap₂, min, zero, suc}
use Rattle.std.specs.List.{AllByRecursion}
use Rattle.std.proofs.lemmas.List.Elements.{All-from_recursion, filter-append, recursion_from_All}
use Rattle.std.proofs.lemmas.List.Sorted.{All-permutation, IsPermutation-append_left, IsPermutation-filter_both}
use Rattle.std.proofs.lemmas.List.Sorted.{IsPermutation-refl, IsPermutation-sym, IsPermutation-trans}
use Rattle.std.proofs.lemmas.List.Sorted.{length_permutation}
use Rattle.sqlite_keyed.proofs.ListLemmas.{filter_all, filter_none}
use Rattle.sqlite.specs.declared.types.Value.TheVariants.{Int, Text}
use Rattle.sqlite.specs.Held.{Held, state}
use Rattle.sqlite.specs.Order.{Row}
use Rattle.sqlite.specs.State.{State, HasCleanDisk, FailsToQuery, Shown}
use Rattle.sqlite.specs.Store.{Ghosts}
use Rattle.sqlite.specs.Table.{Table}
use Rattle.sqlite.specs.Term.{col}
use Rattle.sqlite.specs.declared.error.Error.{Error}
use Rattle.sqlite_tied.specs.Listing.{counting}
use Rattle.table_rows.specs.Leaving.{OnlyQueries}
use Rattle.table_rows.proofs.SelectLemmas.{one_table}
use Rattle.table_rows.specs.Reading.{ReadsRows, RisesBy}
use Rattle.table_rows.proofs.QuestionLemmas.{asked, IsQuestion}
use Rattle.table_rows.proofs.StopLemmas.{length_mapped}
use Rattle.table_rows.proofs.ReadingLemmas.{reads_rows}
use Rattle.register_tables.specs.Reads.{AsksOurs, PicksInOrder, has_second, has_texts, whole, by_first, by_second}
use Rattle.register_tables.specs.Reads.{is_early, HasEarly, IsCounted, IsKnown}
use Rattle.table_rows.specs.Picking.{has_number, rows_in, CountsTo, Picks}
use Rattle.register_rows.specs.Schema.{common_tables, HasCommon, kept_table, finding_table, filing_table, fact_table}
use Rattle.table_rows.proofs.CountLemmas.{as_counted, counts_passing, told_count}
use Rattle.register_tables.specs.declared.select.picks.TheConstants.{COUNT_EARLY, FACTS_NUMBERED, FILINGS_OF}
use Rattle.register_tables.specs.declared.select.picks.TheConstants.{FINDINGS_AT, KEPT_AT, PLACES_WITH_KEY}
use Rattle.register_tables.proofs.PickTexts.{same_filer_and_key, asks_count_early, asks_facts_numbered, asks_filings_of}
use Rattle.register_tables.proofs.PickTexts.{asks_findings_at, asks_kept_at, asks_with_key, below_first}
use Rattle.register_tables.proofs.ListLemmas.{map_whole}
use Rattle.register_tables.proofs.Questions.{asks_ours}
use Rattle.register_tables.proofs.ReadTexts.{columns, equals}

-- ---- the rows that are picked

picked : (table : Table) (keep : Row → Bool) (sort : Row → Row) (rows : List Row) (old new : State)
    → ReadsRows table keep sort whole rows old new → Picks table keep rows old.now
picked table keep sort rows old new r = let all = rows_in old.now table in
    subst (λ l. IsPermutation l rows) (map_whole (filter keep all)) (r.any all (IsPermutation-refl all))

all_pass : (p : Row → Bool) (xs : List Row) → AllByRecursion (λ x. p x ≡ true) (filter p xs)
all_pass p [] = tt
all_pass p (x ∷ xs) = go (p x) refl (all_pass p xs)
  where
    go : (b : Bool) → p x ≡ b → AllByRecursion (λ y. p y ≡ true) (filter p xs)
        → AllByRecursion (λ y. p y ≡ true) (filter p (x ∷ xs))
    go true is more = rw is (is, more)
    go false is more = rw is more

none_pass : (p : Row → Bool) (xs : List Row) → AllByRecursion (λ x. p x ≡ false) (filter (λ x. not (p x)) xs)
none_pass p [] = tt
none_pass p (x ∷ xs) = go (p x) refl (none_pass p xs)
  where
    go : (b : Bool) → p x ≡ b → AllByRecursion (λ y. p y ≡ false) (filter (λ y. not (p y)) xs)
        → AllByRecursion (λ y. p y ≡ false) (filter (λ y. not (p y)) (x ∷ xs))
    go true is more = rw is more
    go false is more = rw is (is, more)

-- what passes comes in the order of the second column
in_order : (table : Table) (keep : Row → Bool) (rows : List Row) (old new : State)
    → ReadsRows table keep by_second whole rows old new → PicksInOrder table keep rows old.now
in_order table keep rows old new r = record {
  picks = picked table keep by_second rows old new r;
  ordered = λ wanted some rises.
      let all = rows_in old.now table in
      let other : Row → Bool = λ x. not (keep x) in
      let front : IsPermutation all (filter keep all ++ filter other all) =
      IsPermutation-filter_both keep other (λ _. refl) all in
      let arranged : IsPermutation (wanted ++ filter other all) all =
      IsPermutation-sym _ _ (IsPermutation-trans _ _ _ front
      (IsPermutation-append_left (filter other all) (filter keep all) wanted some)) in
      let passing : AllByRecursion (λ x. keep x ≡ true) wanted =
      recursion_from_All (λ x. keep x ≡ true) wanted (All-permutation (λ x. keep x ≡ true) (filter keep all) wanted some
      (All-from_recursion (λ x. keep x ≡ true) (filter keep all) (all_pass keep all))) in
      let mine : filter keep wanted ≡ wanted = filter_all keep wanted passing in
      let none : filter keep (filter other all) ≡ [] = filter_none keep (filter other all) (none_pass keep all) in
      let them : filter keep (wanted ++ filter other all) ≡ wanted =
      filter-append keep wanted (filter other all) ∙ ap₂ ◌++◌ mine none ∙ append-nil wanted in
      r.ordered (wanted ++ filter other all) arranged (subst (RisesBy by_second) (sym them) rises)
      ∙ ap (map whole) them ∙ map_whole wanted;
}

module _ (old new : State) (d : HasCommon old.now.schema) (rows : List Row) where
  pub picks_kept_at : (n : ℕ) → Shown KEPT_AT.now (Int (pos n) ∷ []) old new rows
      → Picks kept_table (has_number n) rows old.now
  picks_kept_at n h =
      picked kept_table (has_number n) by_first rows old new
      (reads_rows common_tables kept_table KEPT_AT.now (equals 0) (columns (0 ∷ 2 ∷ 3 ∷ 4 ∷ 5 ∷ [])) (col 1 0 ∷ [])
      (asked (asks_kept_at n)) (Int (pos n) ∷ []) old new (λ _. d) (has_number n) (λ _. refl) by_first (λ _. refl) whole
      (λ _. refl) (λ _. refl) rows h)

  pub picks_findings_at : (n : ℕ) → Shown FINDINGS_AT.now (Int (pos n) ∷ []) old new rows
      → PicksInOrder finding_table (has_number n) rows old.now
  picks_findings_at n h =
      in_order finding_table (has_number n) rows old new
      (reads_rows common_tables finding_table FINDINGS_AT.now (equals 1) (columns (1 ∷ 2 ∷ 3 ∷ 4 ∷ [])) (col 1 2 ∷ [])
      (asked (asks_findings_at n)) (Int (pos n) ∷ []) old new (λ _. d) (has_number n) (λ _. refl) by_second (λ _. refl)
      whole (λ _. refl) (λ _. refl) rows h)

  pub picks_filings_of : (n : ℕ) → Shown FILINGS_OF.now (Int (pos n) ∷ []) old new rows
      → Picks filing_table (has_second n) rows old.now
  picks_filings_of n h =
      picked filing_table (has_second n) by_first rows old new
      (reads_rows common_tables filing_table FILINGS_OF.now (equals 2) (columns (0 ∷ 2 ∷ [])) (col 1 0 ∷ [])
      (asked (asks_filings_of n)) (Int (pos n) ∷ []) old new (λ _. d) (has_second n) (λ _. refl) by_first (λ _. refl)
      whole (λ _. refl) (λ _. refl) rows h)

  pub picks_facts_numbered : (n : ℕ) → Shown FACTS_NUMBERED.now (Int (pos n) ∷ []) old new rows
      → PicksInOrder fact_table (has_number n) rows old.now
  picks_facts_numbered n h =
      in_order fact_table (has_number n) rows old new
      (reads_rows common_tables fact_table FACTS_NUMBERED.now (equals 1) (columns (1 ∷ 2 ∷ 3 ∷ 4 ∷ 5 ∷ 6 ∷ 7 ∷ []))
      (col 1 2 ∷ []) (asked (asks_facts_numbered n)) (Int (pos n) ∷ []) old new (λ _. d) (has_number n) (λ _. refl)
      by_second (λ _. refl) whole (λ _. refl) (λ _. refl) rows h)

  pub counts_with_key : (filer key : List ℕ) → Shown PLACES_WITH_KEY.now (Text filer ∷ Text key ∷ []) old new rows
      → length rows ≡ length (filter (has_texts filer key) (rows_in old.now kept_table))
  counts_with_key filer key h =
      let all = rows_in old.now kept_table in
      let r =
      reads_rows common_tables kept_table PLACES_WITH_KEY.now same_filer_and_key (columns (0 ∷ [])) (col 1 0 ∷ [])
      (asked (asks_with_key filer key)) (Text filer ∷ Text key ∷ []) old new (λ _. d) (has_texts filer key) (λ _. refl)
      by_first (λ _. refl) by_first (λ _. refl) (λ _. refl) rows h in
      length_permutation (map by_first (filter (has_texts filer key) all)) rows (r.any all (IsPermutation-refl all))
      ∙ length_mapped by_first (filter (has_texts filer key) all)

  module _ (h : Shown COUNT_EARLY.now [] old new rows) where
    abbrev early : ℕ
    early = length (filter is_early (rows_in old.now kept_table))

    early_shown : rows ≡ (as_counted early ∷ []) ∷ []
    early_shown =
        counts_passing common_tables kept_table COUNT_EARLY.now below_first (asked asks_count_early) old new d is_early
        (λ _. refl) rows h

    -- a count says whether there is one
    pub counts_early : (count : ℕ) → rows ≡ (Int (pos count) ∷ []) ∷ [] → (0 < count) ↔ HasEarly old.now
    counts_early count is =
        let told : (Int (pos count) ∷ []) ∷ [] ≡ (as_counted early ∷ []) ∷ [] = sym is ∙ early_shown in
        let same : count ≡ min early 9223372036854775807 = cc in
        (λ some. omega (arith, same, some), λ some. omega (arith, same, some))

    -- and so does one that is too great
    pub many_early : ((count : ℕ) → count < 2 ^ 63 - 1 → rows ≡ (Int (pos count) ∷ []) ∷ [] → ⊥) → HasEarly old.now
    many_early none = go early refl
      where
        go : (n : ℕ) → early ≡ n → 0 < n
        go zero is = absurd (none 0 (omega arith) (early_shown ∙ ap (λ n. (as_counted n ∷ []) ∷ []) is))
        go (suc n) is = omega arith

-- an answer says that the text is one of tables that are declared
pub knows_on_ok : (text : List ℕ) (params : Row) (old new : State) (result : Result (Vec Row Global) Error)
    → IfOk result (λ rows. Shown text params old new rows.items) → OnOk result (IsKnown old.now.schema text)
unfolding Shown
knows_on_ok text params old new (Ok rows) h = (h.0, h.1.is)
knows_on_ok text params old new (Err e) h = tt

-- ---- counts

-- a count of all rows
pub counts_all : {S : Type 0} (g : Ghosts S) (a b : Held S) {text : List ℕ} (table : Table)
    (it : IsQuestion common_tables text (counting (one_table table.tree [] [] [])) [])
    (result : Result (Option ℕ) Error)
    → (HasCleanDisk (state g b) → IfOk result (IsCounted text (state g a) (state g b)))
    → (HasCleanDisk (state g b) → IfErr result (FailsToQuery text [] (state g a) (state g b)))
    → OnlyQueries g a b result
    → AsksOurs common_tables g a b result (λ found db. IfSome found (λ count. CountsTo table count db))
counts_all g a b {text} table it result =
    asks_ours g a b it (λ d. d) result (λ d found h.
    told_count common_tables table text (asked it) (state g a) (state g b) d h.rows h.shown found h.value)
