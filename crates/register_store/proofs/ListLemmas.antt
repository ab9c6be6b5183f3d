-- What the rows that are read say of the requests that they stand for.
use Rattle.std.proofs.Common.{◌≡◌, ℕ, List, map, refl, sym, ap, subst, ◌∙◌}
use Rattle.sqlite.specs.Order.{Row}
use Rattle.sqlite.specs.State.{State}
use Rattle.filing_model.specs.Request.{Request}
use Rattle.filing_model.specs.Register.{kept}
use Rattle.table_rows.specs.Rows.{counted_from}
use Rattle.table_rows.specs.Reading.{RisesBy, ReadsRows}
use Rattle.table_rows.specs.Standing.{HasCommitted}
use Rattle.table_rows.proofs.OrderLemmas.{counted_rise}
use Rattle.register_tables.specs.Reads.{Knows, KnowsAll, every, whole, by_first}
use Rattle.register_rows.specs.Register.{kept_row, amends_rows, joined_from}
use Rattle.register_rows.specs.Schema.{kept_table, amends_table}
use Rattle.register_tables.proofs.CommonLemmas.{has_common}
use Rattle.register_tables.specs.Registers.{IsRegisterOf}
use Rattle.register_tables.proofs.ListLemmas.{filter_every, map_whole, amends_rise}

pub knows : {old_style : ℕ} (F : List Request) (s : State) → HasCommitted (IsRegisterOf old_style F) s → Knows s
knows F s was alive = has_common s.now.schema (was.now alive).rows.rows.declared

-- all kept rows, in order
pub kept_read : {old_style : ℕ} (F : List Request) (old new : State) (rows : List Row)
    → HasCommitted (IsRegisterOf old_style F) old → ReadsRows kept_table every by_first whole rows old new
    → rows ≡ counted_from kept_row 1 (kept F)
kept_read F old new rows was r =
    let wanted = counted_from kept_row 1 (kept F) in
    let has = (was.now r.same.0.was_open).rows.rows.kept_is in
    let same = filter_every wanted in
    r.ordered wanted has (subst (RisesBy by_first) (sym same) (counted_rise kept_row by_first (λ _ _. refl) 1 (kept F)))
    ∙ ap (map whole) same ∙ map_whole wanted

pub knows_all : {old_style : ℕ} (F : List Request) (s : State) → HasCommitted (IsRegisterOf old_style F) s → KnowsAll s
knows_all F s was alive = (was.now alive).rows.rows.declared

-- all rows of `amends`, in order
pub amends_read : {old_style : ℕ} (F : List Request) (old new : State) (rows : List Row)
    → HasCommitted (IsRegisterOf old_style F) old → ReadsRows amends_table every by_first whole rows old new
    → rows ≡ joined_from amends_rows 1 (kept F)
amends_read F old new rows was r =
    let wanted = joined_from amends_rows 1 (kept F) in
    let has = (was.now r.same.0.was_open).rows.rows.amends_is in
    let same = filter_every wanted in
    r.ordered wanted has (subst (RisesBy by_first) (sym same) (amends_rise 1 (kept F))) ∙ ap (map whole) same
    ∙ map_whole wanted
