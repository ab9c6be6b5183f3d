use Rattle.std.proofs.Common.{◌≡◌, ◌∷◌, [], ℕ, ℤ, pos, Err, rules, arith}
use Rattle.sqlite.specs.Order.{Row}
use Rattle.sqlite.specs.declared.types.Value.TheVariants.{Int}
use Rattle.table_rows.specs.Rows.{counted_from}
use Rattle.register_rows.specs.Schema.{filing_table}
use Rattle.register_rows.proofs.SegmentLemmas.{length_counted}
use Rattle.register_tables.specs.Reads.{has_second}
use Rattle.register_tables.proofs.Ours.{asked_so, not_asked}
use Rattle.register_tables.proofs.WalkLemmas.{found_few}
use Rattle.register_tables.proofs.opening.walk.has_filings.Goals as goal

pub returns : goal.returns
returns g c =
    let made : ℕ → ℤ → Row = λ _ number. Int number ∷ Int (pos c.args.seq) ∷ [] in
    let many = length_counted made 1 c.args.numbers.now in
    asked_so g.S.Store _ c.in_ok-rows.rows c.are_items.result
    (found_few filing_table (has_second c.args.seq) (counted_from made 1 c.args.numbers.now) c.in_ok-rows.rows.items
    c.are_items.result (omega (arith, many, c.requires.few)) (rw c.deref.ensures.value at c.are_items.ensures))
    c.in_ok-rows.ensures.asks

pub returns-in_err-rows : goal.returns-in_err-rows
returns-in_err-rows g c =
    let told : c.from_residual.result ≡ Err c.in_err-rows.field-0.0 = search rules in
    rw told (not_asked g.S.Store _ c.in_err-rows.field-0.0 c.in_err-rows.ensures.asks)
