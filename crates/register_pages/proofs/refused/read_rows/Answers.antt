use Rattle.std.proofs.Common.{◌+◌, [], get_or, subst, sym, take, arith}
use Rattle.std.proofs.lemmas.List.{take_all, take_more}
use Rattle.sqlite.specs.Held.{state}
use Rattle.table_rows.specs.Leaving.Ending.{Passed}
use Rattle.table_rows.proofs.LeavingLemmas.{none_yet, passed_then}
use Rattle.register_tables.proofs.Calls.{refuses}
use Rattle.register_pages.specs.Shown.{AddsRows}
use Rattle.register_pages.proofs.Showing.{rows_more}
use Rattle.register_pages.proofs.refused.read_rows.Goals as goal

pub loop-place-init : goal.loop-place-init
loop-place-init g c = record { leaves = none_yet (state g.S.Store c.args.conn.now); shown = c.new-rows.ensures }

pub loop-place-preserved : goal.loop-place-preserved
loop-place-preserved g c =
    let had = c.loop-place.invariant in
    let i = c.loop-place.place-index in
    let places = c.args.places.now in record {
      leaves = passed_then had.leaves c.in_ok-read_row.ensures.leaves;
      shown = subst (λ ps. AddsRows ps [] c.read_row.new.rows) (sym (take_more places i 0 c.loop-place-test.true))
          (rows_more (take i places) (get_or places i 0) _ _ _ had.shown c.in_ok-read_row.ensures.shown);
    }

pub returns-clause-shown : goal.returns-clause-shown
returns-clause-shown g c =
    subst (λ ps. AddsRows ps [] c.loop-place.rows)
    (take_all c.loop-place.place-index c.args.places.now (omega (arith, c.loop-place-test.false)))
    c.loop-place.invariant.shown

pub returns-in_err-read_row-clause-leaves : goal.returns-in_err-read_row-clause-leaves
returns-in_err-read_row-clause-leaves g c =
    refuses Passed c.from_residual.result c.from_residual.ensures.0
    (passed_then c.loop-place.invariant.leaves c.in_err-read_row.ensures.leaves)
