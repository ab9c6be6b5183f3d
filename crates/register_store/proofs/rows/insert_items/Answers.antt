use Rattle.std.proofs.Common.{◌≡◌, ◌+◌, ◌++◌, take, length, [], ◌∷◌, refl, ap, sym, subst, ◌∙◌, arith, rules}
use Rattle.std.proofs.Math.Seq.{take-length}
use Rattle.sqlite.specs.Held.{state}
use Rattle.sqlite.specs.State.{HasCleanDisk}
use Rattle.table_rows.specs.Rows.{counted_from}
use Rattle.table_rows.proofs.StepLemmas.{begins, goes_on, counted_more}
use Rattle.register_rows.specs.Schema.{register_tables}
use Rattle.register_tables.specs.Gains.{GainsRows}
use Rattle.table_rows.proofs.InsideLemmas.{writes_then, writes_nothing}
use Rattle.register_store.proofs.rows.insert_items.Goals as goal

pub items-preserved : goal.items-preserved
items-preserved g c =
    let first = state g.S.Store c.args.tx.now.conn.now in
    let old = state g.S.Store c.items.tx.conn.now in
    let now = state g.S.Store c.insert.new.tx.conn.now in
    let made = c.in_ok-insert.ensures in
    record {
      count = ap (λ n. n + 1) c.items.invariant.count;
      gains = λ clean inside.
          let was_clean : HasCleanDisk old = omega (arith, made.leaves.survives.clean) in
          let i = c.items.item-index in
          let item = c.item-item.result in
          let both =
          goes_on register_tables g.T.InsertItem.table _ _ first old now (c.items.invariant.gains was_clean inside)
          (made.gains clean) in
          let index : c.items.at + 1 ≡ 1 + i = omega (arith, c.items.invariant.count) in
          let rows = counted_more (g.T.RowItem.row_of c.args.number) c.args.items.now i item c.items-test.true in
          subst (λ rows. GainsRows g.T.InsertItem.table rows first now)
          (sym (rows ∙ ap (λ x. counted_from (g.T.RowItem.row_of c.args.number) 1 (take i c.args.items.now)
          ++ x ∷ []) (rw (← index, ← c.item-item.is) refl))) both;
      leaves = writes_then c.items.invariant.leaves made.leaves;
    }

pub returns-clause-gains : goal.returns-clause-gains
returns-clause-gains g c clean inside =
    let end : c.items.item-index ≡ length c.args.items.now = search rules in
    let whole = ap (λ n. take n c.args.items.now) end ∙ take-length c.args.items.now in
    subst (λ xs. GainsRows g.T.InsertItem.table (counted_from (g.T.RowItem.row_of c.args.number) 1 xs)
    (state g.S.Store c.args.tx.now.conn.now) (state g.S.Store c.items.tx.conn.now)) whole
    (c.items.invariant.gains clean inside)

pub items-init : goal.items-init
items-init g c = record {
  count = refl;
  gains = λ clean inside. begins register_tables g.T.InsertItem.table (state g.S.Store c.args.tx.now.conn.now) inside;
  leaves = writes_nothing g.S.Store c.args.tx.now.conn;
}

pub returns-in_err-insert-clause-leaves : goal.returns-in_err-insert-clause-leaves
returns-in_err-insert-clause-leaves g c = writes_then c.items.invariant.leaves c.in_err-insert.ensures.leaves
