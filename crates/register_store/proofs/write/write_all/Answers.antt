use Rattle.std.proofs.Common.{◌≡◌, ◌+◌, ◌++◌, take, length, [], ◌∷◌, refl, ap, sym, subst, ◌∙◌, arith, rules}
use Rattle.std.proofs.Math.Seq.{take-length}
use Rattle.std.proofs.lemmas.List.{take_more}
use Rattle.std.proofs.lemmas.Grind.{common_steps}
use Rattle.sqlite.specs.Held.{state}
use Rattle.sqlite.specs.State.{HasCleanDisk}
use Rattle.table_rows.proofs.InsideLemmas.{writes_then, writes_nothing}
use Rattle.register_store.specs.Changes.{AddsAllInside}
use Rattle.register_store.specs.Outcomes.{number_past}
use Rattle.register_store.proofs.SeveralLemmas.{past_more, inside_more, inside_none}
use Rattle.register_store.proofs.write.write_all.Goals as goal

pub each-init : goal.each-init
each-init g c = record {
  at = omega arith;
  next_is = refl;
  few = omega arith;
  adds = λ clean inside. inside_none c.args.seq c.args.number (state g.S.Store c.args.tx.now.conn.now) inside;
  leaves = writes_nothing g.S.Store c.args.tx.now.conn;
}

pub each-preserved : goal.each-preserved
each-preserved g c =
    let first = state g.S.Store c.args.tx.now.conn.now in
    let old = state g.S.Store c.each.tx.conn.now in
    let now = state g.S.Store c.write.new.tx.conn.now in
    let i = c.each.row-index in
    let row = c.row-item.result in
    let longer : take (i + 1) c.args.rows.now ≡ take i c.args.rows.now ++ row ∷ [] =
    take_more c.args.rows.now i row c.each-test.true
    ∙ ap (λ r. take i c.args.rows.now ++ r ∷ []) (sym c.row-item.is) in
    let size : length (take i c.args.rows.now) ≡ i = grind (arith, common_steps, c.each-test.true) in
    record {
      at = omega (arith, c.each.invariant.at);
      next_is =
          rw (longer, past_more c.args.number (take i c.args.rows.now) row, ← c.each.invariant.next_is)
          (ap (λ n. c.each.next + n) (c.filings_of-next.ensures.count c.each.next));
      few = omega (arith, c.each.invariant.few, c.filings_of-next.ensures.few);
      adds = λ clean inside.
          let was_clean : HasCleanDisk old = omega (arith, c.write.ensures.leaves.survives.clean) in
          subst (λ rows. AddsAllInside c.args.seq c.args.number rows first now) (sym longer)
          (inside_more c.args.seq c.args.number (take i c.args.rows.now) row c.each.place c.each.next first old now
          (rw size c.each.invariant.at) c.each.invariant.next_is (c.each.invariant.adds was_clean inside)
          c.write.ensures.key (c.in_ok-write.ensures.adds clean));
      leaves = writes_then c.each.invariant.leaves c.write.ensures.leaves;
    }

pub returns-clause-adds : goal.returns-clause-adds
returns-clause-adds g c clean inside =
    let end : c.each.row-index ≡ length c.args.rows.now = search rules in
    let whole = ap (λ n. take n c.args.rows.now) end ∙ take-length c.args.rows.now in
    subst (λ rows. AddsAllInside c.args.seq c.args.number rows (state g.S.Store c.args.tx.now.conn.now)
    (state g.S.Store c.each.tx.conn.now)) whole (c.each.invariant.adds clean inside)

pub returns-in_err-write-clause-leaves : goal.returns-in_err-write-clause-leaves
returns-in_err-write-clause-leaves g c = writes_then c.each.invariant.leaves c.write.ensures.leaves

pub returns-clause-next : goal.returns-clause-next
returns-clause-next g c =
    let end : c.each.row-index ≡ length c.args.rows.now = search rules in
    let whole = ap (λ n. take n c.args.rows.now) end ∙ take-length c.args.rows.now in
    c.each.invariant.next_is ∙ ap (number_past c.args.number) whole
