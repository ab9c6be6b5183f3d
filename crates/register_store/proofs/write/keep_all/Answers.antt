use Rattle.std.proofs.Common.{◌≡◌, sym, ap, subst, ◌∙◌, arith, IsTrue, Ok, refl}
use Rattle.std.proofs.lemmas.Result.{err_from_is_err_and}
use Rattle.sqlite.specs.Held.{state}
use Rattle.sqlite.specs.Effect.{Database}
use Rattle.sqlite.specs.State.{HasCleanDisk}
use Rattle.sqlite.proofs.StateLemmas.{survives_then}
use Rattle.sqlite.proofs.Callers.{survives_begin}
use Rattle.table_rows.proofs.StatementLemmas.{undone_adds_nothing, not_committed}
use Rattle.register_store.specs.Changes.{AddsAll, AddsTo, KeepsAll}
use Rattle.register_store.proofs.write.keep_all.Goals as goal

pub returns : goal.returns
returns g c =
    let old = c.args.conn.now in
    let last = c.write_all.new.tx.conn.now in
    let end = c.commit.new.self.0 in
    let begun = c.transaction-tx.ensures.begun in
    let same : end ≡ c.conn-2-1.given.0 =
    sym (c.conn-2-1.given.1 (sym (c.write_all.ensures.leaves.same_reference
    ∙ c.transaction-tx.ensures.same_reference))) in
    let rows_in = c.args.rows.now in
    let inside : IsTrue (state g.S.Store c.transaction-tx.result.conn.now).in_transaction = rw begun refl in
    let rows : HasCleanDisk (state g.S.Store last)
    → AddsAll c.args.seq c.args.number rows_in (state g.S.Store old).now (state g.S.Store last).now =
    λ mid. rw begun at (c.in_ok-next.ensures.adds mid inside).adds in
    let keeps : KeepsAll g.S.Store c.args.seq c.args.number rows_in old end (Ok c.in_ok-next.next) = record {
      next = c.in_ok-next.ensures.next;
      autocommit = c.commit.ensures.ended;
      adds = λ clean.
          let mid : HasCleanDisk (state g.S.Store last) = omega (arith, c.commit.ensures.survives.clean) in
          let kept = rw begun at c.write_all.ensures.leaves.keeps mid in
          let done = c.in_ok-commit.ensures.ok clean in record {
            was_open = kept.was_open done.1.was_open;
            is_open = done.1.is_open;
            adds = subst (AddsAll c.args.seq c.args.number rows_in (state g.S.Store old).now) (sym done.1.now_is)
                (rows mid);
            committed = done.1.committed_is ∙ sym done.1.now_is;
          };
      -- once they are kept, a crash leaves them
      durable = λ clean trees left.
          let done = c.in_ok-commit.ensures.ok clean in
          g.met.S.Store.settled end.store trees done.1.is_open left
          ∙ ap (λ (d : Database). d.trees) (done.1.committed_is ∙ sym done.1.now_is);
      neither = λ clean. tt;
      crash = survives_then (state g.S.Store old) (state g.S.Store last) (state g.S.Store end) _ _
          (AddsTo c.args.seq c.args.number rows_in (state g.S.Store old).now) (λ _ db none. absurd none)
          (λ late db is. record { db = _; adds = rows (omega (arith, c.commit.ensures.survives.clean)); is = is })
          (survives_begin g.S.Store old (state g.S.Store last) _ (rw begun at c.write_all.ensures.leaves.survives))
          c.commit.ensures.survives;
    } in
    subst (λ h. KeepsAll g.S.Store c.args.seq c.args.number rows_in old h (Ok c.in_ok-next.next)) same keeps

pub returns-in_err-commit : goal.returns-in_err-commit
returns-in_err-commit g c =
    let old = c.args.conn.now in
    let last = c.write_all.new.tx.conn.now in
    let end = c.commit.new.self.0 in
    let begun = c.transaction-tx.ensures.begun in
    let same : end ≡ c.conn-2-1.given.0 =
    sym (c.conn-2-1.given.1 (sym (c.write_all.ensures.leaves.same_reference
    ∙ c.transaction-tx.ensures.same_reference))) in
    let failed = (err_from_is_err_and c.from_residual-in_err-commit.result c.from_residual-in_err-commit.ensures.1).1 in
    let rows_in = c.args.rows.now in
    let inside : IsTrue (state g.S.Store c.transaction-tx.result.conn.now).in_transaction = rw begun refl in
    let rows : HasCleanDisk (state g.S.Store last)
    → AddsAll c.args.seq c.args.number rows_in (state g.S.Store old).now (state g.S.Store last).now =
    λ mid. rw begun at (c.in_ok-next.ensures.adds mid inside).adds in
    let keeps : KeepsAll g.S.Store c.args.seq c.args.number rows_in old end c.from_residual-in_err-commit.result =
    record {
      next = rw failed tt;
      autocommit = c.commit.ensures.ended;
      adds = λ clean. rw failed tt;
      durable = λ clean. rw failed tt;
      neither = λ clean.
          let mid : HasCleanDisk (state g.S.Store last) = omega (arith, c.commit.ensures.survives.clean) in
          let kept = rw begun at c.write_all.ensures.leaves.keeps mid in
          rw failed (not_committed g.S.Store old last end kept _
          (c.in_ok-next.ensures.adds mid inside).inside (c.in_err-commit.ensures.err clean));
      crash = survives_then (state g.S.Store old) (state g.S.Store last) (state g.S.Store end) _ _
          (AddsTo c.args.seq c.args.number rows_in (state g.S.Store old).now) (λ _ db none. absurd none)
          (λ late db is. record { db = _; adds = rows (omega (arith, c.commit.ensures.survives.clean)); is = is })
          (survives_begin g.S.Store old (state g.S.Store last) _ (rw begun at c.write_all.ensures.leaves.survives))
          c.commit.ensures.survives;
    } in
    subst (λ h. KeepsAll g.S.Store c.args.seq c.args.number rows_in old h c.from_residual-in_err-commit.result) same
    keeps

pub returns-in_err-next : goal.returns-in_err-next
returns-in_err-next g c =
    let old = c.args.conn.now in
    let last = c.write_all.new.tx.conn.now in
    let end = c.drop-tx.new.self.0 in
    let begun = c.transaction-tx.ensures.begun in
    let same : end ≡ c.conn-1.given.0 =
    sym (c.conn-1.given.1 (sym (c.write_all.ensures.leaves.same_reference
    ∙ c.transaction-tx.ensures.same_reference))) in
    let failed = (err_from_is_err_and c.from_residual.result c.from_residual.ensures.1).1 in
    let rows_in = c.args.rows.now in
    let keeps : KeepsAll g.S.Store c.args.seq c.args.number rows_in old end c.from_residual.result = record {
      next = rw failed tt;
      autocommit = c.drop-tx.ensures.ended;
      adds = λ clean. rw failed tt;
      durable = λ clean. rw failed tt;
      neither = λ clean.
          let kept = rw begun at c.write_all.ensures.leaves.keeps (omega (arith, c.drop-tx.ensures.survives.clean)) in
          rw failed (undone_adds_nothing g.S.Store old last end kept (c.drop-tx.ensures.undone clean));
      crash = survives_then (state g.S.Store old) (state g.S.Store last) (state g.S.Store end) _ _
          (AddsTo c.args.seq c.args.number rows_in (state g.S.Store old).now) (λ _ db none. absurd none)
          (λ _ db none. absurd none)
          (survives_begin g.S.Store old (state g.S.Store last) _ (rw begun at c.write_all.ensures.leaves.survives))
          c.drop-tx.ensures.survives;
    } in
    subst (λ h. KeepsAll g.S.Store c.args.seq c.args.number rows_in old h c.from_residual.result) same keeps
