use Rattle.std.proofs.Common.{◌≡◌, refl, inl, inr, sym, ap, subst, map, ◌∙◌, IsTrue, arith}
use Rattle.std.proofs.lemmas.Result.{IfOk-weaker, IfErr-weaker, err_from_is_err_and}
use Rattle.sqlite.specs.Held.{state}
use Rattle.sqlite.specs.Effect.{Database}
use Rattle.sqlite.specs.State.{HasCleanDisk}
use Rattle.sqlite.proofs.StateLemmas.{survives_then}
use Rattle.sqlite.proofs.Callers.{survives_begin}
use Rattle.table_rows.specs.Statements.{statement_of, begun, AreDone, AreTreesOf, WritesAll}
use Rattle.table_rows.proofs.StatementLemmas.{undone_adds_nothing, not_committed, done_inside}
use Rattle.table_rows.proofs.statements.write_all.Goals as goal

pub returns : goal.returns
returns g c =
    let all = map statement_of c.args.statements.now in
    let old = c.args.conn.now in
    let last = c.run_all.new.tx.conn.now in
    let end = c.commit.new.self.0 in
    let same : end ≡ c.conn-2-1.given.0 =
    sym (c.conn-2-1.given.1 (sym (c.run_all.ensures.leaves.same_reference
    ∙ c.transaction-tx.ensures.same_reference))) in
    let begins = c.transaction-tx.ensures.begun in
    let ran : HasCleanDisk (state g.S.Store last) → AreDone g.S.Store all (begun old) last =
    λ mid. rw begins at c.in_ok-run_all.ensures.done mid in
    let before : HasCleanDisk (state g.S.Store end) → HasCleanDisk (state g.S.Store last) =
    λ clean. omega (arith, c.commit.ensures.survives.clean) in
    let writes : WritesAll g.S.Store all old end c.commit.result = record {
      autocommit = c.commit.ensures.ended;
      written = λ clean. IfOk-weaker c.commit.result _ _ (λ _ done. record {
        last = last;
        done = ran (before clean);
        is_open = done.1.is_open;
        now_is = done.1.now_is;
        committed_is =
            done.1.committed_is;
      }) (c.commit.ensures.ok clean);
      durable =
          λ clean. IfOk-weaker c.commit.result _ _ (λ _ done trees left. g.met.S.Store.settled end.store trees
          done.1.is_open left ∙ ap (λ (d : Database). d.trees) (done.1.committed_is ∙ sym done.1.now_is))
          (c.commit.ensures.ok clean);
      undone = λ clean. IfErr-weaker c.commit.result _ _ (λ error h. record {
        last = last;
        counts = c.commit.ensures.survives.counts;
        why =
            inr (ran (before clean), h);
      }) (c.commit.ensures.err clean);
      neither = λ clean.
          let kept = rw begins at c.run_all.ensures.leaves.keeps (before clean) in
          IfErr-weaker c.commit.result _ _ (λ error h. not_committed g.S.Store old last end kept error
          (done_inside g.S.Store all (begun old) last refl (ran (before clean))) h) (c.commit.ensures.err clean);
      crash = survives_then (state g.S.Store old) (state g.S.Store last) (state g.S.Store end) _ _
          (AreTreesOf g.S.Store all old) (λ _ db none. absurd none)
          (λ late db is. record { last = last; done = ran (before late); is = is })
          (survives_begin g.S.Store old (state g.S.Store last) _
          (rw begins at c.in_ok-run_all.ensures.leaves.survives)) c.commit.ensures.survives;
    } in
    subst (λ h. WritesAll g.S.Store all old h c.commit.result) same writes

pub returns-in_err-run_all : goal.returns-in_err-run_all
returns-in_err-run_all g c =
    let all = map statement_of c.args.statements.now in
    let old = c.args.conn.now in
    let last = c.run_all.new.tx.conn.now in
    let end = c.drop-tx.new.self.0 in
    let same : end ≡ c.conn-1.given.0 =
    sym (c.conn-1.given.1 (sym (c.run_all.ensures.leaves.same_reference
    ∙ c.transaction-tx.ensures.same_reference))) in
    let begins = c.transaction-tx.ensures.begun in
    let before : HasCleanDisk (state g.S.Store end) → HasCleanDisk (state g.S.Store last) =
    λ clean. omega (arith, c.drop-tx.ensures.survives.clean) in
    let inside : IsTrue (begun old).in_transaction = refl in
    let p = err_from_is_err_and c.from_residual.result c.from_residual.ensures.1 in
    let writes : WritesAll g.S.Store all old end c.from_residual.result = record {
      autocommit = c.drop-tx.ensures.ended;
      written = λ clean. rw p.1 tt;
      durable = λ clean. rw p.1 tt;
      undone = λ clean.
          let failed = rw begins at c.in_err-run_all.ensures.stopped (before clean) in
          rw (p.1, p.2) (record {
            last = last;
            counts = c.drop-tx.ensures.survives.counts;
            why =
                inl (failed inside, c.drop-tx.ensures.undone clean);
          });
      neither = λ clean.
          let kept = rw begins at c.run_all.ensures.leaves.keeps (before clean) in
          rw p.1 (undone_adds_nothing g.S.Store old last end kept (c.drop-tx.ensures.undone clean));
      crash = survives_then (state g.S.Store old) (state g.S.Store last) (state g.S.Store end) _ _
          (AreTreesOf g.S.Store all old) (λ _ db none. absurd none) (λ _ db none. absurd none)
          (survives_begin g.S.Store old (state g.S.Store last) _ (rw begins at c.run_all.ensures.leaves.survives))
          c.drop-tx.ensures.survives;
    } in
    subst (λ h. WritesAll g.S.Store all old h c.from_residual.result) same writes
