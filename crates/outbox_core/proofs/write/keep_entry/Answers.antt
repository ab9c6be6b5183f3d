use Rattle.std.proofs.Common.{◌≡◌, sym, subst, ◌∙◌, IsTrue, arith}
use Rattle.std.proofs.lemmas.Result.{IfOk-weaker}
use Rattle.sqlite.specs.Held.{state}
use Rattle.sqlite.specs.State.{HasCleanDisk, Survives}
use Rattle.sqlite.proofs.StateLemmas.{survives_then}
use Rattle.sqlite.proofs.Callers.{survives_begin}
use Rattle.filing_model.specs.Outbox.{Entry}
use Rattle.outbox_core.specs.Entries.{opened}
use Rattle.outbox_core.specs.Changes.{Adds, AddsRows, AddsTo}
use Rattle.outbox_core.proofs.write.keep_entry.Given as given
use Rattle.outbox_core.proofs.write.keep_entry.Goals as goal

-- the connection that comes back is that of the commit
ended : (g : given.Over) (c : goal.After-conn-2-1 g) → c.commit.new.self.0 ≡ c.conn-2-1.given.0
ended g c =
    sym (c.conn-2-1.given.1 (sym (c.write_entry.ensures.leaves.same_reference
    ∙ c.transaction-tx.ensures.same_reference)))

still_clean : (g : given.Over) (c : goal.After-conn-2-1 g) → HasCleanDisk (state g.S.Store c.conn-2-1.given.0)
    → HasCleanDisk (state g.S.Store c.commit.new.self.0)
still_clean g c clean = subst (λ h. HasCleanDisk (state g.S.Store h)) (sym (ended g c)) clean

pub returns-clause-adds : goal.returns-clause-adds
returns-clause-adds g c clean =
    let old = c.args.conn.now in
    let last = c.write_entry.new.tx.conn.now in
    let begun = c.transaction-tx.ensures.begun in
    let end = c.commit.new.self.0 in
    let same = ended g c in
    let late = still_clean g c clean in
    let mid : HasCleanDisk (state g.S.Store last) = omega (arith, c.commit.ensures.survives.clean) in
    let e : Entry = opened c.args.key.now c.args.target c.args.body.now in
    let written = c.in_ok-write_entry.ensures.adds mid in
    let rows : AddsRows c.args.id e (state g.S.Store old).now (state g.S.Store last).now = rw begun at written.adds in
    let was : IsTrue (state g.S.Store last).is_open → IsTrue (state g.S.Store old).is_open =
    λ alive. rw begun at ((c.write_entry.ensures.leaves.keeps mid).was_open alive) in
    IfOk-weaker c.commit.result _ _ (λ _ done.
    let there : Adds c.args.id e (state g.S.Store old) (state g.S.Store end) = record {
      was_open = was done.1.was_open;
      is_open = done.1.is_open;
      adds = subst (AddsRows c.args.id e (state g.S.Store old).now) (sym done.1.now_is) rows;
      committed = done.1.committed_is ∙ sym done.1.now_is;
    } in
    let here : Adds c.args.id e (state g.S.Store old) (state g.S.Store c.conn-2-1.given.0) =
    subst (λ h. Adds c.args.id e (state g.S.Store old) (state g.S.Store h)) same there in
    here) (c.commit.ensures.ok late)

pub returns-clause-crash : goal.returns-clause-crash
returns-clause-crash g c =
    let old = c.args.conn.now in
    let last = c.write_entry.new.tx.conn.now in
    let begun = c.transaction-tx.ensures.begun in
    let end = c.commit.new.self.0 in
    let same = ended g c in
    let e : Entry = opened c.args.key.now c.args.target c.args.body.now in
    let P = AddsTo c.args.id e (state g.S.Store old).now in
    let rows : HasCleanDisk (state g.S.Store last)
    → AddsRows c.args.id e (state g.S.Store old).now (state g.S.Store last).now =
    λ mid. rw begun at (c.in_ok-write_entry.ensures.adds mid).adds in
    let whole =
    survives_then (state g.S.Store old) (state g.S.Store last) (state g.S.Store end) _ _ P
    (λ _ db none. absurd none)
    (λ late db is. record { db = _; adds = rows (omega (arith, c.commit.ensures.survives.clean)); is = is })
    (survives_begin g.S.Store old (state g.S.Store last) _ (rw begun at c.write_entry.ensures.leaves.survives))
    c.commit.ensures.survives in
    subst (λ h. Survives (state g.S.Store old) (state g.S.Store h) P) same whole
