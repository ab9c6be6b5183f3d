use Rattle.std.proofs.Common.{◌+◌, ◌++◌, ◌∷◌, [], inl, inr, length, suc, refl, sym, subst, arith, Err, rules, ◌≡◌}
use Rattle.sqlite.specs.Held.{state}
use Rattle.sqlite.specs.State.{HasCleanDisk, IsUnchanged}
use Rattle.sqlite.specs.Effect.{Database}
use Rattle.filing_model.specs.Register.{kept}
use Rattle.register_rows.proofs.MoreRequests.{kept_length}
use Rattle.register_tables.specs.Walk.{NonePasses, Passes, Walked}
use Rattle.register_tables.proofs.Ours.{disk_then, ours_then}
use Rattle.register_tables.proofs.WalkLemmas.{walked_on, filed_on, none_filed}
use Rattle.table_rows.proofs.LeavingLemmas.{clean_before, ended, none_yet, passed_then}
use Rattle.register_tables.proofs.opening.walk.walk.Goals as goal

pub loop-at-preserved : goal.loop-at-preserved
loop-at-preserved g c =
    let old = state g.S.Store c.args.conn.now in
    let mid = state g.S.Store c.loop-at.conn in
    let was = c.loop-at.invariant in
    record {
      walked = λ clean ours start.
          let was_clean : HasCleanDisk mid = clean_before c.in_ok-tail.ensures.reads.leaves clean in
          let unchanged : IsUnchanged old mid = (was.leaves.left was_clean).same ours.alive in
          let there = ours_then unchanged was.leaves.survives.limit ours in
          let left = c.loop-at.left in
          let tail = c.in-Some.tail in
          let had = was.walked was_clean ours start in
          let F = had.0 in
          let long = kept_length F had.1.distinct in
          let many = had.1.many in
          let place : c.loop-at.at + 1 ≡ suc (length (kept F)) = omega (arith, long, many) in
          let passed =
          rw c.in-Some.is at c.in_ok-tail.ensures.reads.told clean there F
          (record { filed_are = had.2; number_is = had.1.number_is; place = place }) in
          let next =
          subst (λ (db : Database). Passes F (c.loop-at.at + 1) left tail db passed.0) unchanged.0.now_is
          passed.1 in
          let rows = c.args.start.amends.now in (
            F ++ passed.0 ∷ [],
            walked_on rows c.args.total c.loop-at.at left tail old.now F passed.0 had.1 next,
            filed_on rows c.args.total c.loop-at.at left tail old.now F passed.0 had.1 next c.pass.new.filed passed.2,
          );
      number = let passed = rw c.in-Some.is at c.in_ok-tail.ensures.number in let low = was.number in
          omega (arith, passed, low);
      leaves = passed_then was.leaves c.in_ok-tail.ensures.reads.leaves;
    }

pub loop-at-init : goal.loop-at-init
loop-at-init g c = record {
  walked = λ clean ours start. ([], start, none_filed c.new-filed.result c.new-filed.ensures);
  number = omega (arith, c.requires.first);
  leaves = none_yet (state g.S.Store c.args.conn.now);
}

pub returns-in_default-clause-reads : goal.returns-in_default-clause-reads
returns-in_default-clause-reads g c =
    let old = state g.S.Store c.args.conn.now in
    let mid = state g.S.Store c.loop-at.conn in
    let was = c.loop-at.invariant in
    record {
      told = λ clean ours. tt;
      refused = λ clean ours.
          let was_clean : HasCleanDisk mid = clean_before c.in_ok-tail.ensures.reads.leaves clean in
          let unchanged : IsUnchanged old mid = (was.leaves.left was_clean).same ours.alive in
          let there = ours_then unchanged was.leaves.survives.limit ours in
          let at = c.loop-at.at in
          let left = c.loop-at.left in
          inr (
            at + 1,
            refl,
            λ start.
                let had = was.walked was_clean ours start in
                let F = had.0 in
                let long = kept_length F had.1.distinct in
                let many = had.1.many in
                let place : at + 1 ≡ suc (length (kept F)) = omega (arith, long, many) in
                let none =
                rw c.in_default.is at c.in_ok-tail.ensures.reads.told clean there F
                (record { filed_are = had.2; number_is = had.1.number_is; place = place }) in
                record {
                  total = c.args.total;
                  before = F;
                  left = left;
                  place = omega (arith, many);
                  within = let low = c.loop-at.far-at in omega (arith, many, low);
                  walked = subst (λ n. Walked c.args.start.amends.now c.args.total n left old.now F) (sym many) had.1;
                  unsound = subst (λ (db : Database). NonePasses F (at + 1) left db) unchanged.0.now_is none;
                },
          );
      ours = λ is. cc;
      disk = λ is. cc;
      leaves = ended (passed_then was.leaves c.in_ok-tail.ensures.reads.leaves);
    }

pub returns-in_err-tail-clause-reads : goal.returns-in_err-tail-clause-reads
returns-in_err-tail-clause-reads g c =
    let old = state g.S.Store c.args.conn.now in
    let mid = state g.S.Store c.loop-at.conn in
    let was = c.loop-at.invariant in
    let told : c.from_residual.result ≡ Err c.in_err-tail.field-0.0 = search rules in
    rw told (record {
      told = λ clean ours. tt;
      refused = λ clean ours.
          let was_clean : HasCleanDisk mid = clean_before c.in_err-tail.ensures.reads.leaves clean in
          let unchanged : IsUnchanged old mid = (was.leaves.left was_clean).same ours.alive in
          elim (c.in_err-tail.ensures.reads.refused clean (ours_then unchanged was.leaves.survives.limit ours)) [
            | inl failure ↦ inl failure
            | inr never ↦ absurd never.2
          ];
      ours = c.in_err-tail.ensures.reads.ours;
      disk = λ is. disk_then was.leaves (c.in_err-tail.ensures.reads.disk is);
      leaves = passed_then was.leaves c.in_err-tail.ensures.reads.leaves;
    })
