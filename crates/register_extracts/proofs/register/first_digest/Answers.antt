use Rattle.std.proofs.Common.{◌≡◌, ◌<◌, ◌+◌, ◌++◌, ◌∷◌, [], suc, None, get_or, length, take, ap, sym, subst, ◌∙◌, arith}
use Rattle.sqlite.specs.Held.{state}
use Rattle.sqlite.specs.State.{HasCleanDisk}
use Rattle.table_rows.proofs.LeavingLemmas.{clean_before, none_yet, passed, passed_then, stands}
use Rattle.table_rows.specs.Leaving.Ending.{Passed}
use Rattle.filing_model.specs.Register.{kept}
use Rattle.register_tables.proofs.Calls.{refuses}
use Rattle.register_store.specs.Moments.{moment_in}
use Rattle.register_extracts.specs.Digest.{IsDigestOf, digest_of, row_of, rows_of}
use Rattle.register_extracts.specs.Views.{bytes_of, count_of, view_row}
use Rattle.register_extracts.proofs.DigestWalks.{next_kept}
use Rattle.register_extracts.proofs.register.first_digest.Goals as goal

pub loop-at-init : goal.loop-at-init
loop-at-init g c = record {
  leaves = none_yet (state g.S.Store c.args.conn.now);
  counted = c.new-digest.ensures.count_is;
  digested = λ clean old_style F was moments one_each dated few dated_few. c.new-digest.ensures;
}

pub add-requires : goal.add-requires
add-requires g c = omega (arith, c.loop-at.invariant.counted, c.loop-at-test.true, c.requires)

pub loop-at-preserved : goal.loop-at-preserved
loop-at-preserved g c =
    let had = c.loop-at.invariant in
    let more = c.in_ok-request.ensures in record {
      leaves = passed_then had.leaves (passed more.leaves);
      counted = omega (arith, c.add.ensures.counted, had.counted);
      digested = λ clean old_style F was moments one_each dated few dated_few.
          let before : HasCleanDisk (state g.S.Store c.loop-at.conn) = clean_before more.leaves clean in
          let low : c.loop-at.at < length (kept F) = omega (arith, c.loop-at-test.true, few) in
          let dated_low : c.loop-at.at < length moments = omega (arith, c.loop-at-test.true, dated_few) in
          let next = next_kept 1 c.loop-at.at (kept F) moments low dated_low in
          let place : 1 + c.loop-at.at ≡ c.loop-at.at + 1 = omega arith in
          let index : c.loop-at.at + 1 ≡ suc c.loop-at.at = omega arith in
          let row : view_row c.row.result ≡ row_of next.0 (get_or moments c.loop-at.at None) = c.row.ensures
          ∙ more.found clean old_style F (stands had.leaves before was) moments one_each
          (stands had.leaves before dated) next.0 (rw place at next.1)
          ∙ ap (λ n. row_of next.0 (moment_in moments n)) index in
          let so_far = take c.loop-at.at (rows_of F moments) in
          subst (IsDigestOf (count_of c.add.new.self) (bytes_of c.add.new.self))
          (ap (λ r. so_far ++ r ∷ []) row ∙ sym next.2)
          (c.add.ensures.digested so_far (had.digested before old_style F was moments one_each dated few dated_few));
    }

pub returns : goal.returns
returns g c =
    let had = c.loop-at.invariant in
    let all : c.loop-at.at ≡ c.args.count = omega (arith, c.loop-at-test.false, c.loop-at.auto.at-end) in record {
      digested = λ clean old_style F was moments one_each dated few dated_few.
          let is = had.digested clean old_style F was moments one_each dated few dated_few in
          (had.counted ∙ all, is.digest_is ∙ ap (λ n. digest_of (take n (rows_of F moments))) all);
      leaves = had.leaves;
    }

pub returns-in_err-request-clause-leaves : goal.returns-in_err-request-clause-leaves
returns-in_err-request-clause-leaves g c =
    refuses Passed c.from_residual.result c.from_residual.ensures.0
    (passed_then c.loop-at.invariant.leaves c.in_err-request.ensures.leaves)
