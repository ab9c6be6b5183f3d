use Rattle.std.proofs.Common.{◌≡◌, ◌+◌, ◌<◌, [], List, length, sym, subst, arith}
use Rattle.std.proofs.lemmas.List.{take_all}
use Rattle.sqlite.specs.Held.{state}
use Rattle.table_rows.proofs.LeavingLemmas.{clean_before, none_yet, passed_then, stands}
use Rattle.table_rows.specs.Leaving.Ending.{Passed}
use Rattle.filing_model.specs.Register.{Kept, kept}
use Rattle.register_tables.proofs.Calls.{refuses}
use Rattle.register_pages.specs.Gathering.{HaveSame, codes_of, senders_of}
use Rattle.register_pages.proofs.Elements.{gathered, same_itself}
use Rattle.register_pages.proofs.Senders.{next_kept}
use Rattle.register_pages.proofs.gathering.gather.Goals as goal

pub loop-at-init : goal.loop-at-init
loop-at-init g c =
    record {
      leaves = none_yet (state g.S.Store c.args.conn.now);
      gathered = λ clean old_style requests was are none.
          subst (λ codes. HaveSame codes []) (sym none) same_itself;
    }

pub loop-at-preserved : goal.loop-at-preserved
loop-at-preserved g c =
    let had = c.loop-at.invariant in
    let place : 1 + c.loop-at.at ≡ c.loop-at.at + 1 = omega arith in
    let more = c.in_ok-gather_one.ensures in record {
      leaves = passed_then had.leaves more.leaves;
      gathered = λ clean old_style requests was are none.
          let before = clean_before more.leaves clean in
          let low : c.loop-at.at < length (kept requests) = omega (arith, c.loop-at-test.true, are.kept_is) in
          let next = next_kept 1 c.loop-at.at (kept requests) low in
          gathered (λ (k : Kept). k.request.filer) [] _ _ next.0 next.2
          (had.gathered before old_style requests was are none)
          (more.gathered clean old_style requests (stands had.leaves before was) next.0 (rw place at next.1));
    }

pub returns : goal.returns
returns g c =
    let had = c.loop-at.invariant in record {
      gathered = λ clean old_style requests was are none.
          subst (λ (ks : List Kept). HaveSame (codes_of c.loop-at.filers) (senders_of ks))
          (take_all c.loop-at.at (kept requests) (omega (arith, c.loop-at-test.false, are.kept_is)))
          (had.gathered clean old_style requests was are none);
      leaves = had.leaves;
      fails = tt;
    }

pub returns-in_err-gather_one-clause-leaves : goal.returns-in_err-gather_one-clause-leaves
returns-in_err-gather_one-clause-leaves g c =
    refuses Passed c.from_residual.result c.from_residual.ensures.0
    (passed_then c.loop-at.invariant.leaves c.in_err-gather_one.ensures.leaves)
