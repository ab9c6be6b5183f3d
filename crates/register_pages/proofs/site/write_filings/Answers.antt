use Rattle.std.proofs.Common.{◌≡◌, ◌+◌, ◌<◌, List, length, subst, arith}
use Rattle.std.proofs.lemmas.List.{take_all}
use Rattle.sqlite.specs.Held.{state}
use Rattle.sqlite.specs.State.{HasCleanDisk}
use Rattle.filing_model.specs.Register.{Filing, register}
use Rattle.filing_model.proofs.Keeping.{register_numbered}
use Rattle.register_tables.proofs.Calls.{refuses}
use Rattle.register_extracts.proofs.Steps.{next_filing}
use Rattle.table_rows.proofs.LeavingLemmas.{clean_before, none_yet, passed_then, stands}
use Rattle.table_rows.specs.Leaving.Ending.{Passed}
use Rattle.register_pages.specs.Pages.{Writes, filing_files, files_of_filing}
use Rattle.register_pages.proofs.Adding.{pages_added, writes_none}
use Rattle.register_pages.proofs.site.write_filings.Goals as goal

pub loop-at-init : goal.loop-at-init
loop-at-init g c =
    record {
      leaves = none_yet (state g.S.Store c.args.conn.now);
      written = λ clean old_style requests was are. writes_none _ _;
    }

pub loop-at-preserved : goal.loop-at-preserved
loop-at-preserved g c =
    let had = c.loop-at.invariant in
    let more = c.in_ok-write_numbered.ensures in record {
      leaves = passed_then had.leaves more.leaves;
      written = λ clean old_style requests was are.
          let before : HasCleanDisk (state g.S.Store c.loop-at.conn) = clean_before more.leaves clean in
          let low : c.loop-at.at < length (register requests) = omega (arith, c.loop-at-test.true, are.filings_is) in
          let next = next_filing 1 c.loop-at.at (register requests) (register_numbered requests) low in
          let number : 1 + c.loop-at.at ≡ c.loop-at.at + 1 = omega arith in
          pages_added _ _ _ _ _ _ files_of_filing _ _ next.0 next.2 (had.written before old_style requests was are)
          (more.written clean old_style requests (stands had.leaves before was) next.0 are.catalogue_is
          (rw number at next.1));
    }

pub returns : goal.returns
returns g c =
    let had = c.loop-at.invariant in record {
      written = λ clean old_style requests was are.
          subst (λ (fs : List Filing). Writes c.args.missed.now c.loop-at.missed (g.F.Folder.pages c.args.folder.now)
          (g.F.Folder.pages c.loop-at.folder) (filing_files fs))
          (take_all c.loop-at.at (register requests) (omega (arith, c.loop-at-test.false, are.filings_is)))
          (had.written clean old_style requests was are);
      leaves = had.leaves;
    }

pub returns-in_err-write_numbered-clause-leaves : goal.returns-in_err-write_numbered-clause-leaves
returns-in_err-write_numbered-clause-leaves g c =
    refuses Passed c.from_residual.result c.from_residual.ensures.0
    (passed_then c.loop-at.invariant.leaves c.in_err-write_numbered.ensures.leaves)
