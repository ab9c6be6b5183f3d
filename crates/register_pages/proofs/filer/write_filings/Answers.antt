use Rattle.std.proofs.Common.{◌≡◌, ◌+◌, ap, length, rules, subst, ◌∙◌, arith}
use Rattle.table_rows.proofs.LeavingLemmas.{passed_then}
use Rattle.register_pages.specs.Pages.{Writes, filer_page, numbered, pages_for}
use Rattle.register_pages.proofs.Adding.{page_added}
use Rattle.register_pages.proofs.filer.write_filings.Goals as goal

pub loop-at-preserved : goal.loop-at-preserved
loop-at-preserved g c =
    let had = c.loop-at.invariant in
    let page = filer_page c.args.filer.now in record {
      leaves = passed_then had.leaves c.in_ok-rows.ensures.leaves;
      written = page_added _ _ _ _ _ _ page c.loop-at.at had.written
          (c.put.ensures (page (c.loop-at.at + 1)) c.of_filer.ensures);
    }

pub returns-clause-written : goal.returns-clause-written
returns-clause-written g c =
    let many : length c.as_slice-rest.result.now ≡ length c.args.own.now.filings.items = search rules in
    let all : c.loop-at.at ≡ c.pages_for-pages.result = omega arith in
    subst (λ n. Writes c.args.missed.now c.loop-at.missed (g.F.Folder.pages c.args.folder.now)
    (g.F.Folder.pages c.loop-at.folder) (numbered (filer_page c.args.filer.now) n))
    (all ∙ c.pages_for-pages.ensures ∙ ap (pages_for 1000) many) c.loop-at.invariant.written
