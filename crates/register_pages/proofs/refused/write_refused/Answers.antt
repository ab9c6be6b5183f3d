use Rattle.std.proofs.Common.{◌≡◌, ◌+◌, [], ap, cond, false, length, rules, subst, sym, ◌∙◌, arith}
use Rattle.std.specs.Prelude.{◌==◌}
use Rattle.std.proofs.lemmas.Bool.{ne_eqb}
use Rattle.table_rows.proofs.LeavingLemmas.{passed_then}
use Rattle.register_pages.specs.Pages.{Writes, numbered, pages_for, refused_page}
use Rattle.register_pages.proofs.Adding.{page_added}
use Rattle.register_pages.proofs.refused.write_refused.Goals as goal

pub loop-at-preserved : goal.loop-at-preserved
loop-at-preserved g c =
    let had = c.loop-at.invariant in
    let page = refused_page c.args.filer.now in record {
      leaves = passed_then had.leaves c.in_ok-rows.ensures.leaves;
      written = page_added _ _ _ _ _ _ page c.loop-at.at had.written
          (c.put.ensures (page (c.loop-at.at + 1)) c.of_filer.ensures);
    }

pub returns-clause-written : goal.returns-clause-written
returns-clause-written g c =
    let page = refused_page c.args.filer.now in
    let reports = length c.args.own.now.refused.items in
    let size : c.len.result ≡ reports = search rules in
    let some : (reports == 0) ≡ false = ne_eqb reports 0 (λ none. c.if-len-eq0.false (size ∙ none)) in
    let many : length c.as_slice-rest.result.now ≡ reports = search rules in
    let all : c.loop-at.at ≡ c.pages_for-pages.result = omega arith in
    subst (Writes c.args.missed.now c.loop-at.missed (g.F.Folder.pages c.args.folder.now)
    (g.F.Folder.pages c.loop-at.folder)) (ap (numbered page) (all ∙ c.pages_for-pages.ensures ∙ ap (pages_for 50) many)
    ∙ sym (ap (λ t. cond t [] (numbered page (pages_for 50 reports))) some)) c.loop-at.invariant.written
