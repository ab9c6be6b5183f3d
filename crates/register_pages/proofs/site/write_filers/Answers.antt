use Rattle.std.proofs.Common.{◌≡◌, ap, subst, rules}
use Rattle.std.specs.Prelude.{string_bytes}
use Rattle.filing_model.specs.Register.{kept}
use Rattle.table_rows.proofs.LeavingLemmas.{clean_before, passed_then, stands}
use Rattle.std.specs.List.{flat_map}
use Rattle.std.proofs.lemmas.Iterator.Consumers.{YieldsList-end, YieldsList-from_rest}
use Rattle.register_pages.specs.Gathering.{codes_of}
use Rattle.register_pages.specs.Pages.{Writes, files_of_filer}
use Rattle.register_pages.proofs.Adding.{pages_added}
use Rattle.register_pages.proofs.Codes.{codes_among, codes_ascend, codes_shown, shown_more}
use Rattle.register_pages.proofs.site.write_filers.Goals as goal

pub loop-code-preserved : goal.loop-code-preserved
loop-code-preserved g c =
    let had = c.loop-code.invariant in
    let more = c.in_ok-write_filer.ensures in
    let code = string_bytes c.in-Some.code.now in
    let named : c.as_str.result.now ≡ code = search rules in record {
      leaves = passed_then had.leaves more.leaves;
      written = λ clean old_style requests was.
          let before = clean_before more.leaves clean in
          let its = more.written clean old_style requests (stands had.leaves before was) in
          pages_added _ _ _ _ _ _ (files_of_filer (kept requests)) (codes_shown c.loop-code.yielded) _ code
          (shown_more c.loop-code.yielded _) (had.written before old_style requests was)
          (subst (λ filer. Writes c.loop-code.missed c.write_filer.new.missed (g.F.Folder.pages c.loop-code.folder)
          (g.F.Folder.pages c.write_filer.new.folder) (files_of_filer (kept requests) filer)) named its);
    }

pub returns-clause-ascend : goal.returns-clause-ascend
returns-clause-ascend g c = codes_ascend _ c.iter-code-items.ensures.ordered

pub returns-clause-written : goal.returns-clause-written
returns-clause-written g c clean old_style requests was =
    let shown =
    YieldsList-end (YieldsList-from_rest c.args.filers.now.list.entries (search rules)) c.loop-code.yielded _
    c.loop-code.yielded_by _ _ c.in-None.is c.next.ensures.steps in
    let all : codes_shown c.loop-code.yielded ≡ codes_of c.args.filers.now = ap codes_among shown.0 in
    subst (λ codes. Writes c.args.missed.now c.loop-code.missed (g.F.Folder.pages c.args.folder.now)
    (g.F.Folder.pages c.loop-code.folder) (flat_map (files_of_filer (kept requests)) codes)) all
    (c.loop-code.invariant.written clean old_style requests was)
