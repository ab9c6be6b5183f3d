use Rattle.std.proofs.Common.{◌∷◌, [], ◌++◌, append_assoc, subst}
use Rattle.std.specs.List.{flat_map}
use Rattle.std.specs.Prelude.{codes}
use Rattle.filing_model.specs.Register.{kept, register}
use Rattle.register_pages.specs.Gathering.{codes_of}
use Rattle.register_pages.specs.Pages.{Adds, Page, filing_files, files_of_filer}
use Rattle.register_pages.proofs.Adding.{writes_then}
use Rattle.register_pages.proofs.site.write_site.Goals as goal

pub returns-in-None-clause-written : goal.returns-in-None-clause-written
returns-in-None-clause-written g c clean old_style requests was are =
    let filings = filing_files (register requests) in
    let filers = flat_map (files_of_filer (kept requests)) (codes_of c.args.filers.now) in
    let last = Page (codes "findings.html") ∷ Page (codes "index.html") ∷ [] in
    let reports = c.in_ok-reports.ensures.written clean old_style requests was are in
    subst (Adds (g.F.Folder.pages c.args.folder.now) (g.F.Folder.pages c.write_others.new.folder))
    (append_assoc filings filers last)
    (writes_then _ _ _ _ _ _ (filings ++ filers) last reports c.write_others.ensures c.in-None.is).1
