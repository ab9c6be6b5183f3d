use Rattle.std.proofs.Common.{◌≡◌, ◌++◌, ◌∷◌, [], Some, length, sym, ap, subst, ◌∙◌}
use Rattle.std.specs.Prelude.{option_map}
use Rattle.sqlite.specs.Held.{state}
use Rattle.filing_model.specs.Register.{kept}
use Rattle.register_extracts.proofs.Dating.{some_moments}
use Rattle.register_extracts.specs.Filings.{FilingParts, whole}
use Rattle.register_pages.specs.Pages.{Report, Writes, filing_page, numbered, pages_for, report_file}
use Rattle.register_pages.proofs.site.write_numbered.Goals as goal

pub returns-in-Some-clause-written : goal.returns-in-Some-clause-written
returns-in-Some-clause-written g c clean old_style requests was f is there =
    let its = some_moments requests (state g.S.Store c.args.conn.now) was in
    let told = c.in_ok-filing.ensures.found clean old_style requests was its.moments its.one_each its.dated is in
    let both : Some c.in-Some.filing ≡ Some (whole (kept requests) its.moments f) =
    sym c.in-Some.is ∙ told ∙ ap (option_map (whole (kept requests) its.moments)) there in
    let same : c.in-Some.filing ≡ whole (kept requests) its.moments f = cc both in
    subst (λ (filing : FilingParts). Writes c.args.missed.now c.write_filing.new.missed
    (g.F.Folder.pages c.args.folder.now) (g.F.Folder.pages c.write_filing.new.folder)
    (numbered (filing_page filing.number) (pages_for 1000 (length filing.facts))
    ++ Report (report_file filing.number) filing.body ∷ [])) same c.write_filing.ensures

pub returns-in-None-clause-written : goal.returns-in-None-clause-written
returns-in-None-clause-written g c clean old_style requests was f is there =
    let its = some_moments requests (state g.S.Store c.args.conn.now) was in
    let told = c.in_ok-filing.ensures.found clean old_style requests was its.moments its.one_each its.dated is in
    let none = sym c.in-None.is ∙ told ∙ ap (option_map (whole (kept requests) its.moments)) there in
    absurd (cc none)
