use Rattle.std.proofs.Common.{◌≡◌, ◌∷◌, [], ap, length, subst, ◌∙◌}
use Rattle.std.specs.Prelude.{IfOk, string_bytes}
use Rattle.register_extracts.specs.Filings.{FilingParts}
use Rattle.register_pages.specs.Pages.{Report, Writes, filing_page, numbered, pages_for, report_file}
use Rattle.register_pages.proofs.Adding.{writes_then}
use Rattle.register_pages.proofs.filing.write_filing.Goals as goal

pub returns : goal.returns
returns g c =
    let parts = c.args.filing.now in
    let number = ap (λ (f : FilingParts). f.number) c.filing.view_is in
    let body = c.deref.ensures.value ∙ ap (λ (f : FilingParts). f.body) c.filing.view_is in
    let pages = numbered (filing_page parts.number) (pages_for 1000 (length parts.facts)) in
    let named =
    subst (λ n. IfOk c.of_report-name.result (λ text. string_bytes text ≡ report_file n)) number
    c.of_report-name.ensures in
    let put = c.put_report.ensures (report_file parts.number) named in
    writes_then _ _ _ _ _ _ pages (Report (report_file parts.number) parts.body ∷ []) c.write_facts.ensures
    (subst (λ bytes. Writes c.write_facts.new.missed c.put_report.new.missed (g.F.Folder.pages c.write_facts.new.folder)
    (g.F.Folder.pages c.put_report.new.folder) (Report (report_file parts.number) bytes ∷ [])) body put)
