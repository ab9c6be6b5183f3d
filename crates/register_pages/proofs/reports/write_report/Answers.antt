use Rattle.std.proofs.Common.{◌≡◌, ◌∷◌, [], ap, subst, ◌∙◌}
use Rattle.register_extracts.specs.Sent.{SentParts}
use Rattle.register_pages.specs.Pages.{Report, Writes, request_file}
use Rattle.register_pages.proofs.reports.write_report.Goals as goal

pub returns-clause-written : goal.returns-clause-written
returns-clause-written g c clean old_style requests was k placed =
    let sent = c.in_ok-sent.ensures.found clean old_style requests was k placed in
    let body : c.deref.result.now ≡ k.request.body =
    c.deref.ensures.value ∙ ap (λ (s : SentParts). s.body) (c.sent.view_is ∙ sent) in
    subst (λ bytes. Writes c.args.missed.now c.put_report.new.missed (g.F.Folder.pages c.args.folder.now)
    (g.F.Folder.pages c.put_report.new.folder) (Report (request_file c.args.place) bytes ∷ [])) body
    (c.put_report.ensures (request_file c.args.place) c.of_request-name.ensures)
