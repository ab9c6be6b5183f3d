use Rattle.std.proofs.Common.{◌≡◌, ◌∷◌, ap, subst, ◌∙◌}
use Rattle.table_rows.proofs.LeavingLemmas.{clean_before}
use Rattle.register_extracts.specs.Sent.{SentParts}
use Rattle.register_pages.specs.Gathering.{HaveSame, codes_of}
use Rattle.register_pages.proofs.gathering.gather_one.Goals as goal

pub returns-clause-gathered : goal.returns-clause-gathered
returns-clause-gathered g c clean old_style requests was k placed =
    let sent =
    c.in_ok-sent.ensures.found (clean_before c.in_ok-gather_codes.ensures clean) old_style requests was k placed in
    let filer : c.as_str-filer.result.now ≡ k.request.filer =
    c.as_str-filer.ensures.value ∙ ap (λ (s : SentParts). s.filer) (c.sent.view_is ∙ sent) in
    subst (λ code. HaveSame (codes_of c.add.new.self) (code ∷ codes_of c.args.filers.now)) filer c.in_ok-add.ensures
