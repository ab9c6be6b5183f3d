use Rattle.std.proofs.Common.{length, map, Option, Vec, ap, subst, ◌∙◌}
use Rattle.std.proofs.lemmas.List.{length-map}
use Rattle.std.specs.Global.{Global}
use Rattle.report_places.specs.Place.{Answers}
use Rattle.report_places.specs.declared.place.ValuePlace.{ValuePlace}
use Rattle.finding_lines.proofs.Zipped.{as_many}
use Rattle.finding_lines.proofs.telling.place_lines.Goals as goal

pub lines_at-requires : goal.lines_at-requires
lines_at-requires c =
    let body = c.args.body.now in
    let pointers = map (λ pointer. pointer.now) c.deref.result.now in
    let P : Option (Vec ValuePlace Global) → Type 0 = Answers body pointers in
    let answered = subst P c.in-Some.is c.in_ok-places.ensures in
    let many = as_many body answered.1.0 pointers c.in-Some.places.items answered.1.2 in
    ap length c.deref-in-Some.ensures.value ∙ many
    ∙ ap length (ap (map (λ pointer. pointer.now)) c.deref.ensures.value ∙ c.in_ok-pointers.ensures)
    ∙ length-map c.args.findings.now (λ finding. finding.place)
