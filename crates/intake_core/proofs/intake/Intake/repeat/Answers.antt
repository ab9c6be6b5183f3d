use Rattle.std.proofs.Common.{◌≡◌, List, sym, ap, ◌∙◌, subst}
use Rattle.filing_model.specs.Request.{Request}
use Rattle.filing_model.specs.Style.{style_of}
use Rattle.filing_model.specs.Views.{the_request, view_outcome}
use Rattle.register_store.specs.Outcomes.{kept_as}
use Rattle.intake_core.specs.Cache.{IsKeptIn, IsNameIfAny}
use Rattle.intake_core.specs.Held.{HoldsRequests, old_style_in}
use Rattle.intake_core.proofs.intake.Intake.repeat.Given.{Over}
use Rattle.intake_core.proofs.intake.Intake.repeat.Goals.{After-remember}
use Rattle.intake_core.proofs.intake.Intake.repeat.Goals as goal

-- the first request was remembered, which has the filer and key of this one
same : (g : Over) (c : After-remember g) (requests : List Request) → HoldsRequests g.S.Store c.args.self.now requests
    → IsNameIfAny c.args.request.now c.args.name
    → IsKeptIn requests (kept_as c.args.request.now.filer c.args.request.now.key c.args.row)
    → c.args.row.style ≡ style_of (old_style_in c.args.self.now requests) c.args.request.now
    → HoldsRequests g.S.Store c.remember.new.self requests
same g c requests h named is styled =
    let r = c.args.request.now in
    let row = c.args.row in
    let body = c.as_slice.result.now in
    let first : the_request c.request.inside.filer.now c.request.inside.key.now row.target body
    ≡ the_request r.filer r.key row.target row.body
    = ap (λ (r : Request). the_request r.filer r.key row.target body) c.request.view_is
    ∙ ap (λ body. the_request r.filer r.key row.target body) c.as_slice.ensures in
    c.remember.ensures.same requests h
    (subst (λ (r : Request). IsNameIfAny r c.args.name) (sym c.request.view_is) named)
    (subst (λ (r : Request). IsKeptIn requests (record { request = r; outcome = view_outcome row.outcome })) (sym first)
    is)
    (subst (λ (r : Request). row.style ≡ style_of (old_style_in c.args.self.now requests) r) (sym c.request.view_is)
    styled)

pub returns-then-asks_the_same-clause-same : goal.returns-then-asks_the_same-clause-same
returns-then-asks_the_same-clause-same g c =
    same g (goal.at.returns-then-asks_the_same-clause-same g c).After-remember

pub returns-else-asks_the_same-clause-same : goal.returns-else-asks_the_same-clause-same
returns-else-asks_the_same-clause-same g c =
    same g (goal.at.returns-else-asks_the_same-clause-same g c).After-remember
