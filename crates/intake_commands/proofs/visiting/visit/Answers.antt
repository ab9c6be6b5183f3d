use Rattle.std.proofs.Common.{Ok, ◌∙◌, refl, sym, subst}
use Rattle.intake_process.specs.Process.{parts}
use Rattle.intake_process.specs.Visits.{outputs}
use Rattle.intake_commands.specs.Tasks.{IsVisitTold, is_not_earlier}
use Rattle.intake_commands.proofs.Done.{wanted, unwanted}
use Rattle.intake_commands.proofs.visiting.visit.Goals as goal

pub returns-in-Ok : goal.returns-in-Ok
returns-in-Ok g c =
    let between = outputs (g.O.Write.contents c.visit-done.new.output) (g.F.Folder.pages c.visit-done.new.folder) in
    let mid = parts g.P.Place.lying c.visit-done.new.self in (
      between,
      mid,
      c.visit-done.result,
      c.visit-done.ensures,
      subst (λ done. IsVisitTold c.args.name c.args.errand done c.visit-done.result.holding between between mid mid
          (Ok 0)) (sym c.in-Ok.is) (refl, refl, refl),
    )

pub returns-then-is_not_earlier : goal.returns-then-is_not_earlier
returns-then-is_not_earlier g c =
    let between = outputs (g.O.Write.contents c.visit-done.new.output) (g.F.Folder.pages c.visit-done.new.folder) in
    let mid = parts g.P.Place.lying c.visit-done.new.self in
    let out' = outputs (g.O.Write.contents c.visit_current.new.output) (g.F.Folder.pages c.visit_current.new.folder) in
    let new = parts g.P.Place.lying c.visit_current.new.process in (
      between,
      mid,
      c.visit-done.result,
      c.visit-done.ensures,
      subst (λ done. IsVisitTold c.args.name c.args.errand done c.visit-done.result.holding between out' mid new
          c.visit_current.result) (sym c.in-Err.is)
          (wanted (is_not_earlier c.in-Err.why) _ _ (sym c.if-is_not_earlier.true ∙ c.is_not_earlier.ensures)
          c.visit_current.ensures),
    )

pub returns-else-is_not_earlier : goal.returns-else-is_not_earlier
returns-else-is_not_earlier g c =
    let between = outputs (g.O.Write.contents c.visit-done.new.output) (g.F.Folder.pages c.visit-done.new.folder) in
    let mid = parts g.P.Place.lying c.visit-done.new.self in
    let out' = outputs (g.O.Write.contents c.end_refused.new.output) (g.F.Folder.pages c.end_refused.new.folder) in (
      between,
      mid,
      c.visit-done.result,
      c.visit-done.ensures,
      subst (λ done. IsVisitTold c.args.name c.args.errand done c.visit-done.result.holding between out' mid mid
          c.end_refused.result) (sym c.in-Err.is)
          (unwanted (is_not_earlier c.in-Err.why) _ _ (sym c.if-is_not_earlier.false ∙ c.is_not_earlier.ensures)
          (c.end_refused.ensures.told, c.end_refused.ensures.same, refl)),
    )
