use Rattle.std.proofs.Common.{◌≡◌, ℕ, List, Option, None, sym, subst}
use Rattle.sqlite_disk.specs.declared.Disk.{Ghosts}
use Rattle.register_pages.specs.Pages.{File}
use Rattle.intake_process.specs.declared.tasks.errand.Errand.{Errand}
use Rattle.intake_process.specs.declared.visiting.Visited.{Visited}
use Rattle.intake_process.specs.Process.{Parts, parts}
use Rattle.intake_process.specs.Visits.{VisitsRegister, outputs}
use Rattle.intake_process.specs.declared.tasks.errand.Errand.TheVariants.{Check, Migrate}
use Rattle.intake_commands.specs.Tasks.{IsCurrentTold, IsFaultTold}
use Rattle.intake_commands.proofs.visiting.visit_current.Goals as goal

same_pages : {D : Type 0} {g : Ghosts D} (errand : Errand) (from to : Option (List ℕ))
    (pages pages' pages'' : Option (List File)) (old new : Parts g) (visited : Visited) → pages'' ≡ pages'
    → VisitsRegister errand (outputs from pages) (outputs to pages') old new visited
    → VisitsRegister errand (outputs from pages) (outputs to pages'') old new visited
same_pages errand from to pages pages' pages'' old new visited same visits =
    subst (λ now. VisitsRegister errand (outputs from pages) (outputs to now) old new visited) (sym same) visits

pub returns-in-Ok : goal.returns-in-Ok
returns-in-Ok g c =
    let out = g.O.Write.contents c.args.output.now in
    let out' = g.O.Write.contents c.show_current.new.output in (
      _,
      _,
      c.visit-done.result,
      c.visit-done.ensures,
      subst (λ done. IsCurrentTold c.args.name c.args.not_earlier done c.visit-done.result.holding out out'
          c.show_current.result) (sym c.in-Ok.is)
          c.show_current.ensures,
    )

pub returns-in-Err : goal.returns-in-Err
returns-in-Err g c =
    let out = g.O.Write.contents c.args.output.now in
    let out' = g.O.Write.contents c.end_refused.new.output in
    let pages = g.F.Folder.pages c.args.folder.now in
    let old = parts g.P.Place.lying c.args.process.now in
    let new = parts g.P.Place.lying c.visit-done.new.self in (
      _,
      _,
      c.visit-done.result,
      same_pages (Check None) _ _ pages _ _ old new c.visit-done.result c.end_refused.ensures.same c.visit-done.ensures,
      subst (λ done. IsCurrentTold c.args.name c.args.not_earlier done c.visit-done.result.holding out out'
          c.end_refused.result) (sym c.in-Err.is)
          (subst (λ it. IsFaultTold c.args.name Migrate it out out' c.end_refused.result) c.refusal_of.ensures
          c.end_refused.ensures.told),
    )
