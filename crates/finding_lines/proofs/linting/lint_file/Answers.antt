use Rattle.std.proofs.Common.{Ok, Err, refl, sym, ◌∙◌, subst}
use Rattle.std.proofs.lemmas.List.{append-nil}
use Rattle.finding_lines.specs.Linting.{FindsIn}
use Rattle.finding_lines.proofs.Looks.{or_false, or_then, or_else}
use Rattle.finding_lines.proofs.linting.lint_file.Goals as goal
use Rattle.finding_lines.proofs.linting.lint_file.Goals.{then-linted, else-linted}

pub returns-after-linted : goal.returns-after-linted
returns-after-linted g c =
    let is_found = c.in_ok-is_found-in-Ok.is_found in
    let finds =
    subst (λ body. FindsIn c.args.form c.args.filer.now c.args.file.now body (g.O.Write.contents c.args.output.now)
    (g.O.Write.contents c.lint.new.output) (Ok is_found)) c.deref.ensures.value c.in_ok-is_found-in-Ok.ensures in (
      Ok c.in-Ok.body.items,
      finds.printed,
      elim c.if-linted.branch [
        | then-linted w ↦ or_then c.args.linted.now.is_found _ c.if-linted.linted w.linted-is w.if-linted.true
        | else-linted w ↦ or_else c.args.linted.now.is_found _ c.if-linted.linted (w.linted-is
            ∙ finds.found) w.if-linted.false
      ],
      sym (append-nil c.args.linted.now.unread.items),
    )

pub returns-in-Ok-push : goal.returns-in-Ok-push
returns-in-Ok-push g c = (
  Err c.in-Err.fault,
  (rw c.in-Err.ensures.1 refl, refl),
  sym (or_false c.args.linted.now.is_found),
  c.in-Ok-push.ensures.items,
)
