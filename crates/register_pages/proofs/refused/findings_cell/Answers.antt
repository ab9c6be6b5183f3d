use Rattle.std.proofs.Common.{◌≡◌, ◌++◌, ap, length, subst, ◌∙◌}
use Rattle.std.specs.Prelude.{codes, min}
use Rattle.std.proofs.lemmas.List.{length-take}
use Rattle.std.proofs.lemmas.Result.{on_ok_weaker}
use Rattle.register_pages.specs.Shown.{AddsLines}
use Rattle.register_pages.proofs.refused.findings_cell.Goals as goal

pub returns : goal.returns
returns c =
    let findings = c.args.findings.now in
    let old = c.args.rows.now in
    let mid = c.lines_of.new.rows in
    let many : length c.first_findings-shown.result.now ≡ min 20 (length findings) =
    ap length c.first_findings-shown.ensures ∙ length-take 20 findings in
    on_ok_weaker c.constant-2.result (λ is. (
      mid,
      subst (λ n. AddsLines n (old ++ codes "<td>") mid) many
          (subst (λ start. AddsLines (length c.first_findings-shown.result.now) start mid) c.in_ok-constant.ensures
          c.in_ok-lines_of.ensures),
      is ∙ ap (λ l. l ++ codes "</td>") c.in_ok-others.ensures,
    )) c.constant-2.ensures
