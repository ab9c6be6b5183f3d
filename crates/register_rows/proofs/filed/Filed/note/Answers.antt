use Rattle.std.proofs.Common.{◌≡◌, length, map, suc, sym, ap, ◌∙◌}
use Rattle.filing_model.specs.Register.{Filing, kept, register}
use Rattle.filing_model.proofs.Lists.{length-map}
use Rattle.xbrl_report.specs.ReportParts.{fact_count, facts}
use Rattle.register_rows.proofs.CatalogueLemmas.{refused_says_no_more}
use Rattle.register_rows.proofs.FiledLemmas.{filing_no_more}
use Rattle.register_rows.proofs.filed.Filed.note.Goals as goal

pub returns-in-Valid : goal.returns-in-Valid
returns-in-Valid c F r are filer target has seq is =
    let so = rw c.in-Valid.is at is in
    let its : c.facts.result.now ≡ facts r.body = c.facts.ensures ∙ rw c.in-Valid.is at has in
    let many : length c.facts.result.now ≡ fact_count r.body = ap length its ∙ length-map _ _ in
    c.add.ensures F r are filer (record {
      seq_is = seq;
      facts_are = many;
      target_is = target;
      number =
          suc (length (register F));
      registered = so;
    })

pub returns-in-Refused : goal.returns-in-Refused
returns-in-Refused c F r are filer target has seq is =
    let so = rw c.in-Refused.is at is in
    record {
      filers_are = are.filers_are ∙ ap (map (λ (f : Filing). f.request.filer)) (sym (filing_no_more (kept F) r _ so));
      lines_are = are.lines_are ∙ sym (refused_says_no_more (kept F) r _ so);
    }
