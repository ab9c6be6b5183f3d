use Rattle.std.proofs.Common.{◌≡◌, suc, refl, sym, ap, length, ◌∙◌}
use Rattle.filing_model.specs.Request.{Request}
use Rattle.filing_model.specs.Register.{kept, register}
use Rattle.filing_model.specs.Views.{the_request}
use Rattle.xbrl_report.specs.ReportParts.{fact_count}
use Rattle.register_rows.specs.Outcomes.{outcome_of}
use Rattle.register_rows.proofs.CatalogueLemmas.{catalogue_new, catalogue_refused}
use Rattle.register_rows.proofs.MoreRequests.{judged_as}
use Rattle.register_store.proofs.OwnLemmas.{as_many}
use Rattle.register_store.proofs.catalogue.note.Goals as goal

pub returns-in-Valid-clause-lines : goal.returns-in-Valid-clause-lines
returns-in-Valid-clause-lines c F held place fresh is =
    let row = c.args.row.now in
    let r : Request = the_request row.filer.now row.key.now row.target row.body.now in
    let n = suc (length (register F)) in
    let facts : length c.facts.result.now ≡ fact_count r.body =
    ap length (c.facts.ensures ∙ (rw c.in-Valid.is at c.requires.facts)) ∙ as_many r.body in
    c.note.ensures.lines F r held (record {
      seq_is = place;
      facts_are = facts;
      target_is = refl;
      number = n;
      registered =
          judged_as (kept F) r row.judged.now is ∙ ap (outcome_of n) c.in-Valid.is;
    })
    ∙ sym (catalogue_new F r fresh)

pub returns-in-Refused-clause-lines : goal.returns-in-Refused-clause-lines
returns-in-Refused-clause-lines c F held place fresh is =
    let row = c.args.row.now in
    let r : Request = the_request row.filer.now row.key.now row.target row.body.now in
    held ∙ sym (catalogue_refused F r fresh c.in-Refused.field-0 (judged_as (kept F) r row.judged.now is
    ∙ ap (outcome_of (suc (length (register F)))) c.in-Refused.is))
