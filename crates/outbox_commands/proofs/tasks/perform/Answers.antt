use Rattle.std.proofs.Common.{map, string_bytes, refl, sym, ◌∙◌, ap, subst}
use Rattle.finding_lines.specs.Linting.{LintsReports}
use Rattle.outbox_commands.specs.declared.options.Asked.TheVariants.{Lint}
use Rattle.outbox_commands.specs.Status.{ended_status}
use Rattle.outbox_commands.proofs.Performed.{as_none, as_asked, as_reading, as_writing}
use Rattle.outbox_commands.proofs.tasks.perform.Goals as goal

pub returns-in-Ok-None : goal.returns-in-Ok-None
returns-in-Ok-None g c =
    as_none (map string_bytes c.args.words.now) c.in-Ok-None.field-0 c.in-Ok-None.ensures.read c.in-Ok-None.field-0-is
    (c.tell.ensures, refl)

pub returns-then-opens_for_reading : goal.returns-then-opens_for_reading
returns-then-opens_for_reading g c =
    as_reading (map string_bytes c.args.words.now) c.in-Ok-Some.field-0 c.in-Ok-Some.ensures.read c.in-Ok-Some.asked
    c.in-Outbox.task c.in-Outbox.wait c.access.result c.opens_for_reading.result c.in-Ok-Some.field-0-is c.in-Outbox.is
    c.access.ensures c.opens_for_reading.ensures c.if-opens_for_reading.true c.perform_in.ensures

pub returns-in-Outbox : goal.returns-in-Outbox
returns-in-Outbox g c =
    as_writing (map string_bytes c.args.words.now) c.in-Ok-Some.field-0 c.in-Ok-Some.ensures.read c.in-Ok-Some.asked
    c.in-Outbox.task c.in-Outbox.wait c.access.result c.opens_for_reading.result c.in-Ok-Some.field-0-is c.in-Outbox.is
    c.access.ensures c.opens_for_reading.ensures c.if-opens_for_reading.false
    c.perform_in-else-opens_for_reading.ensures

pub returns-in-Ok : goal.returns-in-Ok
returns-in-Ok g c =
    let it = c.in-Lint in
    let out = g.O.Write.contents c.args.output.now in
    let out' = g.O.Write.contents c.lint_reports.new.output in
    as_asked (map string_bytes c.args.words.now) c.in-Ok-Some.field-0 c.in-Ok-Some.ensures.read c.in-Ok-Some.asked
    (Lint it.filer it.form it.files) c.in-Ok-Some.field-0-is it.is (
      c.lint_reports.result,
      subst
          (λ files. LintsReports it.form it.filer.now (map (λ file. file.now) files) out out' c.lint_reports.result)
          c.deref.ensures.value c.lint_reports.ensures,
      sym (ap ended_status c.in-Ok.is),
    )

pub returns : goal.returns
returns g c =
    let it = c.in-Lint in
    let out = g.O.Write.contents c.args.output.now in
    let out' = g.O.Write.contents c.lint_reports.new.output in
    as_asked (map string_bytes c.args.words.now) c.in-Ok-Some.field-0 c.in-Ok-Some.ensures.read c.in-Ok-Some.asked
    (Lint it.filer it.form it.files) c.in-Ok-Some.field-0-is it.is (
      c.lint_reports.result,
      subst
          (λ files. LintsReports it.form it.filer.now (map (λ file. file.now) files) out out' c.lint_reports.result)
          c.deref.ensures.value c.lint_reports.ensures,
      c.tell-in-Err-lint_reports.ensures ∙ sym (ap ended_status c.in-Err-lint_reports.is),
    )
