use Rattle.std.proofs.Common.{OnOk, rules, subst, ◌∙◌}
use Rattle.std.specs.Io.KnownBytes.{Appends}
use Rattle.intake_process.specs.Errands.{RunsErrand}
use Rattle.intake_process.specs.declared.tasks.errand.Errand.TheVariants.{Digest}
use Rattle.intake_process.proofs.Errands.{digest_printed, digest_unprinted, no_digest}
use Rattle.intake_process.proofs.tasks.digesting.digest.Goals as goal

pub returns-in_err-digest : goal.returns-in_err-digest
returns-in_err-digest g c =
    let out = g.O.Write.contents c.args.output.now in
    let new = c.digest_register.new.conn in
    subst (λ r. RunsErrand {X = Unit {0}} g.S.Store (Digest c.args.until) out out c.args.conn.now new r) (search rules)
    (no_digest c.args.until g.S.Store out out c.args.conn.now new c.in_err-digest.field-0.0 c.in_err-digest.ensures)

pub returns-in_err-line : goal.returns-in_err-line
returns-in_err-line g c =
    let out = g.O.Write.contents c.args.output.now in
    let new = c.digest_register.new.conn in
    subst (λ r. RunsErrand {X = Unit {0}} g.S.Store (Digest c.args.until) out out c.args.conn.now new r) (search rules)
    (digest_unprinted c.args.until g.S.Store out out c.args.conn.now new c.in_ok-digest.digest c.in_ok-digest.ensures)

pub returns : goal.returns
returns g c =
    let out = g.O.Write.contents c.args.output.now in
    let out' = g.O.Write.contents c.print.new.output in
    digest_printed c.args.until g.S.Store out out' c.args.conn.now c.digest_register.new.conn c.in_ok-digest.digest
    c.in_ok-digest.ensures c.print.result
    (subst (λ text. OnOk c.print.result (Appends out out' text)) (c.deref.ensures.value ∙ c.in_ok-line.ensures)
    c.print.ensures.printed) c.print.ensures.fault
