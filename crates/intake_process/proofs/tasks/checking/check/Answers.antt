use Rattle.std.proofs.Common.{◌∙◌, OnOk, rules, subst}
use Rattle.std.specs.Io.KnownBytes.{Appends}
use Rattle.intake_process.specs.Errands.{RunsErrand}
use Rattle.intake_process.specs.declared.tasks.errand.Errand.TheVariants.{Check}
use Rattle.intake_process.proofs.Checks.{sound_printed, sound_unprinted}
use Rattle.intake_process.proofs.tasks.checking.check.Goals as goal

pub returns-in_err-kept : goal.returns-in_err-kept
returns-in_err-kept g c =
    let out = g.O.Write.contents c.args.output.now in
    let new = c.read_against-read.new.conn in
    subst (λ r. RunsErrand {X = Unit {0}} g.S.Store (Check c.args.against) out out c.args.conn.now new r)
    (search rules) ((rw c.in_err-kept.was at c.read_against-read.ensures.failed) out)

pub returns-in_err-text : goal.returns-in_err-text
returns-in_err-text g c =
    let out = g.O.Write.contents c.args.output.now in
    let new = c.read_against-read.new.conn in
    subst (λ r. RunsErrand {X = Unit {0}} g.S.Store (Check c.args.against) out out c.args.conn.now new r)
    (search rules)
    (sound_unprinted g.S.Store c.args.against out out c.args.conn.now new c.in_ok-kept.field-0
    (rw c.in_ok-kept.was at c.read_against-read.ensures.checked))

pub returns : goal.returns
returns g c =
    let out = g.O.Write.contents c.args.output.now in
    let out' = g.O.Write.contents c.print.new.output in
    sound_printed g.S.Store c.args.against out out' c.args.conn.now c.read_against-read.new.conn c.in_ok-kept.field-0
    (rw c.in_ok-kept.was at c.read_against-read.ensures.checked) c.print.result
    (subst (λ text. OnOk c.print.result (Appends out out' text)) (c.as_bytes.ensures.value ∙ c.in_ok-text.ensures)
    c.print.ensures.printed) c.print.ensures.fault
