use Rattle.std.proofs.Common.{ap, subst, ◌∙◌}
use Rattle.std.specs.Io.KnownBytes.{Appends}
use Rattle.register_extracts.specs.Sent.{SentParts}
use Rattle.intake_process.proofs.tasks.bodies.print_placed.Goals as goal

pub returns-clause-printed : goal.returns-clause-printed
returns-clause-printed g c clean old_style F was k placed =
    let sent = c.in_ok-sent.ensures.found clean old_style F was k placed in
    let body = c.deref.ensures.value ∙ ap (λ (s : SentParts). s.body) (c.sent.view_is ∙ sent) in
    subst (λ text. Appends (g.O.Write.contents c.args.output.now) (g.O.Write.contents c.print.new.output) text) body
    c.in_ok-print.ensures.printed
