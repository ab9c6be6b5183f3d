use Rattle.std.proofs.Common.{◌++◌, Some, ap, codes, ◌∙◌}
use Rattle.register_extracts.proofs.Texts.{printed, written}
use Rattle.register_extracts.proofs.text.moment_text.Goals as goal

pub returns : goal.returns
returns c =
    let options = c.precision-printer.ensures ∙ ap (λ o. (o.0, o.1, Some 3)) c.new.ensures in
    let shown = printed c.precision-printer.result c.to_plain.result options in
    c.in_ok-text.ensures.ok ∙ ap (λ l. l ++ codes "Z") (c.datetime_text-shown.ensures ∙ shown)
    ∙ written c.to_plain.result c.args.moment.milliseconds (cc (c.to_plain.ensures, c.shown_at.ensures))
