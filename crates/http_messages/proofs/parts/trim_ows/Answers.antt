use Rattle.std.proofs.Common.{◌≡◌, reverse, sym, ap, ◌∙◌}
use Rattle.std.proofs.lemmas.List.{reverse-reverse}
use Rattle.httparse.specs.Grammar.{trim_ows, skip_ows}
use Rattle.http_messages.proofs.parts.trim_ows.Goals as goal

pub returns : goal.returns
unfolding trim_ows
returns c =
    let back : reverse c.trim_ows_end.result.now ≡ skip_ows (reverse (skip_ows c.args.value.now)) =
    c.trim_ows_end.ensures ∙ ap (λ t. skip_ows (reverse t)) c.trim_ows_start.ensures in
    sym (reverse-reverse c.trim_ows_end.result.now) ∙ ap reverse back
