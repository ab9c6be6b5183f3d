use Rattle.std.proofs.Common.{◌≡◌, take, ap, ◌∙◌, arith}
use Rattle.std.proofs.lemmas.List.{take_all, take_min}
use Rattle.report_places.specs.Position.{position_after}
use Rattle.report_places.proofs.Positions.{position-fold}
use Rattle.report_places.proofs.position.position_of.Goals as goal

pub returns : goal.returns
returns c =
    let text = c.args.text.now in
    let before = take c.min.result text in
    let whole : take c.loop-byte.byte-index before ≡ before = take_all c.loop-byte.byte-index before (omega arith) in
    let cut : before ≡ take c.args.offset text = ap (λ n. take n text) c.min.ensures ∙ take_min c.args.offset text in
    c.loop-byte.invariant.0 ∙ position-fold (take c.loop-byte.byte-index before) ∙ ap position_after (whole ∙ cut)
