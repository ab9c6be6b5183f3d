use Rattle.std.proofs.Common.{◌∙◌, ap, refl}
use Rattle.std.proofs.lemmas.List.Elements.{All-from_recursion}
use Rattle.std.specs.Option.{unwrap_or}
use Rattle.intake_core.specs.Held.{KeepsSetting}
use Rattle.gateway_rounds.specs.Groups.{IsAskedIn, places_in}
use Rattle.gateway_rounds.proofs.Lists.{are_apart}
use Rattle.gateway_rounds.proofs.Whole.{round_done, wait_still}
use Rattle.gateway_rounds.proofs.round.answer_ready.Goals as goal

pub file_group-requires-clause-waits : goal.file_group-requires-clause-waits
file_group-requires-clause-waits g c =
    let sorts = c.answer_at_once-left.ensures in
    let group = c.answer_at_once-left.new.port.group.items in
    All-from_recursion (IsAskedIn c.answer_at_once-left.new.port.hall) group
    (wait_still g.T.Stream _ _ sorts.turns sorts.takes.tells group sorts.apart sorts.waits)

pub file_group-requires-clause-apart : goal.file_group-requires-clause-apart
file_group-requires-clause-apart g c =
    are_apart c.args.port.now.next (places_in c.answer_at_once-left.new.port.group.items)
    c.answer_at_once-left.ensures.group_order

pub returns : goal.returns
returns g c =
    let setting : KeepsSetting g.S.Store c.args.intake.now c.date.new.self =
    rw c.date.ensures.rest (record { clean = λ clean. clean; limit = refl; old_style = refl }) in
    round_done g.T.Stream g.S.Store _ _ _ c.answer_at_once-left.new.port.group.items c.answer_at_once-left.result
    c.unwrap_or-port.result c.args.intake.now c.date.new.self c.answer_at_once-left.new.intake c.file_group.new.intake
    setting
    c.date.ensures.holds c.answer_at_once-left.ensures c.file_group.ensures
    (λ place is. c.unwrap_or-port.ensures ∙ ap (λ left. unwrap_or left 0) is)
