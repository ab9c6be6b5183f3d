use Rattle.std.proofs.Common.{◌≡◌, ◌∙◌, ◌+◌, ◌++◌, ◌∷◌, [], map, ap, sym, arith}
use Rattle.std.proofs.lemmas.List.{map-append}
use Rattle.std.proofs.lemmas.List.FromFn.{map-range_with_len_more}
use Rattle.filing_world.specs.World.{Event}
use Rattle.event_script.specs.Events.{view_event}
use Rattle.event_script.proofs.script.restarts.Goals as goal

pub loop-before-preserved : goal.loop-before-preserved
loop-before-preserved c =
    let next : 1 + c.loop-before.before ≡ c.loop-before.before + 1 = omega arith in
    ap (map view_event) c.in_ok-push-2.ensures.items ∙ map-append view_event c.loop-before.events.items _
    ∙ ap (λ es. es ++ Event.RestartOutbox (c.loop-before.before + 1) ∷ []) c.loop-before.invariant
    ∙ sym (ap (λ es. Event.RestartServer ∷ es) (map-range_with_len_more Event.RestartOutbox 1 c.loop-before.before
    (c.loop-before.before + 1) next))
