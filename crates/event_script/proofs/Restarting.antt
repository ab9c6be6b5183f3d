-- Scripts behind whose events every end is restarted.
use Rattle.std.proofs.Common.{ℕ, length, map}
use Rattle.std.specs.List.{range_with_len}
use Rattle.std.proofs.lemmas.List.Elements.{All-append, All-cons, All-map}
use Rattle.filing_world.specs.World.{Event}
use Rattle.event_script.specs.Events.{HasTarget, HaveTargets}
use Rattle.event_script.specs.Restarts.{restarts, restarted}
use Rattle.event_script.specs.Scripts.{Script}

-- a restart replaces nothing
restarts_targets : (outboxes : ℕ) → HaveTargets (restarts outboxes)
restarts_targets outboxes =
    let numbers = range_with_len 1 outboxes in
    All-cons HasTarget Event.RestartServer (map Event.RestartOutbox numbers) tt
    (All-map HasTarget Event.RestartOutbox numbers (λ k d low. tt))

pub restarted_targets : (script : Script) → HaveTargets script.events → HaveTargets (restarted script).events
restarted_targets script have =
    All-append HasTarget script.events (restarts (length script.filers)) have (restarts_targets (length script.filers))
