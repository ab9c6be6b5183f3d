use Rattle.std.proofs.Common.{◌≡◌, false, map, take}
use Rattle.filing_world.specs.World.{new_outbox}
use Rattle.schedule.specs.Filers.{boxes, is_any_taken}
use Rattle.schedule.proofs.world.outboxes.Given as goal

abbrev pub invariant-loop-code : goal.invariant-loop-code
invariant-loop-code g l = record {
  each : boxes l.list.items ≡ map new_outbox (map (λ f. f.now) (take l.code-index l.filers));
  there : is_any_taken l.list.items ≡ false;
}
