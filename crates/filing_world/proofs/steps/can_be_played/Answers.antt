use Rattle.std.proofs.Common.{refl, ◌∷◌, ◌++◌, [], None, true}
use Rattle.filing_world.proofs.Stepping.{can_put, can_send, can_restart}
use Rattle.filing_world.proofs.steps.can_be_played.Goals as goal

pub returns : goal.returns
returns c = λ old. record {
  puts = can_put old;
  sends = can_send old;
  stranger = λ bytes. (record old { sent = old.sent ++ record { from = None; bytes = bytes } ∷ [] }, refl, refl);
  server = (record old { up = true }, refl, refl);
  outbox = can_restart old;
}
