use Rattle.std.proofs.Common.{sym}
use Rattle.database_places.proofs.closing.give_up.Goals as goal

pub returns : goal.returns
returns g c = (
  c.close.result,
  c.leave.ensures.left,
  record {
    last = c.into_store.result;
    same = sym c.close.ensures;
    closed =
        record { quiet = c.into_store.ensures.quiet; sound = c.into_store.ensures.sound };
    numbered = c.into_store.ensures.numbered;
  },
)
