use Rattle.std.proofs.Common.{arith}
use Rattle.connection_hall.proofs.Halls.{zero_taken}
use Rattle.connection_hall.proofs.hall.are_free.Goals as goal

pub returns : goal.returns
returns g c =
    let places = c.args.places.now in
    rw (zero_taken places (λ i low. c.loop-place.invariant i (omega (arith, low, c.loop-place-test.false))))
