use Rattle.connection_hall.proofs.Waits.{was_read}
use Rattle.connection_hall.proofs.laws.what_waits_was_read.Goals as goal

pub returns : goal.returns
returns g c = λ answers hall traffic place arrival running waits.
    was_read g.S.Stream answers hall traffic place arrival running waits
