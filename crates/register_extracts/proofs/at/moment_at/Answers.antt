use Rattle.std.proofs.Common.{pos, w64}
use Rattle.std.proofs.lemmas.Int.{to_z-of_z}
use Rattle.register_extracts.proofs.at.moment_at.Goals as goal

pub returns-in-Ok-clause-found : goal.returns-in-Ok-clause-found
returns-in-Ok-clause-found g c clean e F was moments one_each dated =
    c.moment_in_row.ensures.found clean e F was moments one_each dated c.args.place
    (rw c.in-Ok.ensures.1 (to_z-of_z w64 (pos c.args.place) c.in-Ok.ensures.0))
