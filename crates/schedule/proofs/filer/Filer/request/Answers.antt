use Rattle.std.specs.String.{string_bytes}
use Rattle.schedule.proofs.filer.Filer.request.Goals as goal

pub returns-clause-bytes : goal.returns-clause-bytes
returns-clause-bytes g c =
    rw (← c.self.view_is) (c.request.ensures.bytes (string_bytes c.self.inside.code) c.self.inside.entries.items
    c.self.invariant)
