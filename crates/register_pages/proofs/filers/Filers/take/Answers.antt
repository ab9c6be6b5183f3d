use Rattle.register_pages.proofs.Codes.{taken_out}
use Rattle.register_pages.proofs.filers.Filers.take.Goals as goal

pub returns-in-Some : goal.returns-in-Some
returns-in-Some c = rw c.remove.ensures.entries (taken_out c.args.filer.now c.args.self.now.list.entries)

pub returns-in-None : goal.returns-in-None
returns-in-None c = rw c.remove.ensures.entries (taken_out c.args.filer.now c.args.self.now.list.entries)
