use Rattle.std.proofs.lemmas.Result.{on_ok_weaker}
use Rattle.register_pages.proofs.Elements.{same_then}
use Rattle.register_pages.proofs.filers.Filers.add.Goals as goal

pub returns : goal.returns
returns c = on_ok_weaker c.put.result (λ put. same_then put c.take-known.ensures) c.put.ensures
