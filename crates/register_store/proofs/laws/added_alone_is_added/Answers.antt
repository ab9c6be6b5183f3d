use Rattle.register_store.proofs.AddsSeveral.{added_alone}
use Rattle.register_store.proofs.laws.added_alone_is_added.Goals as goal

pub returns : goal.returns
returns g c = added_alone g.S.Store
