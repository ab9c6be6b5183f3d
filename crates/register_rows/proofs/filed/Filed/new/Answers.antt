use Rattle.register_rows.proofs.HeldLemmas.{none_held_yet}
use Rattle.register_rows.proofs.filed.Filed.new.Goals as goal

pub returns : goal.returns
returns c = none_held_yet _ c.new.ensures.items c.new-2.ensures
