use Rattle.std.proofs.Common.{subst}
use Rattle.json_tree.specs.Putting.{IsAscending}
use Rattle.json_tree.proofs.Putting.{put_all-ascending}
use Rattle.json_tree.proofs.order.in_order.Goals as goal

pub returns-then-is_ascending : goal.returns-then-is_ascending
returns-then-is_ascending c =
    put_all-ascending c.args.members.items (subst IsAscending c.deref.ensures.value
    (c.is_ascending.ensures c.if-is_ascending.true))
