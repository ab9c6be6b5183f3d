use Rattle.std.proofs.Common.{◌≡◌, ◌++◌}
use Rattle.serde_json.specs.Data.{no_members}
use Rattle.json_tree.specs.Putting.{put_all}
use Rattle.json_tree.specs.View.{members_view}
use Rattle.json_tree.proofs.order.put_in_order.Given as goal

abbrev pub invariant-loop-name : goal.invariant-loop-name
invariant-loop-name l =
    put_all (members_view l.ordered.entries) l.name-iterator.rest.items ≡ put_all no_members l.fn.members.items

abbrev pub invariant-loop-member : goal.invariant-loop-member
invariant-loop-member l = put_all no_members l.fn.members.items ≡ members_view (l.list.items ++ l.member-iterator)
