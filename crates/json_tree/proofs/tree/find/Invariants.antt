use Rattle.std.proofs.Common.{◌≡◌, drop}
use Rattle.serde_json.specs.Find.{get_member}
use Rattle.json_tree.specs.View.{members_view}
use Rattle.json_tree.proofs.tree.find.Given as goal

abbrev pub invariant-loop-member : goal.invariant-loop-member
invariant-loop-member l =
    get_member l.name (members_view l.members) ≡ get_member l.name (members_view (drop l.member-index l.members))
