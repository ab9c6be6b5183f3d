use Rattle.std.proofs.Common.{◌≡◌, ◌++◌, drop, false}
use Rattle.json.specs.Tree.{items_tokens, members_tokens}
use Rattle.serde_json.specs.Written.{items_have_float, members_have_float, items_outline, members_outline}
use Rattle.json_tree.specs.View.{items_view, members_view}
use Rattle.json_tree.proofs.writing.+write.Given as goal

abbrev pub invariant-write_items-loop-item : goal.invariant-write_items-loop-item
invariant-write_items-loop-item l =
    (items_have_float (items_view (drop l.item-index l.items)) ≡ false) × (l.out.before ≡ l.initial.out.before)
    × (l.out.tokens ++ items_tokens (items_outline (items_view (drop l.item-index l.items))) ≡ l.initial.out.tokens
    ++ items_tokens (items_outline (items_view l.items)))

abbrev pub invariant-write_members-loop-member : goal.invariant-write_members-loop-member
invariant-write_members-loop-member l =
    (members_have_float (members_view (drop l.member-index l.members)) ≡ false) × (l.out.before ≡ l.initial.out.before)
    × (l.out.tokens ++ members_tokens (members_outline (members_view (drop l.member-index l.members)))
    ≡ l.initial.out.tokens ++ members_tokens (members_outline (members_view l.members)))
