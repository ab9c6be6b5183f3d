use Rattle.std.proofs.Common.{◌≡◌, ◌++◌, drop}
use Rattle.json.specs.Tree.{members_tokens}
use Rattle.serde_json.specs.Written.{members_outline}
use Rattle.json_tree.specs.View.{members_view}
use Rattle.register_extracts.specs.Dimensions.{others}
use Rattle.register_extracts.proofs.facts.others.write_others.Given as goal

abbrev pub invariant-loop-member : goal.invariant-loop-member
invariant-loop-member l =
    (l.out.before ≡ l.initial.out.before)
    × (l.out.tokens ++ members_tokens (members_outline (others (members_view (drop l.member-index l.members))))
    ≡ l.initial.out.tokens ++ members_tokens (members_outline (others (members_view l.members))))
