use Rattle.std.proofs.Common.{◌≡◌, true, false, cond, Some, bytes_eq, drop, ◌+◌, ap, ◌∙◌, sym, arith}
use Rattle.serde_json.specs.Find.{get_member}
use Rattle.json_tree.specs.View.{view, members_view}
use Rattle.json_tree.proofs.Views.{get_member-at}
use Rattle.json_tree.proofs.tree.find.Goals as goal

pub returns-then-eq : goal.returns-then-eq
returns-then-eq c =
    let m = c.member-item.result in
    let same : bytes_eq c.args.name.now m.0.now ≡ true = grind arith in
    sym (c.loop-member.invariant
    ∙ get_member-at c.args.name.now c.args.members.now c.loop-member.member-index m (omega arith) c.member-item.is
    ∙ ap (λ b. cond b (Some (view m.1)) (get_member c.args.name.now
    (members_view (drop (c.loop-member.member-index + 1) c.args.members.now)))) same)

pub loop-member-preserved : goal.loop-member-preserved
loop-member-preserved c =
    let m = c.member-item.result in
    let other : bytes_eq c.args.name.now m.0.now ≡ false = grind arith in
    c.loop-member.invariant ∙ get_member-at c.args.name.now c.args.members.now c.loop-member.member-index m
    (omega arith) c.member-item.is
    ∙ ap (λ b. cond b (Some (view m.1)) (get_member c.args.name.now
    (members_view (drop (c.loop-member.member-index + 1) c.args.members.now)))) other
