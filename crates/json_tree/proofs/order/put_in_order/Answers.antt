use Rattle.std.proofs.Common.{ap, sym, ◌∙◌}
use Rattle.json_tree.specs.Putting.{put_all}
use Rattle.json_tree.specs.View.{members_view}
use Rattle.json_tree.proofs.Putting.{members_view-insert_entry}
use Rattle.json_tree.proofs.order.put_in_order.Goals as goal

pub loop-name-preserved : goal.loop-name-preserved
loop-name-preserved c =
    let l = c.loop-name in
    let rest = c.next.new.self.rest.items in
    let inserted =
    ap members_view c.in_ok-insert.ensures.entries
    ∙ members_view-insert_entry l.ordered.entries c.in-Some.name c.in-Some.value in
    ap (λ found. put_all found rest) inserted
    ∙ ap (put_all (members_view l.ordered.entries)) (sym c.in-Some.ensures.steps.0) ∙ l.invariant
