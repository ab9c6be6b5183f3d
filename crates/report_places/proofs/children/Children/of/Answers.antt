use Rattle.std.proofs.Common.{◌+◌, ◌∷◌, map, slice_get, ap, ◌∙◌}
use Rattle.json.specs.Tape.{node_token}
use Rattle.report_places.specs.Entries.{value_at}
use Rattle.report_places.specs.OnTape.{left_at}
use Rattle.report_places.proofs.Below.{object_below, array_below}
use Rattle.report_places.proofs.children.Children.of.Goals as goal

pub returns-in_ok-members-in-Some-Object-clause-led : goal.returns-in_ok-members-in-Some-Object-clause-led
returns-in_ok-members-in-Some-Object-clause-led c value rest e =
    let nodes = c.args.nodes.now in
    let first = c.in-Some-Object.ensures.first
    ∙ ap (λ n. node_token n ∷ left_at nodes (c.args.at + 1)) c.in-Some-Object.field-0-is in
    let found = c.in_ok-members-in-Some-Object in
    object_below (map node_token nodes) c.args.at value rest (value_at found.field-0.items) first e found.ensures.found

pub returns-in_ok-elements-in-Some-Array-clause-led : goal.returns-in_ok-elements-in-Some-Array-clause-led
returns-in_ok-elements-in-Some-Array-clause-led c value rest e =
    let nodes = c.args.nodes.now in
    let first = c.in-Some-Array.ensures.first
    ∙ ap (λ n. node_token n ∷ left_at nodes (c.args.at + 1)) c.in-Some-Array.field-0-is in
    array_below (map node_token nodes) c.args.at value rest (slice_get c.in_ok-elements-in-Some-Array.field-0.items)
    first e c.in_ok-elements-in-Some-Array.ensures
