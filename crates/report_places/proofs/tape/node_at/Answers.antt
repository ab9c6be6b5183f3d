use Rattle.std.proofs.Common.{◌<◌, map, length, subst, arith}
use Rattle.std.proofs.lemmas.List.{get_or_default}
use Rattle.json.specs.Tape.{node_token, LinkAt}
use Rattle.json.specs.declared.tape.Node.TheVariants.{Object, Null}
use Rattle.report_places.proofs.Tapes.{here}
use Rattle.report_places.proofs.tape.node_at.Goals as goal

pub returns-then-at-nodes : goal.returns-then-at-nodes
returns-then-at-nodes c =
    let nodes = c.args.nodes.now in
    let at = c.args.at in
    let within : at < length nodes = omega arith in
    record {
      within = within;
      first = here nodes at (Object 0) within;
      link = subst (LinkAt (map node_token nodes) at) (get_or_default nodes at Null (Object 0) within)
          (c.requires at (omega arith) within);
    }
