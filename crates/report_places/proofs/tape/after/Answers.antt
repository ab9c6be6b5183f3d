use Rattle.std.proofs.Common.{◌≡◌, length, map, sym, ◌∙◌, subst, arith}
use Rattle.std.proofs.lemmas.List.{length-map}
use Rattle.json.specs.Tape.{node_token, LinkAt}
use Rattle.json.specs.Tree.{json_tokens}
use Rattle.report_places.proofs.Tapes.{by_link, of_one_node, within}
use Rattle.report_places.proofs.tape.after.Goals as goal

pub returns-in_default-clause-value : goal.returns-in_default-clause-value
returns-in_default-clause-value c value rest e =
    absurd (omega (
      arith,
      within (map node_token c.args.nodes.now) c.args.at value rest e,
      length-map c.args.nodes.now node_token,
      c.in_default.ensures,
    ))

pub returns-in-Object-clause-value : goal.returns-in-Object-clause-value
returns-in-Object-clause-value c value rest e =
    let all = map node_token c.args.nodes.now in
    by_link all c.args.at c.in-Object.end value rest
    (subst (LinkAt all c.args.at) c.in-Object.is c.in-Some.ensures.link) e

pub returns-in-Array-clause-value : goal.returns-in-Array-clause-value
returns-in-Array-clause-value c value rest e =
    let all = map node_token c.args.nodes.now in
    by_link all c.args.at c.in-Array.end value rest (subst (LinkAt all c.args.at) c.in-Array.is c.in-Some.ensures.link)
    e

pub returns-in_default-node : goal.returns-in_default-node
returns-in_default-node c = record {
  value = λ value rest e. (let one : length (json_tokens value) ≡ 1 =
      of_one_node c.in-Some.node _ value rest (λ a z. grind arith) (λ a z. grind arith) (sym c.in-Some.ensures.first
      ∙ e) in omega arith);
  later = omega arith;
}
