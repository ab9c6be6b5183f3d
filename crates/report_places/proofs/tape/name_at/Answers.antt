use Rattle.std.proofs.Common.{◌≡◌, None, map, sym, ◌∙◌, subst, arith}
use Rattle.std.proofs.lemmas.List.{drop_all, length-map}
use Rattle.json.specs.Tape.{node_token}
use Rattle.report_places.specs.OnTape.{IsNameAt}
use Rattle.report_places.proofs.Tapes.{members_need_tokens, no_member, no_key}
use Rattle.report_places.proofs.tape.name_at.Goals as goal

pub returns-in_err-name : goal.returns-in_err-name
returns-in_err-name c =
    let nodes = c.args.nodes.now in
    let gone : c.from_residual.result ≡ None = grind arith in
    subst (IsNameAt nodes c.args.at) (sym gone)
    (λ ms rest e. absurd (members_need_tokens ms rest
    (sym (drop_all c.args.at (map node_token nodes)
    (omega (arith, length-map nodes node_token, c.in_err-name.ensures))) ∙ e)))

pub returns-in_default : goal.returns-in_default
returns-in_default c ms rest e =
    let node = c.in_ok-name.field-0 in
    no_member (node_token node) _ ms rest (no_key node (λ s z. grind arith)) (sym c.in_ok-name.ensures.first ∙ e)
