use Rattle.std.proofs.Common.{◌≡◌, ℕ, List, ◌++◌, map, drop, sym, subst}
use Rattle.std.proofs.lemmas.Result.{IfOk-weaker}
use Rattle.json.specs.Json.{Members}
use Rattle.json.specs.Token.{Token}
use Rattle.json.specs.Tape.{node_token}
use Rattle.json.specs.Tree.{members_tokens}
use Rattle.report_places.specs.Entries.{value_at}
use Rattle.report_places.specs.Lead.{member_of}
use Rattle.report_places.specs.OnTape.{IsFound}
use Rattle.report_places.proofs.children.members.Goals as goal

pub returns-clause-found : goal.returns-clause-found
returns-clause-found c =
    let ts = map node_token c.args.nodes.now in
    IfOk-weaker c.by_name.result
    (λ entries. (name : List ℕ) → value_at entries.items name ≡ value_at c.in_ok-entries.entries.items name)
    (λ entries. (members : Members) (rest : List Token) → drop c.args.from ts ≡ members_tokens members ++ rest
    → (name : List ℕ) → IsFound ts c.args.from (member_of name members) (value_at entries.items name))
    (λ entries same members rest e name.
    subst (IsFound ts c.args.from (member_of name members)) (sym (same name))
    (c.in_ok-entries.ensures members rest e name)) c.by_name.ensures.same
