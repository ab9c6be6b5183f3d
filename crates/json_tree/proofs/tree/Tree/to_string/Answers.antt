use Rattle.std.proofs.Common.{◌≡◌, ◌++◌, ap, ◌∙◌, rules}
use Rattle.json.specs.Print.{print}
use Rattle.json.specs.Tree.{json_tokens}
use Rattle.serde_json.specs.Written.{compact_text, outline}
use Rattle.serde_json.proofs.Texts.{print-outline}
use Rattle.json_tree.specs.View.{view}
use Rattle.json_tree.proofs.tree.Tree.to_string.Goals as goal

pub returns-in-Ok : goal.returns-in-Ok
returns-in-Ok c =
    let d = view c.args.self.now in
    let ts = c.write.new.out.tokens in
    let text : c.into_inner.result.items ≡ compact_text d =
    c.into_inner.ensures.items ∙ ap (λ b. b ++ print ts) (c.write.ensures.before ∙ c.new-out.ensures.before
    ∙ c.in_ok-with_capacity.ensures.items)
    ∙ ap print (c.in_ok-write.ensures.ok ∙ ap (λ old. old ++ json_tokens (outline d)) c.new-out.ensures.tokens)
    ∙ print-outline d in
    search (rules, text)
