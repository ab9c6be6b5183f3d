use Rattle.std.proofs.Common.{◌++◌, ap, ◌∙◌}
use Rattle.json.specs.Print.{print}
use Rattle.json.specs.Tree.{json_tokens}
use Rattle.serde_json.specs.Data.{object}
use Rattle.serde_json.specs.Written.{outline}
use Rattle.serde_json.proofs.Texts.{print-outline}
use Rattle.json_tree.specs.View.{members_view}
use Rattle.register_extracts.specs.Dimensions.{others}
use Rattle.register_extracts.proofs.facts.others.others_text.Goals as goal

pub returns : goal.returns
returns c =
    let d = object (others (members_view c.args.members.now)) in
    let ts = c.write_object.new.out.tokens in
    c.into_inner.ensures.items ∙ ap (λ b. b ++ print ts) (c.write_object.ensures.before ∙ c.new-out.ensures.before
    ∙ c.in_ok-with_capacity.ensures.items)
    ∙ ap print (c.in_ok-write_object.ensures.ok ∙ ap (λ old. old ++ json_tokens (outline d)) c.new-out.ensures.tokens)
    ∙ print-outline d
