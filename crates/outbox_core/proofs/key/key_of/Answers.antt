use Rattle.std.proofs.Common.{◌≡◌, ◌∙◌, ap, rules}
use Rattle.uuid.specs.Text.{hyphenated_text, lower}
use Rattle.key_string.specs.declared.fault.KeyFault.TheVariants.{Memory}
use Rattle.outbox_core.proofs.KeyLemmas.{is_made_key, only_memory}
use Rattle.outbox_core.proofs.key.key_of.Goals as goal

pub prove-unreachable-requires : goal.prove-unreachable-requires
prove-unreachable-requires c =
    let text : c.encode_lower.result.now ≡ hyphenated_text lower c.args.id =
    c.encode_lower.ensures.text ∙ ap (hyphenated_text lower) c.hyphenated.ensures in
    let memory : c.in-Err.fault ≡ Memory =
    only_memory (hyphenated_text lower c.args.id) c.in-Err.fault (is_made_key c.args.id)
    (rw text at c.in-Err.ensures.fault) in
    search rules
