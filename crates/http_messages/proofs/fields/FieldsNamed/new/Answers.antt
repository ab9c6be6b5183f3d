use Rattle.std.proofs.Common.{map, arith}
use Rattle.std.proofs.lemmas.Grind.{common_steps}
use Rattle.httparse.specs.Spans.{header_bytes}
use Rattle.http_messages.proofs.PartLemmas.{values_named-few}
use Rattle.http_messages.proofs.fields.FieldsNamed.new.Goals as goal

pub returns-clause-few : goal.returns-clause-few
returns-clause-few c =
    let few = values_named-few c.args.name.now (map (header_bytes c.args.block.now) c.args.spans.now.fields.items) in
    grind (arith, common_steps, few, c.requires.few)
