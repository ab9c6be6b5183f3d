use Rattle.http_messages.proofs.PartLemmas.{parts-at, parts-whole}
use Rattle.http_messages.proofs.split.split_at_first.Goals as goal

pub returns-in-Some-clause-parts : goal.returns-in-Some-clause-parts
returns-in-Some-clause-parts c = parts-at c.args.stop c.args.text.now c.in-Some.at cc

pub returns-in-None-clause-parts : goal.returns-in-None-clause-parts
returns-in-None-clause-parts c = parts-whole c.args.stop c.args.text.now cc
