use Rattle.register_extracts.proofs.Columns.{agree_in_each}
use Rattle.register_extracts.proofs.facts.laws.columns_tell_facts_apart.Goals as goal

pub returns : goal.returns
returns c = agree_in_each
