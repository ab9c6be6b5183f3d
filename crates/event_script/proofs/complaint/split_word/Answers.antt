use Rattle.std.proofs.Common.{rules}
use Rattle.event_script.specs.Words.{is_space}
use Rattle.event_script.proofs.Parts.{list_any-alone}
use Rattle.event_script.proofs.complaint.split_word.Goals as goal

pub returns-in-None-clause-rest : goal.returns-in-None-clause-rest
returns-in-None-clause-rest c = search (rules, list_any-alone is_space c.args.words.now)
