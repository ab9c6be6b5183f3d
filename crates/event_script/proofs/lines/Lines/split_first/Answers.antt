use Rattle.std.proofs.Common.{rules}
use Rattle.std.proofs.lemmas.List.Splits.{slice_split_first}
use Rattle.event_script.proofs.Parts.{slice_split-alone}
use Rattle.event_script.specs.Text.{is_line_feed}
use Rattle.event_script.proofs.lines.Lines.split_first.Goals as goal

pub returns-in_err-line-clause-parts : goal.returns-in_err-line-clause-parts
returns-in_err-line-clause-parts c = search (rules, slice_split-alone is_line_feed c.args.self.rest.now)

pub returns-clause-parts : goal.returns-clause-parts
returns-clause-parts c = search (rules, slice_split_first is_line_feed c.args.self.rest.now 0)
