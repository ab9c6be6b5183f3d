use Rattle.intake_core.proofs.fact_lines.null.Goals as goal

pub returns : goal.returns
returns c = c.from_str.ensures.ok
