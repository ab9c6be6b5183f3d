use Rattle.std.proofs.Common.{◌∙◌, arith}
use Rattle.finding_lines.specs.Lines.{line}
use Rattle.finding_lines.proofs.Zipped.{pair_more, all_pairs}
use Rattle.finding_lines.proofs.telling.lines_at.Goals as goal

pub loop-index-preserved : goal.loop-index-preserved
loop-index-preserved c =
    let told = line c.args.form c.args.file.now c.args.body.now in
    c.in_ok-extend_from_slice.ensures.items
    ∙ pair_more told c.args.findings.now c.args.places.now c.loop-index.index c.index-findings-index.result _
    c.loop-index.lines.items c.deref.result.now
    (omega (arith, c.loop-index-test.true)) (omega (arith, c.loop-index-test.true, c.requires))
    c.index-findings-index.is c.loop-index.invariant
    (c.deref.ensures.value ∙ c.in_ok-line.ensures)

pub returns : goal.returns
returns c =
    c.loop-index.invariant ∙ all_pairs (line c.args.form c.args.file.now c.args.body.now) c.args.findings.now
    c.args.places.now c.loop-index.index (omega (arith, c.loop-index-test.false))
