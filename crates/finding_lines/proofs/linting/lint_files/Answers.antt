use Rattle.std.proofs.lemmas.Result.{err_from_is_err_and}
use Rattle.finding_lines.proofs.Looks.{more, broken}
use Rattle.finding_lines.proofs.linting.lint_files.Goals as goal

pub loop-file-preserved : goal.loop-file-preserved
loop-file-preserved g c =
    more (λ file. file.now) c.args.form c.args.filer.now c.args.files.now c.loop-file.file-index _
    (g.O.Write.contents c.args.output.now) (g.O.Write.contents c.loop-file.output)
    (g.O.Write.contents c.lint_file.new.output) c.loop-file.linted c.lint_file.new.linted c.loop-file-test.true
    c.loop-file.invariant c.in_ok-lint_file.ensures

pub returns-in_err-lint_file : goal.returns-in_err-lint_file
returns-in_err-lint_file g c =
    let told = err_from_is_err_and c.from_residual.result c.from_residual.ensures.1 in
    rw (told.1, told.2)
    (broken (λ file. file.now) c.args.form c.args.filer.now c.args.files.now c.loop-file.file-index
    (g.O.Write.contents c.args.output.now) (g.O.Write.contents c.loop-file.output)
    (g.O.Write.contents c.lint_file.new.output) c.loop-file.linted c.in_err-lint_file.field-0.0 c.loop-file-test.true
    c.loop-file.invariant c.in_err-lint_file.ensures)
