use Rattle.finding_lines.proofs.Looks.{LintsFirst}
use Rattle.finding_lines.proofs.linting.lint_files.Given as goal

abbrev pub invariant-loop-file : goal.invariant-loop-file
invariant-loop-file g l =
    LintsFirst (λ file. file.now) l.form l.filer l.files l.file-index (g.O.Write.contents l.fn.output)
    (g.O.Write.contents l.output) l.linted
