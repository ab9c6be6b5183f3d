use Rattle.std.proofs.Common.{◌≡◌, Some, sym, refl}
use Rattle.event_script.specs.Lines.{line_filer}
use Rattle.event_script.proofs.Reading.{filers_of-more}
use Rattle.event_script.proofs.read.split_filer.Goals as goal

pub returns-clause-filer : goal.returns-clause-filer
returns-clause-filer c =
    let says : line_filer c.in_ok-line.line.now ≡ Some c.in_ok-filer.filer.now = sym c.in_ok-filer.ensures in
    rw (c.in_ok-line.ensures.parts, filers_of-more c.in_ok-line.line.now c.in_ok-line.behind.rest.now, says) refl
