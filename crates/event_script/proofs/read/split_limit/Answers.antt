use Rattle.std.proofs.Common.{◌≡◌, Some, sym, refl}
use Rattle.event_script.specs.Lines.{line_limit}
use Rattle.event_script.proofs.Reading.{limit_of-more}
use Rattle.event_script.proofs.read.split_limit.Goals as goal

pub returns-clause-limit : goal.returns-clause-limit
returns-clause-limit c =
    let says : line_limit c.in_ok-line.line.now ≡ Some c.in_ok-limit.limit = sym c.in_ok-limit.ensures in
    rw (c.in_ok-line.ensures.parts, limit_of-more c.in_ok-line.line.now c.in_ok-line.behind.rest.now, says) refl
