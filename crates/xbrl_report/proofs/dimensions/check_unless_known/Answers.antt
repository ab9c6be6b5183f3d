use Rattle.std.proofs.Common.{append-nil, sym}
use Rattle.std.specs.Cmp.Lexicographic.{same_text}
use Rattle.xbrl_report.proofs.Known.{nothing_found}
use Rattle.xbrl_report.proofs.dimensions.check_unless_known.Goals as goal

pub returns-in-Some : goal.returns-in-Some
returns-in-Some c =
    let right = rw c.in-Some.is at c.requires in
    rw (nothing_found _ _ _ _ _ _ _ right (same_text _ _ c.if-eq.ensures) (sym c.if-is_same_text.ensures))
    (sym (append-nil c.args.found.now))
