use Rattle.std.proofs.Common.{◌≡◌, map, take}
use Rattle.finding_lines.proofs.telling.pointers_of.Given as goal

abbrev pub invariant-loop-finding : goal.invariant-loop-finding
invariant-loop-finding l =
    map (λ pointer. pointer.now) l.pointers.items ≡ map (λ finding. finding.place) (take l.finding-index l.findings)
