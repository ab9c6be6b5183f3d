use Rattle.std.proofs.Common.{arith, ◌≤◌, length, refl, map}
use Rattle.std.proofs.lemmas.Grind.{common_steps}
use Rattle.xbrl_values.specs.Pointer.{pointer}
use Rattle.xbrl_report.proofs.Fits.{fits-push, fits-push_full, fits-push_long}
use Rattle.xbrl_report.proofs.found.FindingList.report.Goals as goal

pub returns-then-len-eq-MAX_FINDINGS :
    goal.returns-then-len-eq-MAX_FINDINGS
returns-then-len-eq-MAX_FINDINGS c = λ _.
    elim c.then-len-eq-MAX_FINDINGS.branch [
      | goal.then-len-eq-MAX_FINDINGS-via-then-len-eq-MAX_FINDINGS w ↦ rw (← c.self.view_is)
          (fits-push_full _ _ (grind (arith, common_steps)))
      | goal.then-len-eq-MAX_FINDINGS-via-else-len-eq-MAX_FINDINGS+then-not-is_within w ↦
          let within = w.is_within.ensures in
          let h = w.if-not-is_within in fits-push_long _ _ (grind (arith, common_steps))
    ]

pub invariant_of-self-2 : goal.invariant_of-self-2
invariant_of-self-2 c =
    let placed = c.in_ok-place.ensures in
    let within = c.if-not-is_within.ensures in
    let short : length (pointer (map (λ name. name.now) c.args.path.now)) ≤ 1024 = within.0 refl in
    rw c.in_ok-push.ensures.items (fits-push _ _ c.self.invariant (λ full. absurd (grind (arith, common_steps)))
    (rw placed short))
