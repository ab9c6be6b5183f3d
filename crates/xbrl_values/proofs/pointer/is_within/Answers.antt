use Rattle.std.proofs.Common.{◌≡◌, arith, length, map, drop, ap, refl}
use Rattle.std.proofs.lemmas.Bool.{false≢true}
use Rattle.std.proofs.lemmas.Grind.{common_steps}
use Rattle.xbrl_values.specs.Pointer.{pointer}
use Rattle.xbrl_values.proofs.Escapes.{length-pointer-drop, pointer_past}
use Rattle.xbrl_values.proofs.pointer.is_within.Goals as goal

pub loop-name-preserved : goal.loop-name-preserved
loop-name-preserved c = let left = c.in-Some.ensures in grind (arith, common_steps, length-pointer-drop)

pub returns-in_default : goal.returns-in_default
returns-in_default c =
    let none = c.in_default.ensures in
    (λ e. absurd (false≢true e), λ within. absurd (grind (arith, common_steps, length-pointer-drop)))

pub returns : goal.returns
returns c =
    let empty = pointer_past c.args.path.now c.loop-name.name-index (omega arith) in
    let none : length (pointer (map (λ n. n.now) (drop c.loop-name.name-index c.args.path.now))) ≡ 0 =
    ap length empty in
    (λ _. omega (arith, c.loop-name.invariant), λ _. refl)
