-- What becomes of whether it is certain what lies in a place.
use Rattle.std.proofs.Common.{◌≡◌, true, false, true≢false, refl, sym, ◌∙◌, ap}
use Rattle.std.specs.Prelude.{Bool, not, ◌&&◌, if◌then◌else◌}

-- the certainty falls if that leaves a doubt
pub falls : (was told doubt : Bool) → told ≡ doubt → (was && not told) ≡ (if doubt then false else was)
falls true true doubt is = ap (λ d. if d then false else true) is
falls true false doubt is = ap (λ d. if d then false else true) is
falls false true doubt is = ap (λ d. if d then false else false) is
falls false false doubt is = ap (λ d. if d then false else false) is

-- what is certain afterwards leaves no doubt, and was certain before
pub sure_after : (doubt was now : Bool) → now ≡ (if doubt then false else was) → now ≡ true
    → (doubt ≡ false) × (was ≡ true)
sure_after true was now is certain = absurd (true≢false (sym certain ∙ is))
sure_after false was now is certain = (refl, sym is ∙ certain)
