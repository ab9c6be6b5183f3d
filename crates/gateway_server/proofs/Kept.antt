-- What is kept after several requests were decided.
use Rattle.std.proofs.Common.{◌≡◌, ◌≤◌, ℕ, true, false, List, [], ◌∷◌, length, take, Ok, Err, arith, refl, sym}
use Rattle.std.proofs.Common.{◌∙◌}
use Rattle.std.proofs.Common.{subst, ⊎_elim, length-append}
use Rattle.std.proofs.lemmas.List.{take-append-le}
use Rattle.std.proofs.lemmas.Bool.{cases_Bool}
use Rattle.filing_model.specs.Request.{Request, firsts, has_key}
use Rattle.filing_model.proofs.Firsts.{firsts_repeat}
use Rattle.intake_core.proofs.Deciding.{firsts-more}
use Rattle.intake_core.specs.Group.{Decided, Given, after, after_one}

-- ---- what was there first stays there

abbrev pub Keeps : ℕ → List Request → List Request → Type 0
Keeps n F G = (take n G ≡ take n F) × (firsts G ≡ G) × (n ≤ length G)

keeps_one : (n : ℕ) (F : List Request) (r : Request) (result : Given) → n ≤ length F → firsts F ≡ F
    → Keeps n F (after_one F r result)
keeps_one n F r (Err e) few are = (refl, are, few)
keeps_one n F r (Ok a) few are = ⊎_elim
    (λ (h : has_key F r ≡ true). subst (Keeps n F) (sym (firsts_repeat F r h ∙ are)) (refl, are, few))
    (λ (h : has_key F r ≡ false). subst (Keeps n F) (sym (firsts-more F r are h)) (
      take-append-le n F (r ∷ []) few,
      firsts-more F r are h,
      omega (arith, few, length-append F (r ∷ [])),
    ))
    (cases_Bool (has_key F r))

pub keeps_after : (n : ℕ) (F : List Request) (ds : List Decided) → n ≤ length F → firsts F ≡ F → Keeps n F (after F ds)
keeps_after n F [] few are = (refl, are, few)
keeps_after n F (d ∷ ds) few are =
    let one = keeps_one n F d.0 d.1 few are in
    let rest = keeps_after n (after_one F d.0 d.1) ds one.2 one.1 in
    (rest.0 ∙ one.0, rest.1, rest.2)
