-- One more step behind others.
use Rattle.std.proofs.Common.{◌≡◌, ◌≢◌, ℕ, Bool, true, false, List, [], ◌∷◌, ◌++◌, refl, sym, ap, ◌∙◌, arith}
use Rattle.std.proofs.Common.{subst}
use Rattle.std.proofs.Common.{nat_eq, append_assoc}
use Rattle.std.specs.Prelude.{if◌then◌else◌}
use Rattle.std.proofs.lemmas.Bool.Decides.{nat_tests}
use Rattle.http_messages.specs.Message.{Arrival}
use Rattle.filing_model.specs.Request.{Request}
use Rattle.filing_model.specs.Text.{MarkFits, completed_at}
use Rattle.filing_model.proofs.Alone.{nat_eq-same, text-picked}
use Rattle.filing_model.proofs.Lists.{append_nil}
use Rattle.filing_model.specs.Steps.{Step, StepsFit, all_completed, arrivals_on, text_on, text_of_step}

nat_eq-other : (n i : ℕ) → n ≢ i → nat_eq n i ≡ false
nat_eq-other n i apart = grind (arith, nat_tests, apart)

text-skipped : (b : Bool) (text : List ℕ) → b ≡ false → (if b then text else []) ≡ []
text-skipped false text is = refl
text-skipped true text is = absurd (let e = is in cc)

-- the text of more steps stands behind
text_on-append : (old_style before : List Request) (i : ℕ) (steps more : List Step)
    → text_on old_style before i (steps ++ more)
    ≡ text_on old_style before i steps ++ text_on old_style (before ++ all_completed steps) i more
text_on-append old_style before i [] more =
    ap (λ (bs : List Request). text_on old_style bs i more) (sym (append_nil before))
text_on-append old_style before i (step ∷ steps) more =
    let now = before ++ completed_at step.arrival step.mark in
    let here = if nat_eq step.on i then text_of_step old_style before step else [] in
    ap (λ (text : List ℕ). here ++ text) (text_on-append old_style now i steps more
    ∙ ap (λ (bs : List Request). text_on old_style now i steps ++ text_on old_style bs i more)
    (append_assoc before (completed_at step.arrival step.mark) (all_completed steps)))
    ∙ sym (append_assoc here (text_on old_style now i steps)
    (text_on old_style (before ++ (completed_at step.arrival step.mark ++ all_completed steps)) i more))

pub own_text : (old_style before : List Request) (steps : List Step) (step : Step)
    → text_on old_style before step.on (steps ++ step ∷ [])
    ≡ text_on old_style before step.on steps ++ text_of_step old_style (before ++ all_completed steps) step
own_text old_style before steps step =
    let now = before ++ all_completed steps in
    text_on-append old_style before step.on steps (step ∷ [])
    ∙ ap (λ (text : List ℕ). text_on old_style before step.on steps ++ text)
    (append_nil (if nat_eq step.on step.on then text_of_step old_style now step else [])
    ∙ text-picked (nat_eq step.on step.on) (text_of_step old_style now step) (nat_eq-same step.on))

pub others_text : (old_style before : List Request) (steps : List Step) (step : Step) (i : ℕ) → step.on ≢ i
    → text_on old_style before i (steps ++ step ∷ []) ≡ text_on old_style before i steps
others_text old_style before steps step i apart =
    let now = before ++ all_completed steps in
    text_on-append old_style before i steps (step ∷ [])
    ∙ ap (λ (text : List ℕ). text_on old_style before i steps ++ text)
    (append_nil (if nat_eq step.on i then text_of_step old_style now step else [])
    ∙ text-skipped (nat_eq step.on i) (text_of_step old_style now step) (nat_eq-other step.on i apart))
    ∙ append_nil (text_on old_style before i steps)

-- what they completed with one more
pub completed_more : (steps : List Step) (step : Step)
    → all_completed (steps ++ step ∷ []) ≡ all_completed steps ++ completed_at step.arrival step.mark
completed_more [] step = append_nil (completed_at step.arrival step.mark)
completed_more (first ∷ steps) step =
    ap (λ (rs : List Request). completed_at first.arrival first.mark ++ rs) (completed_more steps step)
    ∙ sym (append_assoc (completed_at first.arrival first.mark) (all_completed steps)
    (completed_at step.arrival step.mark))

-- the mark of the last one may be given after all that the others completed
pub last_fits : (limit : ℕ) (before : List Request) (steps : List Step) (step : Step)
    → StepsFit limit before (steps ++ step ∷ [])
    → MarkFits limit (before ++ all_completed steps) step.arrival step.mark
last_fits limit before [] step fit =
    subst (λ (rs : List Request). MarkFits limit rs step.arrival step.mark) (sym (append_nil before)) fit.0
last_fits limit before (first ∷ steps) step fit =
    subst (λ (rs : List Request). MarkFits limit rs step.arrival step.mark)
    (append_assoc before (completed_at first.arrival first.mark) (all_completed steps))
    (last_fits limit (before ++ completed_at first.arrival first.mark) steps step fit.1)

-- marks that fit, and one more
pub fits_more : (limit : ℕ) (before : List Request) (steps : List Step) (step : Step) → StepsFit limit before steps
    → MarkFits limit (before ++ all_completed steps) step.arrival step.mark
    → StepsFit limit before (steps ++ step ∷ [])
fits_more limit before [] step fit last =
    (subst (λ (rs : List Request). MarkFits limit rs step.arrival step.mark) (append_nil before) last, tt)
fits_more limit before (first ∷ steps) step fit last = (
  fit.0,
  fits_more limit (before ++ completed_at first.arrival first.mark) steps step fit.1
      (subst (λ (rs : List Request). MarkFits limit rs step.arrival step.mark)
      (sym (append_assoc before (completed_at first.arrival first.mark) (all_completed steps))) last),
)

-- the arrivals of its connection, and those of the others
pub own_arrivals : (steps : List Step) (step : Step)
    → arrivals_on step.on (steps ++ step ∷ []) ≡ arrivals_on step.on steps ++ step.arrival ∷ []
own_arrivals [] step = rw (nat_eq-same step.on) refl
own_arrivals (first ∷ steps) step =
    let here = if nat_eq first.on step.on then first.arrival ∷ [] else [] in
    ap (λ (arrivals : List Arrival). here ++ arrivals) (own_arrivals steps step)
    ∙ sym (append_assoc here (arrivals_on step.on steps) (step.arrival ∷ []))

pub others_arrivals : (steps : List Step) (step : Step) (i : ℕ) → step.on ≢ i
    → arrivals_on i (steps ++ step ∷ []) ≡ arrivals_on i steps
others_arrivals [] step i apart = rw (nat_eq-other step.on i apart) refl
others_arrivals (first ∷ steps) step i apart =
    ap (λ (arrivals : List Arrival). (if nat_eq first.on i then first.arrival ∷ [] else []) ++ arrivals)
    (others_arrivals steps step i apart)
