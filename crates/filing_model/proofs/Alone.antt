-- The steps of one connection alone.
use Rattle.std.proofs.Common.{◌≡◌, ◌↔◌, ℕ, List, [], ◌∷◌, ◌++◌, length, refl, ap, ap₂, ◌∙◌, append_assoc, arith}
use Rattle.std.proofs.Common.{nat_eq, Bool, true, false}
use Rattle.std.specs.Prelude.{if◌then◌else◌}
use Rattle.std.proofs.lemmas.Bool.Decides.{nat_tests}
use Rattle.http_messages.specs.Message.{Arrival, Ending}
use Rattle.filing_model.specs.declared.served.Mark.{Mark}
use Rattle.filing_model.specs.Request.{Request}
use Rattle.filing_model.specs.Steps.{StepsFit, all_completed, text_on, steps_on}
use Rattle.filing_model.specs.Text.{text_with, MarksFit, completed, completed_at, interim_of, reply_text_with}

pub nat_eq-same : (n : ℕ) → nat_eq n n ≡ true
nat_eq-same n = grind (arith, nat_tests)

pub text-picked : (b : Bool) (text : List ℕ) → b ≡ true → (if b then text else []) ≡ text
text-picked true text is = refl
text-picked false text is = absurd (let e = is in cc)

pub alone_text : (old_style before : List Request) (i : ℕ) (arrivals : List Arrival) (marks : List Mark)
    → length marks ≡ length arrivals
    → text_on old_style before i (steps_on i arrivals marks) ≡ text_with old_style before arrivals Ending.Closed marks
unfolding text_with
alone_text old_style before i [] [] all = refl
alone_text old_style before i [] (mark ∷ marks) all = absurd (let e = all in cc)
alone_text old_style before i (arrival ∷ arrivals) [] all = absurd (let e = all in cc)
alone_text old_style before i (arrival ∷ arrivals) (mark ∷ marks) all =
    let now = before ++ completed_at arrival mark in
    let reply = reply_text_with old_style before arrival mark in
    ap₂ (λ (a : List ℕ) (b : List ℕ). a ++ b) (text-picked (nat_eq i i) (interim_of arrival ++ reply) (nat_eq-same i))
    (alone_text old_style now i arrivals marks (omega (arith, all)))
    ∙ append_assoc (interim_of arrival) reply (text_with old_style now arrivals Ending.Closed marks)

alone_fit : (limit : ℕ) (before : List Request) (i : ℕ) (arrivals : List Arrival) (marks : List Mark)
    → length marks ≡ length arrivals → StepsFit limit before (steps_on i arrivals marks)
    → MarksFit limit before arrivals marks
unfolding MarksFit
alone_fit limit before i [] [] all fit = tt
alone_fit limit before i [] (mark ∷ marks) all fit = absurd (let e = all in cc)
alone_fit limit before i (arrival ∷ arrivals) [] all fit = tt
alone_fit limit before i (arrival ∷ arrivals) (mark ∷ marks) all fit =
    (fit.0, alone_fit limit (before ++ completed_at arrival mark) i arrivals marks (omega (arith, all)) fit.1)

fit_alone : (limit : ℕ) (before : List Request) (i : ℕ) (arrivals : List Arrival) (marks : List Mark)
    → MarksFit limit before arrivals marks → StepsFit limit before (steps_on i arrivals marks)
unfolding MarksFit
fit_alone limit before i [] marks fit = tt
fit_alone limit before i (arrival ∷ arrivals) [] fit = tt
fit_alone limit before i (arrival ∷ arrivals) (mark ∷ marks) fit =
    (fit.0, fit_alone limit (before ++ completed_at arrival mark) i arrivals marks fit.1)

pub fit_alike : (limit : ℕ) (before : List Request) (i : ℕ) (arrivals : List Arrival) (marks : List Mark)
    → length marks ≡ length arrivals
    → StepsFit limit before (steps_on i arrivals marks) ↔ MarksFit limit before arrivals marks
fit_alike limit before i arrivals marks all =
    (alone_fit limit before i arrivals marks all, fit_alone limit before i arrivals marks)

pub completed_alone : (i : ℕ) (arrivals : List Arrival) (marks : List Mark)
    → all_completed (steps_on i arrivals marks) ≡ completed arrivals marks
unfolding completed
completed_alone i [] marks = refl
completed_alone i (arrival ∷ arrivals) [] = refl
completed_alone i (arrival ∷ arrivals) (mark ∷ marks) =
    ap (λ (rs : List Request). completed_at arrival mark ++ rs) (completed_alone i arrivals marks)
