-- What marked arrivals do to the completed requests, and to the text.
use Rattle.std.proofs.Common.{◌≡◌, ℕ, zero, suc, ◌<◌, ◌≤◌, true, List, [], ◌∷◌, ◌++◌, length, take, refl, sym, ap, ◌∙◌}
use Rattle.std.proofs.Common.{subst, ⊎_elim, arith, append_assoc}
use Rattle.http_messages.specs.Message.{Arrival, Ending}
use Rattle.filing_model.specs.Prefix.{IsPrefixOf}
use Rattle.filing_model.specs.Request.{Request, has_key, firsts}
use Rattle.filing_model.specs.Answer.{answer}
use Rattle.filing_model.specs.Reply.{reply_of}
use Rattle.filing_model.specs.declared.served.Style.TheVariants.{Problem}
use Rattle.filing_model.specs.declared.served.Mark.{Mark}
use Rattle.filing_model.specs.declared.served.Mark.TheVariants.{Done, Unavailable, NotFiled}
use Rattle.filing_model.specs.Text.{Route, Reject, ListFilings, FileReport, route, RouteFits, MarkFits, MarksFit}
use Rattle.filing_model.specs.Text.{requests_of_route, completed, completed_at, interim_of, reply_text_with, text_with}
use Rattle.filing_model.specs.Text.{RepliesStand}
use Rattle.filing_model.proofs.Lists.{append_nil, prefix_refl, prefix_after}
use Rattle.filing_model.proofs.Firsts.{firsts_repeat, firsts_one_more}
use Rattle.filing_model.proofs.Answers.{answer_stable, reply_as-as_repeat}

-- the text for fewer marks begins the text for more
pub text_prefix : (limit : ℕ) (old_style requests : List Request) (arrivals : List Arrival) (ending : Ending)
    (marks : List Mark) (n : ℕ) → MarksFit limit requests arrivals marks
    → IsPrefixOf (text_with old_style requests arrivals ending (take n marks))
    (text_with old_style requests arrivals ending marks)
unfolding text_with MarksFit
text_prefix limit old_style requests arrivals ending [] zero fit = prefix_refl _
text_prefix limit old_style requests arrivals ending [] (suc n) fit = prefix_refl _
text_prefix limit old_style requests [] ending (mark ∷ marks) n fit = absurd fit
text_prefix limit old_style requests (arrival ∷ arrivals) ending (mark ∷ marks) zero fit = (
  reply_text_with old_style requests arrival mark
      ++ text_with old_style (requests ++ completed_at arrival mark) arrivals ending marks,
  refl,
)
text_prefix limit old_style requests (arrival ∷ arrivals) ending (mark ∷ marks) (suc n) fit =
    prefix_after (interim_of arrival) _ _ (prefix_after (reply_text_with old_style requests arrival mark) _ _
    (text_prefix limit old_style (requests ++ completed_at arrival mark) arrivals ending marks n fit.1))

-- ---- the register stays within its limit

within_route : (limit : ℕ) (requests : List Request) (to : Route) (mark : Mark) → RouteFits limit requests to mark
    → length (firsts requests) ≤ limit → length (firsts (requests ++ requests_of_route to mark)) ≤ limit
within_route limit requests (FileReport r) Done fit h = ⊎_elim
    (λ (k : has_key requests r ≡ true). omega (arith, ap length (firsts_repeat requests r k)))
    (λ (k : length (firsts requests) < limit). omega (arith, firsts_one_more requests r))
    fit
within_route limit requests (FileReport r) Unavailable fit h = rw append_nil h
within_route limit requests (FileReport r) NotFiled fit h = rw append_nil h
within_route limit requests (ListFilings filer number) mark fit h = rw append_nil h
within_route limit requests (Reject reply) mark fit h = rw append_nil h

within_arrival : (limit : ℕ) (requests : List Request) (arrival : Arrival) (mark : Mark)
    → MarkFits limit requests arrival mark → length (firsts requests) ≤ limit
    → length (firsts (requests ++ completed_at arrival mark)) ≤ limit
within_arrival limit requests (Arrival.Read m) mark fit h = within_route limit requests (route m) mark fit h
within_arrival limit requests (Arrival.Refused refusal) mark fit h = rw append_nil h

pub completed_within : (limit : ℕ) (requests : List Request) (arrivals : List Arrival) (marks : List Mark)
    → MarksFit limit requests arrivals marks → length (firsts requests) ≤ limit
    → length (firsts (requests ++ completed arrivals marks)) ≤ limit
unfolding completed MarksFit
completed_within limit requests [] [] fit h = rw append_nil h
completed_within limit requests [] (mark ∷ marks) fit h = absurd fit
completed_within limit requests (arrival ∷ arrivals) [] fit h = rw append_nil h
completed_within limit requests (arrival ∷ arrivals) (mark ∷ marks) fit h =
    subst (λ (all : List Request). length (firsts all) ≤ limit)
    (append_assoc requests (completed_at arrival mark) (completed arrivals marks))
    (completed_within limit (requests ++ completed_at arrival mark) arrivals marks fit.1
    (within_arrival limit requests arrival mark fit.0 h))

-- ---- replies stand

-- A completed request would get the same status and content now.
pub replies_stand : (done before : List Request) (arrivals : List Arrival) (marks : List Mark) (later : List Request)
    → done ≡ before ++ (completed arrivals marks ++ later) → RepliesStand done before arrivals marks
unfolding completed
replies_stand done before [] marks later e = tt
replies_stand done before (arrival ∷ arrivals) [] later e = tt
replies_stand done before (arrival ∷ arrivals) (mark ∷ marks) later e =
    (here, replies_stand done (before ++ completed_at arrival mark) arrivals marks later (e ∙ regrouped))
  where
    regrouped : before ++ ((completed_at arrival mark ++ completed arrivals marks) ++ later)
        ≡ (before ++ completed_at arrival mark) ++ (completed arrivals marks ++ later)
    regrouped = simp append_assoc

    here : (r : Request) → completed_at arrival mark ≡ r ∷ [] → reply_of (answer before r) ≡ reply_of (answer done r)
    here r only =
        let split : done ≡ (before ++ r ∷ []) ++ (completed arrivals marks ++ later) =
        e ∙ regrouped ∙ ap (λ one. (before ++ one) ++ (completed arrivals marks ++ later)) only in
        sym (ap (λ requests. reply_of (answer requests r)) split
        ∙ ap reply_of (answer_stable before r (completed arrivals marks ++ later))
        ∙ reply_as-as_repeat Problem (answer before r))
