-- Lists with the same firsts give the same answers, marks and text.
use Rattle.std.proofs.Common.{◌≡◌, ℕ, ◌<◌, true, not, List, [], ◌∷◌, ◌++◌, length, refl, sym, ap, ◌∙◌, subst, ⊎_elim}
use Rattle.std.proofs.Common.{inl, inr}
use Rattle.std.specs.Prelude.{filter}
use Rattle.std.proofs.lemmas.List.Elements.{filter_agree}
use Rattle.http_messages.specs.Head.{closes}
use Rattle.http_messages.specs.Message.{Arrival, Ending}
use Rattle.http_messages.specs.Request.{Request as Message}
use Rattle.http_messages.specs.Reply.{render}
use Rattle.filing_model.specs.Request.{Request, has_key, firsts}
use Rattle.filing_model.specs.Register.{register}
use Rattle.filing_model.specs.Answer.{answer}
use Rattle.filing_model.specs.Listing.{listings}
use Rattle.filing_model.specs.Style.{style_of}
use Rattle.filing_model.specs.Reply.{reply_as, list_reply}
use Rattle.filing_model.specs.declared.served.Mark.{Mark}
use Rattle.filing_model.specs.declared.served.Mark.TheVariants.{Done, Unavailable, NotFiled}
use Rattle.filing_model.specs.Text.{Route, Reject, ListFilings, FileReport, route, RouteFits, MarkFits, MarksFit}
use Rattle.filing_model.specs.Text.{completed_at, reply_with, reply_on, reply_text_with, text_with, interim_of}
use Rattle.filing_model.proofs.Firsts.{has_key-firsts, firsts-append}
use Rattle.filing_model.proofs.Answers.{answer-firsts, register-firsts}

module _ (old new : List Request) (same : firsts old ≡ firsts new) where
  pub has_key_alike : (r : Request) → has_key old r ≡ has_key new r
  has_key_alike r = sym (has_key-firsts old r) ∙ ap (λ rs. has_key rs r) same ∙ has_key-firsts new r

  pub firsts_alike : (more : List Request) → firsts (old ++ more) ≡ firsts (new ++ more)
  firsts_alike more =
      firsts-append old more
      ∙ ap (λ rs. firsts old ++ rs) (filter_agree (λ s. not (has_key old s)) (λ s. not (has_key new s))
      (λ s. ap not (has_key_alike s)) (firsts more))
      ∙ ap (λ rs. rs ++ filter (λ s. not (has_key new s)) (firsts more)) same
      ∙ sym (firsts-append new more)

  pub answer_alike : (r : Request) → answer old r ≡ answer new r
  answer_alike r = sym (answer-firsts old r) ∙ ap (λ rs. answer rs r) same ∙ answer-firsts new r

  pub register_alike : register old ≡ register new
  register_alike = sym (register-firsts old) ∙ ap register same ∙ register-firsts new

  reply_on_alike : (old_style : List Request) (to : Route) → reply_on old_style old to ≡ reply_on old_style new to
  reply_on_alike old_style (Reject reply) = refl
  reply_on_alike old_style (ListFilings filer number) = ap (λ fs. list_reply (listings filer number fs)) register_alike
  reply_on_alike old_style (FileReport r) = ap (reply_as (style_of old_style r)) (answer_alike r)

  pub reply_alike : (old_style : List Request) (m : Message) → reply_with old_style old m ≡ reply_with old_style new m
  reply_alike old_style m = reply_on_alike old_style (route m)

  reply_text_alike : (old_style : List Request) (arrival : Arrival) (mark : Mark)
      → reply_text_with old_style old arrival mark ≡ reply_text_with old_style new arrival mark
  reply_text_alike old_style (Arrival.Read m) Unavailable = refl
  reply_text_alike old_style (Arrival.Read m) Done = ap (λ x. render x (closes m.head)) (reply_alike old_style m)
  reply_text_alike old_style (Arrival.Read m) NotFiled = ap (λ x. render x (closes m.head)) (reply_alike old_style m)
  reply_text_alike old_style (Arrival.Refused refusal) mark = refl

  route_fits_alike : (limit : ℕ) (to : Route) (mark : Mark) → RouteFits limit old to mark → RouteFits limit new to mark
  route_fits_alike limit (FileReport r) Done fit = ⊎_elim
      (λ (h : has_key old r ≡ true). inl (sym (has_key_alike r) ∙ h))
      (λ (h : length (firsts old) < limit). inr (subst (λ (rs : List Request). length rs < limit) same h))
      fit
  route_fits_alike limit (FileReport r) Unavailable fit = fit
  route_fits_alike limit (FileReport r) NotFiled fit = fit
  route_fits_alike limit (ListFilings filer number) Done fit = fit
  route_fits_alike limit (ListFilings filer number) Unavailable fit = fit
  route_fits_alike limit (ListFilings filer number) NotFiled fit = fit
  route_fits_alike limit (Reject reply) Done fit = fit
  route_fits_alike limit (Reject reply) Unavailable fit = fit
  route_fits_alike limit (Reject reply) NotFiled fit = fit

  mark_fits_alike : (limit : ℕ) (arrival : Arrival) (mark : Mark) → MarkFits limit old arrival mark
      → MarkFits limit new arrival mark
  mark_fits_alike limit (Arrival.Read m) mark fit = route_fits_alike limit (route m) mark fit
  mark_fits_alike limit (Arrival.Refused refusal) Done fit = fit
  mark_fits_alike limit (Arrival.Refused refusal) Unavailable fit = fit
  mark_fits_alike limit (Arrival.Refused refusal) NotFiled fit = fit

pub text_alike : (old_style old new : List Request) → firsts old ≡ firsts new
    → (arrivals : List Arrival) (ending : Ending) (marks : List Mark)
    → text_with old_style old arrivals ending marks ≡ text_with old_style new arrivals ending marks
unfolding text_with
text_alike old_style old new same arrivals ending [] = refl
text_alike old_style old new same [] ending (mark ∷ marks) = refl
text_alike old_style old new same (arrival ∷ arrivals) ending (mark ∷ marks) =
    ap (λ reply. interim_of arrival
    ++ (reply ++ text_with old_style (old ++ completed_at arrival mark) arrivals ending marks))
    (reply_text_alike old new same old_style arrival mark)
    ∙ ap (λ rest. interim_of arrival ++ (reply_text_with old_style new arrival mark ++ rest))
    (text_alike old_style (old ++ completed_at arrival mark) (new ++ completed_at arrival mark)
    (firsts_alike old new same (completed_at arrival mark)) arrivals ending marks)

pub marks_fit_alike : (limit : ℕ) (old new : List Request) → firsts old ≡ firsts new
    → (arrivals : List Arrival) (marks : List Mark) → MarksFit limit old arrivals marks
    → MarksFit limit new arrivals marks
unfolding MarksFit
marks_fit_alike limit old new same arrivals [] fit = fit
marks_fit_alike limit old new same [] (mark ∷ marks) fit = fit
marks_fit_alike limit old new same (arrival ∷ arrivals) (mark ∷ marks) fit = (
  mark_fits_alike old new same limit arrival mark fit.0,
  marks_fit_alike limit (old ++ completed_at arrival mark) (new ++ completed_at arrival mark)
      (firsts_alike old new same (completed_at arrival mark)) arrivals marks fit.1,
)
