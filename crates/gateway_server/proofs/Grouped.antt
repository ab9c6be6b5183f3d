-- Requests that were decided together were decided in turn.
use Rattle.std.proofs.Common.{◌≡◌, ℕ, true, false, List, [], ◌∷◌, ◌++◌, length, take, Ok, Err, refl, sym, ap, subst}
use Rattle.std.proofs.Common.{inl, inr, ⊎_elim, arith, IfOk}
use Rattle.std.specs.List.{AllZip, zip}
use Rattle.std.proofs.lemmas.Bool.{cases_Bool}
use Rattle.sqlite.specs.Store.{Ghosts}
use Rattle.http_messages.specs.Replies.{reply_parts}
use Rattle.filing_model.specs.Answer.{Answer}
use Rattle.filing_model.specs.Reply.{reply_as}
use Rattle.filing_model.specs.Request.{Request, firsts, has_key}
use Rattle.filing_model.specs.Serving.{kept_by}
use Rattle.filing_model.specs.Style.{style_of}
use Rattle.filing_model.specs.Text.{FileReport, RouteFits, requests_of_route}
use Rattle.filing_model.specs.declared.served.Mark.{Mark}
use Rattle.filing_model.proofs.Firsts.{firsts_short}
use Rattle.intake_core.specs.declared.intake.Intake.{Intake}
use Rattle.intake_core.specs.Calls.{DecidesRequest}
use Rattle.intake_core.specs.Held.{IsTransition, limit_of, old_style_in, with_request}
use Rattle.intake_core.proofs.Deciding.{old_style_in-after}
use Rattle.intake_core.specs.Group.{AreDecidedInTurn, Given, IsDecidedAfter, after, after_one}
use Rattle.gateway_server.specs.Decided.{Decides, IsOfGiven, marked_reply}
use Rattle.gateway_server.specs.Group.{DecideInTurn}
use Rattle.gateway_server.specs.declared.decide.Decided.{Decided}
use Rattle.gateway_server.proofs.Decisions.{Decides-filed_unavailable}

-- what a request got is told
pub decides_one : (limit : ℕ) (old_style F : List Request) (r : Request) (result : Given) (d : Decided)
    → IsDecidedAfter limit old_style F r result → IsOfGiven result d
    → Decides limit old_style F (after_one F r result) (FileReport r) d
decides_one limit old_style F r (Ok a) d told by = record {
  fit = subst (λ (m : Mark). RouteFits limit F (FileReport r) m) (sym by.0) (⊎_elim
      (λ (known : has_key F r ≡ true). inl known)
      (λ (new : has_key F r ≡ false). inr (let room = told.room new in omega (arith, room, firsts_short F)))
      (cases_Bool (has_key F r)));
  kept = subst (λ (m : Mark). firsts (F ++ r ∷ []) ≡ kept_by F (requests_of_route (FileReport r) m)) (sym by.0) refl;
  reply = subst (λ (m : Mark). IfOk d.reply (λ reply. reply_parts reply ≡ marked_reply old_style F (FileReport r) m))
      (sym by.0)
      (subst (λ (x : Answer). IfOk d.reply (λ reply. reply_parts reply ≡ reply_as (style_of old_style r) x))
      told.answer.0 (by.1 (style_of old_style r) told.answer.1));
}
decides_one limit old_style F r (Err e) d told by = Decides-filed_unavailable limit old_style F r d by

-- one that was submitted by itself
pub files : {S : Type 0} (g : Ghosts S) (r : Request) (old new : Intake S) (given : Given) (d : Decided)
    → DecidesRequest g r old new given → IsOfGiven given d
    → IsTransition g old new (λ old_style before after. Decides (limit_of old) old_style before after (FileReport r) d)
files g r old new (Ok a) d told by = λ clean before h. (
  with_request before r,
  (told.answer clean before h).1,
  old_style_in-after before r old new told.setting.old_style h,
  decides_one (limit_of old) (old_style_in old before) before r (Ok a) d (record {
    answer = (told.answer clean before h).0;
    full = told.full clean before h;
    room = told.room clean before h;
  }) by,
)
files g r old new (Err e) d told by = λ clean before h. (
  before,
  told.err clean before h,
  ap (λ n. take n before) told.setting.old_style,
  Decides-filed_unavailable (limit_of old) (old_style_in old before) before r d by,
)

-- ---- all of them

pub decide_in_turn : (limit : ℕ) (old_style F : List Request) (rs : List Request) (given : List Given)
    (ds : List Decided) → length given ≡ length rs → AllZip IsOfGiven given ds
    → AreDecidedInTurn limit old_style F (zip rs given)
    → DecideInTurn limit old_style F (after F (zip rs given)) rs ds
decide_in_turn limit old_style F [] [] [] each by told = refl
decide_in_turn limit old_style F [] [] (d ∷ ds) each by told = absurd by
decide_in_turn limit old_style F [] (x ∷ given) ds each by told = absurd (omega (arith, each))
decide_in_turn limit old_style F (r ∷ rs) [] ds each by told = absurd (omega (arith, each))
decide_in_turn limit old_style F (r ∷ rs) (x ∷ given) [] each by told = absurd by
decide_in_turn limit old_style F (r ∷ rs) (x ∷ given) (d ∷ ds) each by told = (
  after_one F r x,
  decides_one limit old_style F r x d told.0 by.0,
  decide_in_turn limit old_style (after_one F r x) rs given ds (omega (arith, each)) by.1 told.1,
)
