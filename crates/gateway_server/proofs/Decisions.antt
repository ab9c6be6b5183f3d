-- What could not be answered changes nothing.
use Rattle.std.proofs.Common.{◌≡◌, ℕ, Bool, true, false, List, Option, refl, sym, subst, ◌∙◌, IfOk, Result, Ok, Err}
use Rattle.std.proofs.Common.{inl, inr}
use Rattle.sqlite.specs.Store.{Ghosts}
use Rattle.std.specs.declared.alloc.AllocError.{AllocError}
use Rattle.http_messages.specs.declared.reply.Reply.{Reply}
use Rattle.http_messages.specs.Replies.{reply_parts}
use Rattle.filing_model.specs.declared.served.Mark.{Mark}
use Rattle.filing_model.specs.declared.served.Mark.TheVariants.{Unavailable, NotFiled}
use Rattle.filing_model.specs.Request.{Request}
use Rattle.filing_model.specs.Serving.{kept_by}
use Rattle.filing_model.specs.Text.{Route, ListFilings, FileReport, RouteFits, requests_of_route, bare}
use Rattle.intake_core.specs.declared.intake.Intake.{Intake}
use Rattle.intake_core.specs.declared.intake.Unavailable.{Unavailable as Refused}
use Rattle.intake_core.specs.Calls.{TellsOfRequests}
use Rattle.gateway_server.specs.declared.decide.Decided.{Decided}
use Rattle.gateway_requests.specs.declared.route.Route.TheVariants as asked
use Rattle.gateway_requests.specs.declared.route.Rejection.{Rejection}
use Rattle.gateway_server.specs.Decided.{Decides, DecidesNothing, IsUnavailable, marked_reply, rejection_reply}
use Rattle.gateway_requests.specs.Route.{view_route}

decides : (limit : ℕ) (old_style requests : List Request) (to : Route) (d : Decided) → IsUnavailable d
    → RouteFits limit requests to Unavailable → requests ≡ kept_by requests (requests_of_route to Unavailable)
    → Decides limit old_style requests requests to d
decides limit old_style requests to d is fit kept = record {
  fit = subst (λ (m : Mark). RouteFits limit requests to m) (sym is.mark) fit;
  kept = subst (λ (m : Mark). requests ≡ kept_by requests (requests_of_route to m)) (sym is.mark) kept;
  reply = subst (λ (m : Mark). IfOk d.reply (λ r. reply_parts r ≡ marked_reply old_style requests to m)) (sym is.mark)
      is.reply;
}

pub Decides-listed_unavailable : (limit : ℕ) (old_style requests : List Request) (filer : List ℕ) (number : Option ℕ)
    (d : Decided) → IsUnavailable d → Decides limit old_style requests requests (ListFilings filer number) d
Decides-listed_unavailable limit old_style requests filer number d is =
    decides limit old_style requests (ListFilings filer number) d is tt refl

pub Decides-filed_unavailable : (limit : ℕ) (old_style requests : List Request) (r : Request) (d : Decided)
    → IsUnavailable d → Decides limit old_style requests requests (FileReport r) d
Decides-filed_unavailable limit old_style requests r d is = decides limit old_style requests (FileReport r) d is tt refl

-- an answer that depends on the message alone changes nothing
pub Decides-told : (limit : ℕ) (old_style requests : List Request) (why : Rejection) (body : List ℕ) (is_bare : Bool)
    (reply : Result Reply AllocError) → IfOk reply (λ r. reply_parts r ≡ rejection_reply why is_bare)
    → Decides limit old_style requests requests (bare is_bare (view_route (asked.Reject why) body))
    (record { mark = NotFiled; reply = reply })
Decides-told limit old_style requests why body true reply is = record { fit = tt; kept = refl; reply = is }
Decides-told limit old_style requests why body false reply is = record { fit = tt; kept = refl; reply = is }

-- what is filed has a reply with content
pub bare_filing : (is_bare : Bool) (r : Request) → bare is_bare (FileReport r) ≡ FileReport r
bare_filing true r = refl
bare_filing false r = refl

-- what only tells of requests decides nothing
pub DecidesNothing-told : {S X : Type 0} {g : Ghosts S} {Tells : List Request → X → Type 0} (old new : Intake S) (x : X)
    (d : Decided) → d.mark ≡ NotFiled → TellsOfRequests g old new (Ok x) Tells → DecidesNothing g old new d
DecidesNothing-told old new x d marked t = record {
  same = t.kept;
  moments = t.moments;
  crash = t.crash;
  durable = λ clean requests h _. t.durable clean requests h;
  down = λ stopped. absurd (let e = (t.down stopped).0 in cc);
  stops = λ stopped. absurd (elim (t.stops.0 stopped) [
    | inl was ↦ (let e = (t.down was).0 in cc)
    | inr failed ↦ cc
  ]);
}

pub DecidesNothing-refused : {S X : Type 0} {g : Ghosts S} {Tells : List Request → X → Type 0} (old new : Intake S)
    (e : Refused) (d : Decided) → d.mark ≡ Unavailable → TellsOfRequests g old new (Err e) Tells
    → DecidesNothing g old new d
DecidesNothing-refused old new e d marked t = record {
  same = t.kept;
  moments = t.moments;
  crash = t.crash;
  durable = λ clean requests h told. absurd (let same : Unavailable ≡ NotFiled = sym marked ∙ told in cc);
  down = λ stopped. (marked, (t.down stopped).1);
  stops = λ _. marked;
}
