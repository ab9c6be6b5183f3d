-- What a message gets.
use Rattle.std.specs.Prelude.{◌≡◌, ℕ, Bool, List, [], Ok, Err, true, IfOk, IsSome, if◌then◌else◌}
use Rattle.sqlite.specs.Store.{Ghosts}
use Rattle.http_messages.specs.Replies.{reply_parts}
use Rattle.http_messages.specs.declared.reply.Kind.TheVariants.{Problem}
use Rattle.http_messages.specs.Reply.{ReplyParts, phrase}
use Rattle.filing_model.specs.declared.served.Mark.{Mark}
use Rattle.filing_model.specs.declared.served.Mark.TheVariants.{Done, Unavailable, NotFiled}
use Rattle.filing_model.specs.declared.served.Style.{Style}
use Rattle.filing_model.specs.Reply.{reply_as, word_reply, unavailable}
use Rattle.filing_model.specs.Request.{Request}
use Rattle.filing_model.specs.Serving.{kept_by}
use Rattle.filing_model.specs.Style.{HasStyle}
use Rattle.filing_model.specs.Text.{Route, Reject, ListFilings, FileReport, RouteFits, reply_on, requests_of_route}
use Rattle.filing_model.specs.Views.{view_answer}
use Rattle.table_rows.specs.Standing.{CommitsNothing}
use Rattle.intake_core.specs.declared.intake.Intake.{Intake}
use Rattle.intake_core.specs.Calls.{DecidesRequest}
use Rattle.intake_core.specs.Group.{Given}
use Rattle.intake_core.specs.Held.{ForRequests, HoldsRequests, IsDurableAs, has_stopped, old_style_of, shows}
use Rattle.intake_core.specs.Moments.{DatesRequest, KeepsMoments, moment_of}
use Rattle.gateway_server.specs.declared.decide.Decided.{Decided}
use Rattle.gateway_requests.specs.declared.route.Rejection.{Rejection as Why}
use Rattle.gateway_requests.specs.Route.{rejection_status, rejection_word}

-- the reply that depends on the message alone
abbrev pub rejection_reply : Why → Bool → ReplyParts
rejection_reply why is_bare =
    if is_bare then record { status = rejection_status why; content = []; kind = Problem }
    else word_reply (rejection_status why) (rejection_word why)

-- the reply to what was asked for and marked so
abbrev pub marked_reply : List Request → List Request → Route → Mark → ReplyParts
marked_reply old_style requests to Done = reply_on old_style requests to
marked_reply old_style requests to Unavailable = unavailable
marked_reply old_style requests to NotFiled = reply_on old_style requests to

-- the mark fits, the reply is the one for it, and what is kept follows from it
pub record Decides (limit : ℕ) (old_style before after : List Request) (to : Route) (d : Decided) : Type 0 where
  pub fit : RouteFits limit before to d.mark
  pub kept : after ≡ kept_by before (requests_of_route to d.mark)
  pub reply : IfOk d.reply (λ r. reply_parts r ≡ marked_reply old_style before to d.mark)

-- the mark and the reply of what could not be answered
pub record IsUnavailable (d : Decided) : Type 0 where
  pub mark : d.mark ≡ Unavailable
  pub reply : IfOk d.reply (λ r. reply_parts r ≡ unavailable)

-- the status of the reply has a phrase
abbrev pub IsPhrased : Decided → Type 0
IsPhrased d = IfOk d.reply (λ r. IsSome (phrase r.status))

-- ---- what a stop leaves, and the moments

-- the mark and the reply of a request to which the intake gave this
abbrev pub IsOfGiven : Given → Decided → Type 0
IsOfGiven (Ok a) d = (d.mark ≡ Done) × ((style : Style) → HasStyle style a
    → IfOk d.reply (λ r. reply_parts r ≡ reply_as style (view_answer a)))
IsOfGiven (Err e) d = IsUnavailable d

-- The intake gave the request something, as `submit` does at this moment, and these are the mark and the reply for it.
pub record IsSubmitted {S : Type 0} (g : Ghosts S) (r : Request) (moment : ℕ) (old new : Intake S) (d : Decided)
    : Type 0 where
  pub given : Given
  pub is : IsOfGiven given d
  pub decides : DecidesRequest g r old new given
  pub dates : DatesRequest g r moment old new given

-- Nothing is decided: what is held stays, with its moments.
pub record DecidesNothing {S : Type 0} (g : Ghosts S) (old new : Intake S) (d : Decided) : Type 0 where
  pub same : ForRequests g old new (HoldsRequests g new)
  pub moments : KeepsMoments g old new
  -- A stop leaves what it could leave before, and after an answer what is held.
  pub crash : CommitsNothing (shows g old) (shows g new)
  pub durable : ForRequests g old new (λ requests. d.mark ≡ NotFiled
      → IsDurableAs g new (old_style_of old) requests)
  -- After a refusal of the database nothing is asked of it.
  pub down : has_stopped old ≡ true → (d.mark ≡ Unavailable) × (new ≡ old)
  pub stops : has_stopped new ≡ true → d.mark ≡ Unavailable

-- What a stop leaves, and which moments are kept, by what was asked for.
abbrev pub Leaves : {S : Type 0} → Ghosts S → Route → Intake S → Intake S → Decided → Type 0
Leaves g (Reject reply) old new d = new ≡ old
Leaves g (ListFilings filer number) old new d = DecidesNothing g old new d
Leaves g (FileReport r) old new d = IsSubmitted g r (moment_of old) old new d
