use Rattle.std.proofs.Common.{◌≡◌, List, None, take, refl, ap, ◌∙◌, subst, IfOk}
use Rattle.std.specs.Prelude.{map}
use Rattle.std.specs.declared.alloc.AllocError.{AllocError}
use Rattle.http_messages.specs.Replies.{reply_parts}
use Rattle.filing_model.specs.Listing.{Listing, listings}
use Rattle.filing_model.specs.Register.{register}
use Rattle.filing_model.specs.Reply.{list_reply, unavailable}
use Rattle.filing_model.specs.Views.{view_row}
use Rattle.intake_core.specs.Held.{limit_of, old_style_in}
use Rattle.gateway_server.proofs.Statuses.{phrase-list_reply, phrase-parts, phrase-unavailable}
use Rattle.gateway_server.proofs.Decisions.{Decides-listed_unavailable, DecidesNothing-told, DecidesNothing-refused}
use Rattle.gateway_server.proofs.decide.list.Goals as goal

pub returns-in-Ok-clause-decided : goal.returns-in-Ok-clause-decided
returns-in-Ok-clause-decided g c = λ clean before h.
    let rows : List Listing = listings c.args.filer.now None (register before) in
    let same : map view_row c.deref.result.now ≡ rows =
    ap (map view_row) c.deref.ensures.value ∙ c.in-Ok.ensures.rows clean before h in (
      before,
      c.in-Ok.ensures.kept clean before h,
      ap (λ n. take n before) c.in-Ok.ensures.setting.old_style,
      record {
        fit = tt;
        kept = refl;
        reply = subst (λ (ls : List Listing). IfOk c.list_reply.result (λ r. reply_parts r ≡ list_reply ls)) same
            c.list_reply.ensures;
      },
    )

pub returns-in-Ok-clause-phrase : goal.returns-in-Ok-clause-phrase
returns-in-Ok-clause-phrase g c =
    phrase-parts AllocError c.list_reply.result (list_reply (map view_row c.deref.result.now))
    (phrase-list_reply (map view_row c.deref.result.now)) c.list_reply.ensures

pub returns-in-Ok-clause-leaves : goal.returns-in-Ok-clause-leaves
returns-in-Ok-clause-leaves g c = DecidesNothing-told _ _ _ _ refl c.in-Ok.ensures

pub returns-in-Err-clause-decided : goal.returns-in-Err-clause-decided
returns-in-Err-clause-decided g c = λ clean before h. (
  before,
  c.in-Err.ensures.kept clean before h,
  ap (λ n. take n before) c.in-Err.ensures.setting.old_style,
  Decides-listed_unavailable (limit_of c.args.intake.now) (old_style_in c.args.intake.now before) before
      c.args.filer.now None c.unavailable.result c.unavailable.ensures,
)

pub returns-in-Err-clause-phrase : goal.returns-in-Err-clause-phrase
returns-in-Err-clause-phrase g c =
    phrase-parts AllocError c.unavailable.result.reply unavailable phrase-unavailable c.unavailable.ensures.reply

pub returns-in-Err-clause-leaves : goal.returns-in-Err-clause-leaves
returns-in-Err-clause-leaves g c = DecidesNothing-refused _ _ _ _ c.unavailable.ensures.mark c.in-Err.ensures
