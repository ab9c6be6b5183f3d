use Rattle.std.proofs.Common.{refl, subst, sym}
use Rattle.std.specs.declared.alloc.AllocError.{AllocError}
use Rattle.intake_core.specs.Held.{limit_of, old_style_in}
use Rattle.filing_model.specs.Text.{Route}
use Rattle.gateway_server.specs.Decided.{Decides, rejection_reply}
use Rattle.gateway_server.proofs.Decisions.{Decides-told, bare_filing}
use Rattle.gateway_server.proofs.Statuses.{phrase-parts, phrase-rejection_reply}
use Rattle.gateway_server.proofs.decide.decide_route.Goals as goal

pub returns-in-Reject-clause-decided : goal.returns-in-Reject-clause-decided
returns-in-Reject-clause-decided g c = λ clean before h. (
  before,
  h,
  refl,
  rw c.in-Reject.is (Decides-told (limit_of c.args.intake.now) (old_style_in c.args.intake.now before) before
      c.in-Reject.why c.args.body.now c.args.is_bare c.rejection_reply.result c.rejection_reply.ensures),
)

pub returns-in-Reject-clause-phrase : goal.returns-in-Reject-clause-phrase
returns-in-Reject-clause-phrase g c =
    phrase-parts AllocError c.rejection_reply.result (rejection_reply c.in-Reject.why c.args.is_bare)
    (phrase-rejection_reply c.in-Reject.why c.args.is_bare) c.rejection_reply.ensures

pub returns-in-Reject-clause-leaves : goal.returns-in-Reject-clause-leaves
returns-in-Reject-clause-leaves g c = rw c.in-Reject.is refl

pub returns-in-FileReport-clause-decided : goal.returns-in-FileReport-clause-decided
returns-in-FileReport-clause-decided g c = λ clean before h.
    let told = c.file.ensures.decided clean before h in (
      told.0,
      told.1,
      told.2,
      rw c.in-FileReport.is (subst (λ (to : Route).
          Decides (limit_of c.args.intake.now) (old_style_in c.args.intake.now before) before told.0 to c.file.result)
          (sym (bare_filing c.args.is_bare _)) told.3),
    )
