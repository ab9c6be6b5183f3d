use Rattle.filing_model.proofs.Bare.{reply-head, kind-head, reply_text-head}
use Rattle.filing_model.proofs.laws.head_is_answered_without_content.Goals as goal

pub returns-clause-reply : goal.returns-clause-reply
returns-clause-reply c = λ old_style requests m head. reply-head m head old_style requests

pub returns-clause-kind : goal.returns-clause-kind
returns-clause-kind c = λ old_style requests m head. kind-head m head old_style requests

pub returns-clause-written : goal.returns-clause-written
returns-clause-written c =
    λ limit old_style requests m mark head fit. reply_text-head m head old_style requests limit mark fit
