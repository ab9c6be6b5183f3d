use Rattle.std.proofs.Common.{◌∙◌, sym}
use Rattle.filing_model.specs.Reply.{word_reply}
use Rattle.filing_model.specs.Text.{is_head}
use Rattle.gateway_requests.specs.Route.{rejection_status, rejection_word, view_message}
use Rattle.gateway_rounds.proofs.Decided.{no_rejection, plain_looks}
use Rattle.gateway_rounds.proofs.sort.sort_request.Goals as goal

pub returns-in-Reject-clause-looks : goal.returns-in-Reject-clause-looks
returns-in-Reject-clause-looks g c =
    let m = view_message c.args.request.now in
    let why = c.in-Reject.why in
    let asked = rw c.in-Reject.is at c.in_ok-filer.ensures.asked in
    plain_looks g.S.Store m c.decide_asked-in-Reject.result.decided c.decide_asked-in-Reject.result.closes
    (λ r is. no_rejection (is_head m) (word_reply (rejection_status why) (rejection_word why)) r (sym asked ∙ is))
    c.args.intake.now c.decide_asked-in-Reject.new.intake c.decide_asked-in-Reject.ensures.decided
    c.decide_asked-in-Reject.ensures.setting
