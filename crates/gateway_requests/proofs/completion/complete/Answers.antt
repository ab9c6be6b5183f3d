use Rattle.std.proofs.Common.{◌≡◌, ◌++◌, sym, subst, OnOk}
use Rattle.http_messages.specs.Message.{Read}
use Rattle.filing_model.specs.declared.served.Mark.{Mark}
use Rattle.filing_model.specs.Text.{completed_at}
use Rattle.gateway_requests.specs.Route.{view_message}
use Rattle.gateway_requests.proofs.completion.complete.Goals as goal

pub returns-in-Done : goal.returns-in-Done
returns-in-Done c =
    subst (λ (mark : Mark). OnOk c.push_filed.result
    (c.push_filed.new.list.items ≡ c.args.list.now.items ++ completed_at (Read (view_message c.args.message.now)) mark))
    (sym c.in-Done.is) c.push_filed.ensures
