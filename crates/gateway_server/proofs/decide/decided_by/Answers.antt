use Rattle.std.specs.declared.alloc.AllocError.{AllocError}
use Rattle.filing_model.specs.Reply.{reply_as, unavailable}
use Rattle.filing_model.specs.Style.{carried_style}
use Rattle.filing_model.specs.Views.{view_answer}
use Rattle.filing_model.proofs.OwnStyles.{HasStyle-carried}
use Rattle.gateway_server.proofs.Statuses.{phrase-reply_as, phrase-parts, phrase-unavailable}
use Rattle.gateway_server.proofs.decide.decided_by.Goals as goal

pub returns-in-Ok-clause-phrase : goal.returns-in-Ok-clause-phrase
returns-in-Ok-clause-phrase c =
    let style = carried_style c.in-Ok.answer in
    phrase-parts AllocError c.reply_of.result (reply_as style (view_answer c.in-Ok.answer))
    (phrase-reply_as style (view_answer c.in-Ok.answer)) (c.reply_of.ensures style
    (HasStyle-carried c.in-Ok.answer))

pub returns-in-Err-clause-phrase : goal.returns-in-Err-clause-phrase
returns-in-Err-clause-phrase c =
    phrase-parts AllocError c.unavailable.result.reply unavailable phrase-unavailable c.unavailable.ensures.reply
