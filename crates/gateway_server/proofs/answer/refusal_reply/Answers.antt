use Rattle.std.specs.declared.alloc.AllocError.{AllocError}
use Rattle.http_messages.specs.declared.refusal.Refusal.TheVariants.{Head, HeadTooLarge}
use Rattle.filing_model.specs.Text.{refusal_reply}
use Rattle.gateway_server.proofs.Statuses.{phrase-parts, phrase-refusal_reply}
use Rattle.gateway_server.proofs.answer.refusal_reply.Goals as goal

pub returns-in-HeadTooLarge-clause-phrase : goal.returns-in-HeadTooLarge-clause-phrase
returns-in-HeadTooLarge-clause-phrase c =
    phrase-parts AllocError c.word_reply.result (refusal_reply HeadTooLarge) (phrase-refusal_reply HeadTooLarge)
    c.word_reply.ensures

pub returns-in-Head-clause-phrase : goal.returns-in-Head-clause-phrase
returns-in-Head-clause-phrase c =
    phrase-parts AllocError c.fault_reply.result (refusal_reply (Head c.in-Head.fault))
    (phrase-refusal_reply (Head c.in-Head.fault)) c.fault_reply.ensures
