use Rattle.std.proofs.Common.{refl}
use Rattle.gateway_server.proofs.serving.reply.Goals as goal

pub returns-then-is_after-clause-written : goal.returns-then-is_after-clause-written
returns-then-is_after-clause-written g c = λ text is. refl

pub returns-then-is_after-clause-fault : goal.returns-then-is_after-clause-fault
returns-then-is_after-clause-fault g c = refl

pub returns-in-Ok-clause-written : goal.returns-in-Ok-clause-written
returns-in-Ok-clause-written g c = λ text is. (c.in-Ok.ensures.written text is, c.if-close.true)

pub returns-in-Ok-2-clause-written : goal.returns-in-Ok-2-clause-written
returns-in-Ok-2-clause-written g c = λ text is. (c.in-Ok-2.ensures.written text is, c.if-close.false)

pub returns-in-Err-clause-written : goal.returns-in-Err-clause-written
returns-in-Err-clause-written g c = λ text is. c.in-Err.ensures.written text is

-- a connection that is to close doesn't go on
pub returns-in-Ok-clause-goes_on : goal.returns-in-Ok-clause-goes_on
returns-in-Ok-clause-goes_on g c = λ on. absurd (cc)
