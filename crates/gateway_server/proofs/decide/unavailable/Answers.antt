use Rattle.std.proofs.Common.{refl}
use Rattle.gateway_server.proofs.decide.unavailable.Goals as goal

pub returns : goal.returns
returns c = record { mark = refl; reply = c.word_reply.ensures }
