use Rattle.http_messages.proofs.UniqueReply.{SpellsReply-nothing}
use Rattle.http_messages.proofs.laws.nothing_is_no_reply.Goals as goal

pub returns : goal.returns
returns c = SpellsReply-nothing
