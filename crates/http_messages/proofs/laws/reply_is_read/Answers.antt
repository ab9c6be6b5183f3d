use Rattle.http_messages.proofs.ReplyRead.{reply-spells}
use Rattle.http_messages.proofs.laws.reply_is_read.Goals as goal

pub returns : goal.returns
returns c = reply-spells
