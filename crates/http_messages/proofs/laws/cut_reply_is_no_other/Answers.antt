use Rattle.http_messages.proofs.ReplyRead.{reply-alone}
use Rattle.http_messages.proofs.laws.cut_reply_is_no_other.Goals as goal

pub returns : goal.returns
returns c = reply-alone
