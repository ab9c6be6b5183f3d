use Rattle.http_messages.proofs.NotRefused.{GivesReply-not_refused}
use Rattle.http_messages.proofs.laws.given_reply_is_not_refused.Goals as goal

pub returns : goal.returns
returns c = GivesReply-not_refused
