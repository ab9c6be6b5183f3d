use Rattle.http_messages.proofs.PostLaws.{post-spells}
use Rattle.http_messages.proofs.laws.post_is_read.Goals as goal

pub returns : goal.returns
returns c = post-spells
