use Rattle.http_messages.proofs.PostLaws.{post-alone}
use Rattle.http_messages.proofs.laws.cut_post_is_nothing_or_whole.Goals as goal

pub returns : goal.returns
returns c = post-alone
