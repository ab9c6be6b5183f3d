use Rattle.http_wire.proofs.ReplyAgain.{given-same, given-fault}
use Rattle.http_wire.proofs.laws.written_reply_is_read_again.Goals as goal

pub returns : goal.returns
returns c = record { same = given-same; fault = given-fault }
