use Rattle.programs.proofs.Replies.{each_gets}
use Rattle.programs.proofs.connections.each_connection_gets_its_replies.Goals as goal

pub returns : goal.returns
returns g c = each_gets g.S.Stream
