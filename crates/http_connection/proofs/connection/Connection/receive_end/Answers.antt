use Rattle.std.proofs.Common.{refl}
use Rattle.http_connection.proofs.Telling.{IsSound-same}
use Rattle.http_connection.proofs.connection.Connection.receive_end.Goals as goal

pub returns-clause-sound : goal.returns-clause-sound
returns-clause-sound c = IsSound-same c.args.self.now _ refl refl
