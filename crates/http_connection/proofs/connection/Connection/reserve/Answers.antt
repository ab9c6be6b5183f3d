use Rattle.std.proofs.Common.{refl}
use Rattle.http_connection.proofs.Telling.{IsSound-same, HasFinished-same}
use Rattle.http_connection.proofs.connection.Connection.reserve.Goals as goal

pub returns-clause-sound : goal.returns-clause-sound
returns-clause-sound c = IsSound-same c.args.self.now _ c.reserve.ensures.bytes refl

pub returns-clause-more : goal.returns-clause-more
returns-clause-more c = λ came arrivals.
    HasFinished-same came arrivals c.args.self.now _ c.reserve.ensures.bytes refl refl
