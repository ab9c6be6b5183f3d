use Rattle.std.proofs.Common.{Bool, [], ◌∷◌, refl, subst}
use Rattle.http_messages.specs.Message.{Refused, Ending, ArrivalsThen}
use Rattle.http_connection.specs.Connection.{held, ending_by, Leaves}
use Rattle.http_connection.proofs.Finished.{finished-then}
use Rattle.http_connection.proofs.Telling.{IsSound-same}
use Rattle.http_connection.proofs.connection.Connection.close.Goals as goal

pub returns-clause-refused : goal.returns-clause-refused
returns-clause-refused c = λ came arrivals refusal f open' refused.
    let left = held c.args.self.now in
    record {
      splits = finished-then (Leaves left) left came arrivals (Refused refusal ∷ []) Ending.Closed
          (subst (λ (b : Bool). ArrivalsThen (Leaves left) came arrivals (ending_by b)) open' f.splits)
          (refused, refl, refl);
      sound = IsSound-same c.args.self.now _ refl refl f.sound;
    }
