use Rattle.connection_hall.proofs.Done.{done_told}
use Rattle.connection_hall.proofs.laws.a_connection_gets_all_replies.Goals as goal

pub returns : goal.returns
returns g c = λ conn answers came went served over came_is went_is.
    done_told (g.S.Stream.came conn.stream) (g.S.Stream.went conn.stream) (g.S.Stream.is_ended conn.stream) answers conn
    came went came_is went_is served over.0 over.1
