use Rattle.connection_hall.proofs.served.Served.take_turn.Goals as goal

pub returns-clause-moves : goal.returns-clause-moves
returns-clause-moves g c answers served owes goes_on again = c.go_on.ensures.moves answers served owes again
