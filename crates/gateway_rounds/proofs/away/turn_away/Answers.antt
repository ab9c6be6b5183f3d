use Rattle.gateway_rounds.proofs.AwayTurns.{all_away, one_away}
use Rattle.gateway_rounds.proofs.away.turn_away.Goals as goal

pub returns-in_default : goal.returns-in_default
returns-in_default g c =
    all_away g.T.Stream _ _ c.places.from c.in_default.ensures.none c.places.invariant

pub places-preserved : goal.places-preserved
places-preserved g c =
    one_away g.T.Stream _ _ _ c.places.from c.in-Some.place c.in-Some.ensures.found.0 c.in-Some.ensures.first
    c.places.invariant c.turn_away_one.ensures
