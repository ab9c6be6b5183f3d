use Rattle.std.proofs.Common.{◌≡◌, ◌∙◌, true, refl}
use Rattle.http_messages.specs.Reply.{render}
use Rattle.gateway_rounds.specs.Away.{closing_reply}
use Rattle.gateway_rounds.proofs.AwayTurns.{turned_away}
use Rattle.gateway_rounds.proofs.Told.{told_nothing, told_so}
use Rattle.gateway_rounds.proofs.away.turn_away_one.Goals as goal

pub returns-in_default : goal.returns-in_default
returns-in_default g c =
    turned_away g.T.Stream c.args.place _ _ c.away-mark.result.0 c.away-mark.result.1 c.requires c.away-mark.ensures
    (told_nothing g.T.Stream c.args.place _ _ (λ told. told ≡ render (closing_reply c.away-mark.result.1) true) true
    c.give_up.ensures.running c.give_up.ensures.over c.give_up.ensures.others
    (record { asked = refl; bounds = c.give_up.ensures.bounds }))

pub returns : goal.returns
returns g c =
    turned_away g.T.Stream c.args.place _ _ c.away-mark.result.0 c.away-mark.result.1 c.requires c.away-mark.ensures
    (told_so g.T.Stream c.args.place _ _ (λ told. told ≡ c.as_slice.result.now)
    (λ told. told ≡ render (closing_reply c.away-mark.result.1) true) true
    (λ text is. is ∙ c.as_slice.ensures.value ∙ c.in-Ok.ensures) c.tell_text.ensures.tells)
