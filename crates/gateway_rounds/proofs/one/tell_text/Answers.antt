use Rattle.std.proofs.Common.{refl}
use Rattle.gateway_rounds.proofs.Told.{told_text}
use Rattle.gateway_rounds.proofs.one.tell_text.Goals as goal

pub returns-clause-tells : goal.returns-clause-tells
returns-clause-tells g c =
    told_text g.T.Stream c.args.place _ _ c.args.text.now c.args.closes c.answer.result c.requires
    c.answer.ensures.answered c.answer.ensures.lost c.answer.ensures.over c.answer.ensures.others
    (record { asked = refl; bounds = c.answer.ensures.bounds })
