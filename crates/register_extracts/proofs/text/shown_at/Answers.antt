use Rattle.std.proofs.Common.{pos, arith, w64}
use Rattle.std.proofs.lemmas.Int.{to_z-of_z}
use Rattle.jiff_core.proofs.SignedLemmas.{signed_arith}
use Rattle.register_extracts.proofs.Epoch.{epoch}
use Rattle.register_extracts.proofs.text.shown_at.Goals as goal

pub add-requires : goal.add-requires
add-requires c =
    let begin = epoch c.datetime.result c.datetime.ensures.date c.datetime.ensures.time in
    let within = c.milliseconds.ensures.within in
    let whole = to_z-of_z w64 (pos c.milliseconds.result) (record { sfits = omega (arith, within) }) in
    omega (arith, signed_arith, begin, c.from_millis.ensures, whole, within)

pub returns : goal.returns
returns c =
    let begin = epoch c.datetime.result c.datetime.ensures.date c.datetime.ensures.time in
    let within = c.milliseconds.ensures.within in
    let whole = to_z-of_z w64 (pos c.milliseconds.result) (record { sfits = omega (arith, within) }) in
    omega (arith, signed_arith, begin, c.add.ensures, c.from_millis.ensures, whole, c.milliseconds.ensures.is, within)
