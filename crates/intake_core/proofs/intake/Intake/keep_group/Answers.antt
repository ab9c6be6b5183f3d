use Rattle.std.proofs.Common.{refl, sym, subst}
use Rattle.std.proofs.lemmas.Slice.Zip.{AllZip-long}
use Rattle.intake_core.specs.Together.{AreRowsOf, IsJudgedAlone}
use Rattle.intake_core.proofs.Together.{adds_group, keepable}
use Rattle.intake_core.proofs.intake.Intake.keep_group.Goals as goal

pub rows_of-requires-clause-judged : goal.rows_of-requires-clause-judged
rows_of-requires-clause-judged g c =
    AllZip-long IsJudgedAlone c.args.requests.now c.args.judged.now c.requires.judged

pub add_all-requires-clause-rows : goal.add_all-requires-clause-rows
add_all-requires-clause-rows g c =
    let are =
    subst (AreRowsOf c.args.requests.now c.args.moments.now c.args.judged.now) (sym c.deref.ensures.value)
    c.in_ok-rows.ensures in
    keepable c.args.requests.now c.args.moments.now c.args.judged.now c.deref.result.now are c.requires.requests
    c.requires.judged

pub returns : goal.returns
returns g c =
    let are =
    subst (AreRowsOf c.args.requests.now c.args.moments.now c.args.judged.now) (sym c.deref.ensures.value)
    c.in_ok-rows.ensures in
    adds_group c.args.requests.now c.args.moments.now c.args.judged.now c.deref.result.now c.args.self.now _
    c.add_all.result are c.requires.judged refl refl refl refl c.add_all.ensures.adds c.add_all.ensures.moments
