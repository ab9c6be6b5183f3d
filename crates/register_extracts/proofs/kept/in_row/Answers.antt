use Rattle.std.proofs.Common.{◌∙◌, w64}
use Rattle.std.proofs.lemmas.Int.{to_z-of_z}
use Rattle.sqlite.specs.Held.{state}
use Rattle.sqlite.specs.State.{HasCleanDisk}
use Rattle.table_rows.proofs.LeavingLemmas.{asked_then, clean_before, stands}
use Rattle.register_extracts.proofs.kept.in_row.Goals as goal

pub returns-clause-found : goal.returns-clause-found
returns-clause-found g c clean e F was n k seq placed =
    let before : HasCleanDisk (state g.S.Store c.target_at.new.conn) =
    clean_before c.with_beside.ensures.leaves clean in
    let same = to_z-of_z w64 c.args.seq c.ranges.seq ∙ seq in
    c.with_beside.ensures.found clean e F (stands c.in_ok-target.ensures.leaves before was) n k same placed
    (c.in_ok-target.ensures.found before e F was n k same placed)

pub returns-clause-leaves : goal.returns-clause-leaves
returns-clause-leaves g c = asked_then c.in_ok-target.ensures.leaves c.with_beside.ensures.leaves
