use Rattle.std.proofs.Common.{◌≡◌, IfOk, arith, pos, subst, w64, ◌∙◌}
use Rattle.std.proofs.lemmas.Int.{to_z-of_z}
use Rattle.sqlite.specs.Held.{state}
use Rattle.sqlite.specs.State.{HasCleanDisk}
use Rattle.register_tables.proofs.Calls.{refuses}
use Rattle.table_rows.proofs.LeavingLemmas.{asked_then, clean_before, ended, none_yet, stands}
use Rattle.table_rows.specs.Leaving.Ending.{Asked}
use Rattle.register_extracts.specs.Digest.{row_of}
use Rattle.register_extracts.proofs.kept.kept_at.Goals as goal

pub returns-clause-found : goal.returns-clause-found
returns-clause-found g c clean e F was moments one_each dated k placed =
    let seq = c.in_ok-seq.ensures in
    let before : HasCleanDisk (state g.S.Store c.moment_at.new.conn) = clean_before c.in_row.ensures.leaves clean in
    let moment = c.in_milliseconds.ensures ∙ c.in_ok-moment.ensures.found before e F was moments one_each dated in
    subst (λ m. IfOk c.in_row.result (λ request. request ≡ row_of k m)) moment
    (c.in_row.ensures.found clean e F (stands c.in_ok-moment.ensures.leaves before was) c.args.place k
    (rw seq.0 (to_z-of_z w64 (pos c.args.place) (record { sfits = omega (arith, seq.1) }))) placed)

pub returns-clause-leaves : goal.returns-clause-leaves
returns-clause-leaves g c = asked_then c.in_ok-moment.ensures.leaves c.in_row.ensures.leaves

pub returns-in_err-seq-clause-leaves : goal.returns-in_err-seq-clause-leaves
returns-in_err-seq-clause-leaves g c =
    refuses Asked c.from_residual.result c.from_residual.ensures.0 (ended (none_yet (state g.S.Store c.args.conn.now)))
