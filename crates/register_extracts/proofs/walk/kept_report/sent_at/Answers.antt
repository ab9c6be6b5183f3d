use Rattle.std.proofs.Common.{arith, w64, pos}
use Rattle.std.proofs.lemmas.Int.{to_z-of_z}
use Rattle.sqlite.specs.Held.{state}
use Rattle.register_tables.proofs.Calls.{refuses}
use Rattle.table_rows.proofs.LeavingLemmas.{ended, none_yet}
use Rattle.table_rows.specs.Leaving.Ending.{Asked}
use Rattle.register_extracts.proofs.walk.kept_report.sent_at.Goals as goal

pub returns-clause-found : goal.returns-clause-found
returns-clause-found g c clean e F was k placed =
    let seq = c.in_ok-seq.ensures in
    c.sent_in_row.ensures.found clean e F was c.args.place k
    (rw seq.0 (to_z-of_z w64 (pos c.args.place) (record { sfits = omega (arith, seq.1) }))) placed

pub returns-in_err-seq-clause-leaves : goal.returns-in_err-seq-clause-leaves
returns-in_err-seq-clause-leaves g c =
    refuses Asked c.from_residual.result c.from_residual.ensures.0 (ended (none_yet (state g.S.Store c.args.conn.now)))
