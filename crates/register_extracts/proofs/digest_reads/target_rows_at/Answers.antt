use Rattle.std.proofs.Common.{w64}
use Rattle.std.proofs.lemmas.Int.{to_z-of_z}
use Rattle.std.proofs.lemmas.Result.{IfOk-weaker}
use Rattle.sqlite.specs.Held.{state}
use Rattle.register_store.proofs.ReadTexts.{query_target}
use Rattle.register_store.proofs.ReadLemmas.{reads_target}
use Rattle.register_extracts.proofs.digest_reads.target_rows_at.Goals as goal

pub returns-clause-read : goal.returns-clause-read
returns-clause-read g c clean knows =
    IfOk-weaker c.select.result _ _ (λ rows h. reads_target (state g.S.Store c.args.conn.now)
    (state g.S.Store c.select.new.conn) knows rows.items c.args.seq
    (rw (c.params-to_sql.ensures, to_z-of_z w64 c.args.seq c.ranges.seq) at h)) (c.select.ensures.shown clean)

pub select-requires : goal.select-requires
select-requires g c = query_target
