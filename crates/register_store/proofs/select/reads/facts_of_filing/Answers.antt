use Rattle.std.proofs.Common.{pos, arith, w64}
use Rattle.std.proofs.lemmas.Result.{IfOk-weaker}
use Rattle.std.proofs.lemmas.Int.{to_z-of_z}
use Rattle.sqlite.specs.Held.{state}
use Rattle.register_store.proofs.ReadTexts.{query_said}
use Rattle.register_store.proofs.ReadLemmas.{reads_said}
use Rattle.register_store.proofs.select.reads.facts_of_filing.Goals as goal

pub returns-clause-read : goal.returns-clause-read
returns-clause-read g c clean knows =
    IfOk-weaker c.select.result _ _ (λ rows h. reads_said (state g.S.Store c.args.conn.now)
    (state g.S.Store c.select.new.conn) knows rows.items c.args.number
    (rw (c.params-to_sql.ensures, to_z-of_z w64 (pos c.args.number) (record { sfits = omega (arith, c.requires) }))
    at h)) (c.select.ensures.shown clean)

pub select-requires : goal.select-requires
select-requires g c = query_said
