use Rattle.std.proofs.lemmas.Result.{IfOk-weaker}
use Rattle.sqlite.specs.Held.{state}
use Rattle.register_tables.proofs.ReadTexts.{asks_amends}
use Rattle.register_tables.proofs.ReadLemmas.{reads_amends}
use Rattle.register_tables.proofs.select.reads.amends_rows.Goals as goal

pub returns-clause-read : goal.returns-clause-read
returns-clause-read g c clean knows =
    IfOk-weaker c.select.result _ _ (λ rows h. reads_amends (state g.S.Store c.args.conn.now)
    (state g.S.Store c.select.new.conn) knows rows.items h) (c.select.ensures.shown clean)

pub select-requires : goal.select-requires
select-requires g c = asks_amends.reads
