use Rattle.register_rows.specs.Schema.{fact_table}
use Rattle.register_tables.proofs.PickTexts.{asks_count_facts}
use Rattle.register_tables.proofs.PickLemmas.{counts_all}
use Rattle.register_tables.proofs.select.picks.count_facts.Goals as goal

pub returns : goal.returns
returns g c =
    counts_all g.S.Store c.args.conn.now c.counted.new.conn fact_table asks_count_facts c.counted.result
    c.counted.ensures.shown c.counted.ensures.failed c.counted.ensures.leaves

pub counted-requires : goal.counted-requires
counted-requires g c = asks_count_facts.reads
