use Rattle.register_rows.specs.Schema.{filing_table}
use Rattle.register_tables.proofs.PickTexts.{asks_count_filings}
use Rattle.register_tables.proofs.PickLemmas.{counts_all}
use Rattle.register_tables.proofs.select.picks.count_filings.Goals as goal

pub returns : goal.returns
returns g c =
    counts_all g.S.Store c.args.conn.now c.counted.new.conn filing_table asks_count_filings c.counted.result
    c.counted.ensures.shown c.counted.ensures.failed c.counted.ensures.leaves

pub counted-requires : goal.counted-requires
counted-requires g c = asks_count_filings.reads
