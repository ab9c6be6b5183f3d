use Rattle.register_tables.proofs.ReadTexts.{asks_meta}
use Rattle.register_tables.proofs.select.reads.meta_rows.Goals as goal

pub select-requires : goal.select-requires
select-requires g c = asks_meta.reads
