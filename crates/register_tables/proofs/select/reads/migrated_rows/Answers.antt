use Rattle.register_tables.proofs.ReadTexts.{asks_migrated}
use Rattle.register_tables.proofs.select.reads.migrated_rows.Goals as goal

pub select-requires : goal.select-requires
select-requires g c = asks_migrated.reads
