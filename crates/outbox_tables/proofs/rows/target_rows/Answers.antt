use Rattle.outbox_tables.proofs.Texts.{asks_targets}
use Rattle.outbox_tables.proofs.rows.target_rows.Goals as goal

pub select-requires : goal.select-requires
select-requires g c = asks_targets.reads
