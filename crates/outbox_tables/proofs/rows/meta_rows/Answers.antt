use Rattle.outbox_tables.proofs.Texts.{meta_reads}
use Rattle.outbox_tables.proofs.rows.meta_rows.Goals as goal

pub select-requires : goal.select-requires
select-requires g c = meta_reads
