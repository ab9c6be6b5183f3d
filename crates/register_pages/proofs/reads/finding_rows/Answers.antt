use Rattle.register_store.proofs.FindTexts.{query_seq}
use Rattle.register_pages.proofs.reads.finding_rows.Goals as goal

pub select-requires : goal.select-requires
select-requires g c = query_seq
