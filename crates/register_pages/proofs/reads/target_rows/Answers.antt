use Rattle.register_store.proofs.ReadTexts.{query_target}
use Rattle.register_pages.proofs.reads.target_rows.Goals as goal

pub select-requires : goal.select-requires
select-requires g c = query_target
