use Rattle.register_pages.proofs.Showing.{rows_held}
use Rattle.register_pages.proofs.frame.end_by_table.Goals as goal

pub returns : goal.returns
returns c = rows_held _ _ _ _ _ c.in_ok-piece.ensures c.in_ok-piece-2.ensures
