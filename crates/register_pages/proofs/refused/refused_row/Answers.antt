use Rattle.std.proofs.lemmas.Result.{on_ok_weaker}
use Rattle.register_pages.proofs.Showing.{row_added}
use Rattle.register_pages.proofs.refused.refused_row.Goals as goal

pub returns : goal.returns
returns c =
    on_ok_weaker c.piece-2.result (λ is. row_added _ _ _ _ _ _ _ _ _ _ c.in_ok-piece.ensures
    c.in_ok-report_cell.ensures c.in_ok-findings_cell.ensures is) c.piece-2.ensures
