use Rattle.std.proofs.lemmas.Result.{on_ok_weaker}
use Rattle.register_pages.proofs.Showing.{cell_is}
use Rattle.register_pages.proofs.refused.report_cell.Goals as goal

pub returns : goal.returns
returns c =
    on_ok_weaker c.constant-3.result (λ is. cell_is _ _ _ _ _ _ c.args.place c.args.size c.in_ok-constant.ensures
    c.in_ok-number.ensures c.in_ok-constant-2.ensures c.in_ok-number-2.ensures is) c.constant-3.ensures
