use Rattle.std.proofs.lemmas.Result.{on_ok_weaker}
use Rattle.register_pages.proofs.Showing.{line_added}
use Rattle.register_pages.proofs.refused.finding_line.Goals as goal

pub returns : goal.returns
returns c =
    on_ok_weaker c.constant-2.result (λ is. line_added _ _ _ _ _ _ _ c.unwrap_or-said.result.words.now
    c.args.place.now c.in_ok-constant.ensures c.in_ok-short_text.ensures c.in_ok-piece.ensures
    c.in_ok-short_text-2.ensures is) c.constant-2.ensures
