use Rattle.std.proofs.Common.{◌∙◌, w64}
use Rattle.std.proofs.lemmas.Int.{to_z-of_z}
use Rattle.std.proofs.lemmas.Result.{IfOk-weaker}
use Rattle.register_rows.specs.Register.{kept_row}
use Rattle.register_store.proofs.ListLemmas.{knows}
use Rattle.register_store.proofs.ReplaceLemmas.{kept_shown}
use Rattle.register_extracts.specs.Sent.{sent_columns}
use Rattle.register_extracts.proofs.walk.kept_report.sent_in_row.Goals as goal

pub returns-clause-found : goal.returns-clause-found
returns-clause-found g c clean e F was n k seq placed =
    let read = c.in_ok-rows.ensures.read clean (knows F _ was) in
    let shown =
    c.deref.ensures.value ∙ kept_shown F _ _ _ sent_columns was _ n k (to_z-of_z w64 c.args.seq c.ranges.seq
    ∙ seq) placed read in
    IfOk-weaker c.read_first.result _ _ (λ sent h. h (sent_columns (kept_row n k)) shown) c.read_first.ensures
