use Rattle.std.proofs.Common.{◌∙◌, w64}
use Rattle.std.proofs.lemmas.Int.{to_z-of_z}
use Rattle.std.proofs.lemmas.Result.{IfOk-weaker}
use Rattle.register_store.proofs.ListLemmas.{knows}
use Rattle.register_store.proofs.ReplaceLemmas.{kept_shown}
use Rattle.register_extracts.specs.DigestReading.{kept_columns}
use Rattle.register_extracts.proofs.kept.with_beside.Goals as goal

pub returns-clause-found : goal.returns-clause-found
returns-clause-found g c clean e F was n k seq placed target =
    let read = c.in_ok-rows.ensures.read clean (knows F _ was) in
    let shown =
    c.deref.ensures.value ∙ kept_shown F _ _ _ kept_columns was _ n k (to_z-of_z w64 c.args.seq c.ranges.seq
    ∙ seq) placed read in
    IfOk-weaker c.read_first.result _ _ (λ request h. h n k shown target) c.read_first.ensures
