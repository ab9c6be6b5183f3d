use Rattle.std.proofs.Common.{◌∙◌, w64}
use Rattle.std.proofs.lemmas.Int.{to_z-of_z}
use Rattle.register_store.specs.Reads.{filer_alone}
use Rattle.register_store.proofs.ListLemmas.{knows}
use Rattle.register_store.proofs.ReplaceLemmas.{kept_shown}
use Rattle.register_store.proofs.select.replaceable.is_filers.Goals as goal

pub returns-clause-found : goal.returns-clause-found
returns-clause-found g c clean e F was n k seq placed =
    let read = c.in_ok-rows.ensures.read clean (knows F _ was) in
    c.is_text.ensures k.request.filer (c.deref.ensures.value
    ∙ kept_shown F _ _ _ filer_alone was _ n k (to_z-of_z w64 c.args.seq c.ranges.seq ∙ seq) placed read)
