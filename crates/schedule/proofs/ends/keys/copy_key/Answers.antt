use Rattle.std.proofs.Common.{◌≡◌, rules}
use Rattle.key_string.specs.declared.fault.KeyFault.TheVariants.{Memory}
use Rattle.outbox_core.proofs.KeyLemmas.{only_memory}
use Rattle.schedule.proofs.ends.keys.copy_key.Goals as goal

pub prove-unreachable-requires : goal.prove-unreachable-requires
prove-unreachable-requires c =
    let memory : c.in-Err.fault ≡ Memory =
    only_memory c.args.key.now c.in-Err.fault c.as_str.ensures.key
    (rw c.as_str.ensures.value at c.in-Err.ensures.fault) in
    search rules
