use Rattle.std.proofs.Common.{◌∙◌, ap, sym}
use Rattle.filing_model.specs.Outbox.{state_told}
use Rattle.xbrl_report.proofs.Trees.{tree-Some, tree-None}
use Rattle.outbox_core.proofs.state.state_told.Goals as goal

pub returns-in-Ok-clause-told : goal.returns-in-Ok-clause-told
returns-in-Ok-clause-told c =
    let ok = rw c.as_slice.ensures.value at c.in-Ok.ensures.ok in
    c.state_by.ensures.value ∙ ap (state_told c.args.reply.now.status)
    (sym (tree-Some c.args.reply.now.content.items _ ok.0 ok.1))

pub returns-in-Err-2-clause-told : goal.returns-in-Err-2-clause-told
returns-in-Err-2-clause-told c =
    let err =
    rw c.as_slice.ensures.value at (c.in-Err.ensures.err (λ memory. let said = c.is_memory.ensures.1 memory in
    cc)) in
    ap (state_told c.args.reply.now.status) (sym (tree-None c.args.reply.now.content.items err))
