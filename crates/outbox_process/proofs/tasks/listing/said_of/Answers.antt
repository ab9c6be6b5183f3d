use Rattle.std.proofs.Common.{◌≡◌, ◌==◌, ◌∙◌, true, ap, sym, rules}
use Rattle.xbrl_report.proofs.Trees.{tree-Some, tree-None}
use Rattle.outbox_process.specs.Listing.{listed_by}
use Rattle.outbox_process.proofs.tasks.listing.said_of.Goals as goal

pub returns-in-Ok : goal.returns-in-Ok
returns-in-Ok c =
    let ok = rw c.as_slice.ensures.value at c.in-Ok.ensures.ok in
    let fine : (c.args.reply.now.status == 200) ≡ true = search rules in
    rw fine (c.listed_by.ensures
    ∙ ap (listed_by c.args.it) (sym (tree-Some c.args.reply.now.content.items _ ok.0 ok.1)))

pub returns-in-Err-2 : goal.returns-in-Err-2
returns-in-Err-2 c =
    let err =
    rw c.as_slice.ensures.value at (c.in-Err.ensures.err (λ memory. let said = c.is_memory.ensures.1 memory in
    cc)) in
    let fine : (c.args.reply.now.status == 200) ≡ true = search rules in
    rw fine (ap (listed_by c.args.it) (sym (tree-None c.args.reply.now.content.items err)))
