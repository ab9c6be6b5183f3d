use Rattle.std.proofs.Common.{ap, sym, is_some}
use Rattle.xbrl_report.proofs.Trees.{tree-Some, tree-None}
use Rattle.outbox_commands.proofs.putting.is_json.Goals as goal

pub returns-in-Ok : goal.returns-in-Ok
returns-in-Ok c =
    let ok = c.in-Ok.ensures.ok in
    ap is_some (sym (tree-Some c.args.body.now _ ok.0 ok.1))

pub returns : goal.returns
returns c =
    let err = c.in-Err.ensures.err (λ memory. let said = c.is_memory.ensures.1 memory in cc) in
    ap is_some (sym (tree-None c.args.body.now err))
