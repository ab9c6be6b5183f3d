use Rattle.std.proofs.Common.{◌∙◌, ap, sym}
use Rattle.receipts.specs.Name.{is_receipt_of}
use Rattle.xbrl_report.proofs.Trees.{tree-Some, tree-None}
use Rattle.receipts.proofs.name.is_receipt_of.Goals as goal

pub returns-in-Ok : goal.returns-in-Ok
returns-in-Ok c =
    let ok = c.in-Ok.ensures.ok in
    c.tells_of.ensures ∙ ap (is_receipt_of c.args.receipt.now.id c.args.receipt.now.sent)
    (sym (tree-Some c.args.text.now _ ok.0 ok.1))

pub returns-in-Err-2 : goal.returns-in-Err-2
returns-in-Err-2 c =
    let err = c.in-Err.ensures.err (λ memory. let said = c.is_memory.ensures.1 memory in cc) in
    ap (is_receipt_of c.args.receipt.now.id c.args.receipt.now.sent) (sym (tree-None c.args.text.now err))
