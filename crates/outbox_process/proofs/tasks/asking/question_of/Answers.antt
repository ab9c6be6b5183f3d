use Rattle.std.proofs.Common.{sym, ◌∙◌}
use Rattle.outbox_process.proofs.Asked.{question, no_question, open_question}
use Rattle.outbox_process.proofs.tasks.asking.question_of.Goals as goal

pub returns-then-is_open : goal.returns-then-is_open
returns-then-is_open g c =
    open_question g.S.Store c.args.outbox.now c.entry_of.new.outbox c.args.id c.in_ok-entry.entry
    c.in_ok-entry.ensures.found c.entry_of.ensures.kept c.entry_of.ensures.filer c.entry_of.ensures.nothing
    (sym c.is_open.ensures ∙ c.if-is_open.true)

pub returns-in-Ok : goal.returns-in-Ok
returns-in-Ok g c =
    question g.S.Store c.args.outbox.now c.entry_of.new.outbox c.request_bytes.new.outbox c.args.id c.in_ok-entry.entry
    c.in_ok-entry.ensures.found c.entry_of.ensures.kept c.entry_of.ensures.filer c.entry_of.ensures.nothing
    c.in-Ok.request (sym c.is_open.ensures ∙ c.if-is_open.false) (rw c.in-Ok.is at c.request_bytes.ensures)

pub returns-in-Err : goal.returns-in-Err
returns-in-Err g c =
    no_question g.S.Store c.args.outbox.now c.entry_of.new.outbox c.request_bytes.new.outbox c.args.id
    c.in_ok-entry.entry c.in_ok-entry.ensures.found c.entry_of.ensures.kept c.entry_of.ensures.filer
    c.entry_of.ensures.nothing
    c.in-Err.fault (sym c.is_open.ensures ∙ c.if-is_open.false) (rw c.in-Err.is at c.request_bytes.ensures)
