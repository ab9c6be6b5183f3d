use Rattle.std.proofs.Common.{Ok, refl, inl, inr}
use Rattle.std.proofs.lemmas.Result.{err_from_is_err_and}
use Rattle.outbox_process.proofs.Sendings.{sent_open, told_settled}
use Rattle.outbox_process.proofs.tasks.sending.send_entry.Goals as goal

pub returns-in-Open : goal.returns-in-Open
returns-in-Open g c =
    inl (sent_open g.S.Store c.args.id c.args.outbox.now c.entry_of.new.outbox c.in_ok-entry_of.field-0
    c.in_ok-entry_of.ensures.found c.entry_of.ensures.kept c.entry_of.ensures.filer c.entry_of.ensures.clean
    (g.N.Dial.traffic c.args.network.now) (g.N.Dial.traffic c.send_open.new.network) c.send_open.new.outbox
    (g.O.Write.contents c.args.output.now) (g.O.Write.contents c.send_open.new.output) c.send_open.result
    c.in-Open.is
    c.send_open.ensures)

pub returns-in_err-print_state-in_default : goal.returns-in_err-print_state-in_default
returns-in_err-print_state-in_default g c =
    let told =
    err_from_is_err_and c.from_residual-in_err-print_state-in_default.result
    c.from_residual-in_err-print_state-in_default.ensures.1 in
    inl (told_settled g.S.Store c.args.id c.args.outbox.now c.entry_of.new.outbox c.in_ok-entry_of.field-0
    c.in_ok-entry_of.ensures.found c.entry_of.ensures.kept c.entry_of.ensures.filer c.entry_of.ensures.clean
    (g.N.Dial.traffic c.args.network.now) (g.O.Write.contents c.args.output.now)
    (g.O.Write.contents c.print_state.new.output) c.from_residual-in_err-print_state-in_default.result
    c.in_default.not-Open
    (inr (told.0, told.1, rw told.2 c.in_err-print_state-in_default.ensures.refused)))

pub returns : goal.returns
returns g c =
    inl (told_settled g.S.Store c.args.id c.args.outbox.now c.entry_of.new.outbox c.in_ok-entry_of.field-0
    c.in_ok-entry_of.ensures.found c.entry_of.ensures.kept c.entry_of.ensures.filer c.entry_of.ensures.clean
    (g.N.Dial.traffic c.args.network.now) (g.O.Write.contents c.args.output.now)
    (g.O.Write.contents c.print_state.new.output) (Ok c.in_ok-entry_of.field-0.state) c.in_default.not-Open
    (inl (refl, c.in_ok-print_state-in_default.ensures.printed)))
