use Rattle.std.proofs.lemmas.Result.{err_from_is_err_and}
use Rattle.filer_client.proofs.Asking.{asks-open, asks-settled, asks-refused, asks-unmade}
use Rattle.filer_client.proofs.request.open_request.Goals as goal

pub returns-in_err-entry : goal.returns-in_err-entry
returns-in_err-entry g c =
    let told = err_from_is_err_and c.from_residual.result c.from_residual.ensures.1 in
    rw (told.1, told.2) (asks-refused g.S.Store c.args.outbox.now c.find_entry.new.outbox c.args.id
    c.in_err-entry.field-0.0 c.in_err-entry.ensures.read)

pub returns-in_err-request_of-in-Open : goal.returns-in_err-request_of-in-Open
returns-in_err-request_of-in-Open g c =
    let told =
    err_from_is_err_and c.from_residual-in_err-request_of-in-Open.result
    c.from_residual-in_err-request_of-in-Open.ensures.1 in
    rw (told.1, told.2, c.in_err-request_of-in-Open.ensures.memory)
    (asks-unmade g.S.Store c.args.outbox.now c.find_entry.new.outbox c.args.id c.in_ok-entry.entry
    c.in_ok-entry.ensures.read)

pub returns-in-Open : goal.returns-in-Open
returns-in-Open g c =
    asks-open g.S.Store c.args.outbox.now c.find_entry.new.outbox c.args.id c.in_ok-entry.entry c.filer.result.now
    c.in_ok-request_of-in-Open.field-0
    c.in_ok-entry.ensures.read c.in-Open.is c.filer.ensures.value c.in_ok-request_of-in-Open.ensures.bytes

pub returns : goal.returns
returns g c =
    asks-settled g.S.Store c.args.outbox.now c.find_entry.new.outbox c.args.id c.in_ok-entry.entry
    c.in_ok-entry.ensures.read c.in_default.not-Open
