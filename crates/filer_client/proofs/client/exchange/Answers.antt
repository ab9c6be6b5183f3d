use Rattle.std.proofs.Common.{◌≡◌, is_ok, sym, ap, ◌∙◌, rules}
use Rattle.std.proofs.lemmas.Result.{err_from_is_err_and}
use Rattle.filer_client.specs.declared.fault.ExchangeFault.TheVariants.{Write}
use Rattle.filer_client.proofs.Exchanging.{refused_as, exchanges-settled, exchanges-unasked, exchanges-unwritten}
use Rattle.filer_client.proofs.Exchanging.{exchanges-sent}
use Rattle.filer_client.proofs.client.exchange.Goals as goal

pub returns-in_err-text : goal.returns-in_err-text
returns-in_err-text g c =
    let told = err_from_is_err_and c.from_residual.result c.from_residual.ensures.1 in
    rw (told.1, told.2)
    (exchanges-unasked g.S.Store g.R.Source g.W.Sink c.args.outbox.now c.open_request.new.outbox c.args.id
    c.args.reader.now c.args.writer.now c.in_err-text.field-0.0 c.in_err-text.ensures)

pub returns-in-Settled : goal.returns-in-Settled
returns-in-Settled g c =
    exchanges-settled g.S.Store g.R.Source g.W.Sink c.args.outbox.now c.open_request.new.outbox c.args.id
    c.args.reader.now c.args.writer.now c.in-Settled.state
    (rw c.in-Settled.is at c.in_ok-text.ensures)

pub returns-in_ok-map_err-in-Request : goal.returns-in_ok-map_err-in-Request
returns-in_ok-map_err-in-Request g c =
    let whole = sym c.map_err.ensures.variant ∙ ap is_ok c.in_ok-map_err-in-Request.was in
    exchanges-sent g.S.Store g.R.Source g.W.Sink c.args.outbox.now c.open_request.new.outbox c.hand_over.new.outbox
    c.args.id c.args.reader.now c.hand_over.new.reader
    c.args.writer.now c.write_all.new.writer c.in-Request.text c.as_slice.result.now c.write_all.result
    c.hand_over.result (rw c.in-Request.is at c.in_ok-text.ensures)
    c.as_slice.ensures.value whole c.write_all.ensures.ok c.write_all.ensures.fine c.hand_over.ensures

pub returns-in_err-map_err-in-Request : goal.returns-in_err-map_err-in-Request
returns-in_err-map_err-in-Request g c =
    let told =
    err_from_is_err_and c.from_residual-in_err-map_err-in-Request.result
    c.from_residual-in_err-map_err-in-Request.ensures.1 in
    let cause =
    refused_as _ c.write_all.result c.map_err.result c.in_err-map_err-in-Request.field-0.0
    c.in_err-map_err-in-Request.was c.map_err.ensures.cases in
    let sent : c.in_err-map_err-in-Request.field-0.0 ≡ Write cause.0 = search rules in
    rw (told.1, told.2, sent)
    (exchanges-unwritten g.S.Store g.R.Source g.W.Sink c.args.outbox.now c.open_request.new.outbox c.args.id
    c.args.reader.now c.args.writer.now c.write_all.new.writer
    c.in-Request.text c.as_slice.result.now c.write_all.result cause.0 (rw c.in-Request.is at c.in_ok-text.ensures)
    c.as_slice.ensures.value cause.1 c.write_all.ensures.err c.write_all.ensures.sent c.write_all.ensures.failed)
