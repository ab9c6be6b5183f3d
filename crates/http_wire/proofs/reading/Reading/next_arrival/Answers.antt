use Rattle.std.proofs.Common.{Err, refl, ap, ◌∙◌, subst, ◌&&◌, not}
use Rattle.std.proofs.lemmas.Result.{err_from_is_err_and}
use Rattle.std.specs.Io.KnownBytes.{Appends}
use Rattle.http_wire.specs.Calls.{interim_if, IsSendFault}
use Rattle.http_wire.proofs.ReadingLemmas.{ReadsOn-told, ReadsOn-sent, ReadsOn-read, no_memory, not_sent, not_read}
use Rattle.http_wire.proofs.ReadingLemmas.{request_found, refusal_found, end_found, Asks-lent}
use Rattle.http_wire.proofs.ReadingLemmas.{goes_on}
use Rattle.http_wire.proofs.reading.Reading.next_arrival.Goals as goal

pub returns-in_err-awaits : goal.returns-in_err-awaits
returns-in_err-awaits g c =
    let told = c.next_event.ensures in
    let here =
    ReadsOn-told g.R.Source g.W.Sink c.args.reader.now c.args.writer.now c.args.self.now c.loop-awaits.reader
    c.loop-awaits.writer c.loop-awaits.self _ c.loop-awaits.is_sent told.held refl told.over told.ended told.sound
    c.loop-awaits.invariant in
    let gives = err_from_is_err_and c.from_residual.result c.from_residual.ensures.1 in
    rw gives.1 (rw gives.2 (no_memory g.R.Source g.W.Sink c.args.reader.now c.args.writer.now c.args.self.now
    c.loop-awaits.reader c.loop-awaits.writer _
    c.loop-awaits.is_sent c.in_err-awaits.ensures.memory here))

pub returns-in_err-send_interim-in-NeedData : goal.returns-in_err-send_interim-in-NeedData
returns-in_err-send_interim-in-NeedData g c =
    let told = c.next_event.ensures in
    let here =
    ReadsOn-told g.R.Source g.W.Sink c.args.reader.now c.args.writer.now c.args.self.now c.loop-awaits.reader
    c.loop-awaits.writer c.loop-awaits.self _ c.loop-awaits.is_sent told.held refl told.over told.ended told.sound
    c.loop-awaits.invariant in
    let next = rw c.in-NeedData.is at c.in_ok-awaits.ensures.event c.loop-awaits.invariant.sound in
    let fault = c.in_err-send_interim-in-NeedData.field-0.0 in
    let gives =
    err_from_is_err_and c.from_residual-in_err-send_interim-in-NeedData.result
    c.from_residual-in_err-send_interim-in-NeedData.ensures.1 in
    not_sent g.R.Source g.W.Sink c.args.reader.now c.args.writer.now c.args.self.now c.loop-awaits.reader
    c.loop-awaits.writer
    c.send_interim.new.writer _ c.loop-awaits.is_sent c.in-NeedData.awaits fault next.1.asks
    c.in_err-send_interim-in-NeedData.ensures.fault here _ (gives.1 ∙ ap Err gives.2)

pub loop-awaits-preserved : goal.loop-awaits-preserved
loop-awaits-preserved g c =
    let told = c.next_event.ensures in
    let here =
    ReadsOn-told g.R.Source g.W.Sink c.args.reader.now c.args.writer.now c.args.self.now c.loop-awaits.reader
    c.loop-awaits.writer c.loop-awaits.self _ c.loop-awaits.is_sent told.held refl told.over told.ended told.sound
    c.loop-awaits.invariant in
    let next = rw c.in-NeedData.is at c.in_ok-awaits.ensures.event c.loop-awaits.invariant.sound in
    let went = c.in_ok-send_interim-in-NeedData.ensures in
    let sent =
    ReadsOn-sent g.R.Source g.W.Sink c.args.reader.now c.args.writer.now c.args.self.now c.loop-awaits.reader
    c.loop-awaits.writer
    c.send_interim.new.writer _ c.loop-awaits.is_sent c.in-NeedData.awaits next.1.asks next.0 went.ok went.fine here
    in
    let read = c.in_ok-read-in-NeedData.ensures in
    ReadsOn-read g.R.Source g.W.Sink c.args.reader.now c.args.writer.now c.args.self.now c.loop-awaits.reader
    c.read.new.reader
    c.send_interim.new.writer _ c.read.new.self c.in-NeedData.awaits next.1.rest next.1.asks next.0
    read.reads.receives
    read.reads.fine read.read read.sound sent

pub returns-in_err-read-in-NeedData : goal.returns-in_err-read-in-NeedData
returns-in_err-read-in-NeedData g c =
    let told = c.next_event.ensures in
    let mid = record c.loop-awaits.self { connection = c.next_event.new.self } in
    let here =
    ReadsOn-told g.R.Source g.W.Sink c.args.reader.now c.args.writer.now c.args.self.now c.loop-awaits.reader
    c.loop-awaits.writer c.loop-awaits.self mid c.loop-awaits.is_sent told.held refl told.over told.ended told.sound
    c.loop-awaits.invariant in
    let next = rw c.in-NeedData.is at c.in_ok-awaits.ensures.event c.loop-awaits.invariant.sound in
    let went = c.in_ok-send_interim-in-NeedData.ensures in
    let sent =
    ReadsOn-sent g.R.Source g.W.Sink c.args.reader.now c.args.writer.now c.args.self.now c.loop-awaits.reader
    c.loop-awaits.writer
    c.send_interim.new.writer mid c.loop-awaits.is_sent c.in-NeedData.awaits next.1.asks next.0 went.ok went.fine
    here in
    let fault = c.in_err-read-in-NeedData.field-0.0 in
    let read = c.in_err-read-in-NeedData.ensures in
    let gives =
    err_from_is_err_and c.from_residual-in_err-read-in-NeedData.result
    c.from_residual-in_err-read-in-NeedData.ensures.1 in
    not_read g.R.Source g.W.Sink c.args.reader.now c.args.writer.now c.args.self.now c.loop-awaits.reader
    c.read.new.reader
    c.send_interim.new.writer mid c.read.new.self c.in-NeedData.awaits fault next.1.rest next.1.asks read.same.bytes
    read.same.over read.reads.receives read.reads.fault sent _ (gives.1 ∙ ap Err gives.2)

pub returns-in_err-send_interim-in-Request : goal.returns-in_err-send_interim-in-Request
returns-in_err-send_interim-in-Request g c =
    let told = c.next_event.ensures in
    let here =
    ReadsOn-told g.R.Source g.W.Sink c.args.reader.now c.args.writer.now c.args.self.now c.loop-awaits.reader
    c.loop-awaits.writer c.loop-awaits.self _ c.loop-awaits.is_sent told.held refl told.over told.ended told.sound
    c.loop-awaits.invariant in
    let next = rw c.in-Request.is at c.in_ok-awaits.ensures.event c.loop-awaits.invariant.sound in
    let fault = c.in_err-send_interim-in-Request.field-0.0 in
    let gives =
    err_from_is_err_and c.from_residual-in_err-send_interim-in-Request.result
    c.from_residual-in_err-send_interim-in-Request.ensures.1 in
    not_sent g.R.Source g.W.Sink c.args.reader.now c.args.writer.now c.args.self.now c.loop-awaits.reader
    c.loop-awaits.writer
    c.send_interim-in-Request.new.writer _ c.loop-awaits.is_sent _ fault (Asks-lent _ next.1)
    (subst (λ awaits. IsSendFault g.W.Sink c.loop-awaits.writer
    c.send_interim-in-Request.new.writer (awaits && not c.loop-awaits.is_sent) fault) c.awaits.ensures
    c.in_err-send_interim-in-Request.ensures.fault) here _ (gives.1 ∙ ap Err gives.2)

pub returns-in-Request : goal.returns-in-Request
returns-in-Request g c =
    let told = c.next_event.ensures in
    let here =
    ReadsOn-told g.R.Source g.W.Sink c.args.reader.now c.args.writer.now c.args.self.now c.loop-awaits.reader
    c.loop-awaits.writer c.loop-awaits.self _ c.loop-awaits.is_sent told.held refl told.over told.ended told.sound
    c.loop-awaits.invariant in
    let next = rw c.in-Request.is at c.in_ok-awaits.ensures.event c.loop-awaits.invariant.sound in
    let went = c.in_ok-send_interim-in-Request.ensures in
    let sent =
    ReadsOn-sent g.R.Source g.W.Sink c.args.reader.now c.args.writer.now c.args.self.now c.loop-awaits.reader
    c.loop-awaits.writer
    c.send_interim-in-Request.new.writer _ c.loop-awaits.is_sent _ (Asks-lent _ next.1) (goes_on g.R.Source g.W.Sink
    _ _ _ _ _ _ _ next.1 here) (subst (λ awaits. Appends (g.W.Sink.written c.loop-awaits.writer)
    (g.W.Sink.written c.send_interim-in-Request.new.writer) (interim_if (awaits && not c.loop-awaits.is_sent)))
    c.awaits.ensures went.ok) went.fine here in
    request_found g.R.Source g.W.Sink c.args.reader.now c.args.writer.now c.args.self.now c.loop-awaits.reader _ _
    next.1 sent

pub returns-in-Refused : goal.returns-in-Refused
returns-in-Refused g c =
    let told = c.next_event.ensures in
    let here =
    ReadsOn-told g.R.Source g.W.Sink c.args.reader.now c.args.writer.now c.args.self.now c.loop-awaits.reader
    c.loop-awaits.writer c.loop-awaits.self _ c.loop-awaits.is_sent told.held refl told.over told.ended told.sound
    c.loop-awaits.invariant in
    let next = rw c.in-Refused.is at c.in_ok-awaits.ensures.event c.loop-awaits.invariant.sound in
    refusal_found g.R.Source g.W.Sink c.args.reader.now c.args.writer.now c.args.self.now c.loop-awaits.reader
    c.loop-awaits.writer _ c.loop-awaits.is_sent
    c.in-Refused.refusal next.1 here

pub returns-in-ConnectionClosed : goal.returns-in-ConnectionClosed
returns-in-ConnectionClosed g c =
    let told = c.next_event.ensures in
    let here =
    ReadsOn-told g.R.Source g.W.Sink c.args.reader.now c.args.writer.now c.args.self.now c.loop-awaits.reader
    c.loop-awaits.writer c.loop-awaits.self _ c.loop-awaits.is_sent told.held refl told.over told.ended told.sound
    c.loop-awaits.invariant in
    let next = rw c.in-ConnectionClosed.is at c.in_ok-awaits.ensures.event c.loop-awaits.invariant.sound in
    end_found g.R.Source g.W.Sink c.args.reader.now c.args.writer.now c.args.self.now c.loop-awaits.reader
    c.loop-awaits.writer _ c.loop-awaits.is_sent
    next here
