use Rattle.std.proofs.Common.{◌≡◌, true, false, [], ◌∷◌, ◌++◌, refl, ap, ◌∙◌, subst}
use Rattle.std.specs.Io.KnownBytes.{Appends}
use Rattle.std.specs.Option.{option_map_or}
use Rattle.http_messages.specs.Message.{Read, Refused, awaits, BeginsRequest}
use Rattle.http_messages.specs.Reply.{render}
use Rattle.http_messages.specs.Request.{Request as Message}
use Rattle.http_wire.specs.Calls.{interim_if}
use Rattle.http_wire.specs.Inbox.{held, lent_len, lent_awaits}
use Rattle.filing_model.specs.declared.served.Mark.TheVariants.{Unavailable, NotFiled}
use Rattle.gateway_requests.specs.Route.{view_message}
use Rattle.gateway_server.proofs.Lent.{lent_is}
use Rattle.gateway_server.specs.Answered.{WritesText}
use Rattle.gateway_rounds.specs.Away.{closing_reply}
use Rattle.intake_process.proofs.Away.{answered, ended, faulted}
use Rattle.intake_process.proofs.turning.turn_next.Goals as goal

pub returns-in-Ok-Message : goal.returns-in-Ok-Message
returns-in-Ok-Message g c =
    let new = c.next.new.self in
    let m : Message = view_message c.message.result in
    let arrival = rw c.in-Ok-Message.field-0-is at c.in-Ok-Message.ensures.arrival in
    let interim = rw c.in-Ok-Message.field-0-is at c.in-Ok-Message.ensures.interim in
    let lends = arrival.1 in
    let same : lends.request ≡ m = lent_is new lends m c.message.ensures in
    let asks : lent_awaits new ≡ awaits m.head =
    ap (λ o. option_map_or (λ (r : Message). awaits r.head) o false) c.message.ensures in
    answered c.args.inbox new c.requires.new (g.R.Source.left c.args.reader.now) (g.R.Source.left c.next.new.reader)
    (g.W.Sink.written c.args.writer.now) (g.W.Sink.written c.next.new.writer)
    (g.W.Sink.written c.write_unavailable-written.new.writer)
    (g.R.Source.read_failures c.args.reader.now) (g.R.Source.read_failures c.next.new.reader)
    (g.W.Sink.write_failures c.args.writer.now) (g.W.Sink.write_failures c.next.new.writer)
    (g.W.Sink.write_failures c.write_unavailable-written.new.writer)
    (Read m) c.write_unavailable-written.result _ c.next.ensures.reads
    (lent_len new, subst (λ r. BeginsRequest (held new) r (lent_len new)) same lends.begins, λ _. (refl, refl), λ _. tt)
    (subst (λ b. Appends (g.W.Sink.written c.args.writer.now) (g.W.Sink.written c.next.new.writer) (interim_if b)) asks
    interim) c.in-Ok-Message.ensures.fine
    (subst (λ b. WritesText (g.W.Sink.written c.next.new.writer)
    (g.W.Sink.written c.write_unavailable-written.new.writer) (render (closing_reply b) true)
    c.write_unavailable-written.result) c.is_head.ensures c.write_unavailable-written.ensures.written)
    c.write_unavailable-written.ensures.fine c.write_unavailable-written.ensures.fault (c.push_reserved.ensures.items
    ∙ ap (λ ms. ms ++ Unavailable ∷ []) c.requires.none) c.end_by.ensures

pub returns-in-Ok-Refuse : goal.returns-in-Ok-Refuse
returns-in-Ok-Refuse g c =
    let new = c.next.new.self in
    let arrival = rw c.in-Ok-Refuse.field-0-is at c.in-Ok-Refuse.ensures.arrival in
    let interim = rw c.in-Ok-Refuse.field-0-is at c.in-Ok-Refuse.ensures.interim in
    answered c.args.inbox new c.requires.new (g.R.Source.left c.args.reader.now) (g.R.Source.left c.next.new.reader)
    (g.W.Sink.written c.args.writer.now) (g.W.Sink.written c.next.new.writer)
    (g.W.Sink.written c.write_unavailable-written-in-Ok-Refuse.new.writer)
    (g.R.Source.read_failures c.args.reader.now) (g.R.Source.read_failures c.next.new.reader)
    (g.W.Sink.write_failures c.args.writer.now) (g.W.Sink.write_failures c.next.new.writer)
    (g.W.Sink.write_failures c.write_unavailable-written-in-Ok-Refuse.new.writer)
    (Refused c.in-Ok-Refuse.field-0-0) c.write_unavailable-written-in-Ok-Refuse.result _ c.next.ensures.reads
    (arrival.2, refl, refl) interim c.in-Ok-Refuse.ensures.fine
    c.write_unavailable-written-in-Ok-Refuse.ensures.written c.write_unavailable-written-in-Ok-Refuse.ensures.fine
    c.write_unavailable-written-in-Ok-Refuse.ensures.fault (c.push_reserved-in-Ok-Refuse.ensures.items
    ∙ ap (λ ms. ms ++ NotFiled ∷ []) c.requires.none) c.end_by-in-Ok-Refuse.ensures

pub returns-in-Ok-End : goal.returns-in-Ok-End
returns-in-Ok-End g c =
    let arrival = rw c.in-Ok-End.field-0-is at c.in-Ok-End.ensures.arrival in
    let interim = rw c.in-Ok-End.field-0-is at c.in-Ok-End.ensures.interim in
    ended c.args.inbox c.next.new.self c.requires.new (g.R.Source.left c.args.reader.now)
    (g.R.Source.left c.next.new.reader) (g.W.Sink.written c.args.writer.now) (g.W.Sink.written c.next.new.writer)
    (g.W.Sink.written c.next.new.writer) (g.R.Source.read_failures c.args.reader.now)
    (g.R.Source.read_failures c.next.new.reader) (g.W.Sink.write_failures c.args.writer.now)
    (g.W.Sink.write_failures c.next.new.writer) (g.W.Sink.write_failures c.next.new.writer) _ c.next.ensures.reads
    arrival interim c.in-Ok-End.ensures.fine c.requires.none refl

pub returns : goal.returns
returns g c =
    faulted c.args.inbox c.next.new.self c.requires.new (g.R.Source.left c.args.reader.now)
    (g.R.Source.left c.next.new.reader) (g.W.Sink.written c.args.writer.now) (g.W.Sink.written c.next.new.writer)
    (g.W.Sink.written c.next.new.writer) (g.R.Source.read_failures c.args.reader.now)
    (g.R.Source.read_failures c.next.new.reader) (g.W.Sink.write_failures c.args.writer.now)
    (g.W.Sink.write_failures c.next.new.writer) (g.W.Sink.write_failures c.next.new.writer) c.in-Err.fault _
    c.next.ensures.reads c.in-Err.ensures.part c.in-Err.ensures.fault c.requires.none refl
