use Rattle.std.proofs.Common.{is_some, sym, ap, ap₂, ◌∙◌, inr, subst}
use Rattle.std.proofs.lemmas.Bool.{false≢true}
use Rattle.http_connection.proofs.Bounds.{held-bound, memory-bound}
use Rattle.http_messages.specs.Message.{IsRefused, IsRest}
use Rattle.http_wire.specs.Calls.{WritesAsked, WritesUpTo, IsFault}
use Rattle.http_wire.specs.Wire.{wire}
use Rattle.http_wire.specs.Received.{Receives, ReceivesNothing}
use Rattle.http_wire.proofs.InboxLemmas.{LendsFirst-found, opened, or-none, or-all, or-first}
use Rattle.http_wire.proofs.inbox.Inbox.next.Goals as goal

pub invariant_of-self : goal.invariant_of-self
invariant_of-self g c =
    let found = rw c.in-Ok-Message.field-0-is at c.in-Ok-Message.ensures.found in
    record {
      settled = λ _ _. ap is_some found.0.lends;
      goes_on = λ _. found.1;
      shut = λ failed. absurd (false≢true (c.if-is_over.ensures ∙ c.drop_message.new.self.shut failed));
    }

pub returns-in-Ok-Message : goal.returns-in-Ok-Message
returns-in-Ok-Message g c =
    let dropped = c.drop_message.ensures in
    let told = c.in-Ok-Message.ensures in
    let found = rw c.in-Ok-Message.field-0-is at told.found in
    let more = sym dropped.over ∙ sym c.if-is_over.ensures in
    opened c.drop_message.new.self.reading more
    (ap₂ (λ b n. record { bytes = b; reads = n }) dropped.held dropped.count) told.reads told.lazy
    (held-bound c.next_arrival.new.self.connection) (memory-bound c.next_arrival.new.self.connection)
    (more, LendsFirst-found _ told.more found.0) (rw c.in-Ok-Message.field-0-is at told.interim) tt told.fine tt
    (dropped.failed ∙ or-none _) tt

pub returns-in-Ok-Refuse : goal.returns-in-Ok-Refuse
returns-in-Ok-Refuse g c =
    let dropped = c.drop_message.ensures in
    let told = c.in-Ok-Refuse.ensures in
    let found = rw c.in-Ok-Refuse.field-0-is at told.found in
    let more = sym dropped.over ∙ sym c.if-is_over.ensures in
    let shut = c.close.ensures in
    let same = ap (λ b. record { bytes = b; reads = c.next_arrival.new.self.reads }) (sym shut.held) in
    opened c.drop_message.new.self.reading more
    (ap₂ (λ b n. record { bytes = b; reads = n }) dropped.held dropped.count)
    (subst (Receives _ _ _) same told.reads) (λ holds. subst (ReceivesNothing _ _ _) same (told.lazy holds))
    (held-bound c.close.new.self) (memory-bound c.close.new.self)
    (more, or-first _ _ shut.over, subst (λ b. IsRefused b c.in-Ok-Refuse.refusal) (sym shut.held) found)
    (rw c.in-Ok-Refuse.field-0-is at told.interim) tt told.fine tt (dropped.failed ∙ or-none _) tt

pub returns-in-Ok-End : goal.returns-in-Ok-End
returns-in-Ok-End g c =
    let dropped = c.drop_message.ensures in
    let told = c.in-Ok-End.ensures in
    let found = rw c.in-Ok-End.field-0-is at told.found in
    let more = sym dropped.over ∙ sym c.if-is_over.ensures in
    let shut = c.close-in-Ok-End.ensures in
    let same = ap (λ b. record { bytes = b; reads = c.next_arrival.new.self.reads }) (sym shut.held) in
    opened c.drop_message.new.self.reading more
    (ap₂ (λ b n. record { bytes = b; reads = n }) dropped.held dropped.count)
    (subst (Receives _ _ _) same told.reads) (λ holds. subst (ReceivesNothing _ _ _) same (told.lazy holds))
    (held-bound c.close-in-Ok-End.new.self) (memory-bound c.close-in-Ok-End.new.self)
    (or-first _ _ shut.over, inr (subst IsRest (sym shut.held) found.0, found.1))
    (inr (subst (WritesAsked _ _) (sym shut.held) (rw c.in-Ok-End.field-0-is at told.interim))) tt told.fine tt
    (dropped.failed ∙ or-none _) tt

pub returns-in-Err : goal.returns-in-Err
returns-in-Err g c =
    let dropped = c.drop_message.ensures in
    let told = c.in-Err.ensures in
    let more = sym dropped.over ∙ sym c.if-is_over.ensures in
    let shut = c.close-in-Err.ensures in
    let same = ap (λ b. record { bytes = b; reads = c.next_arrival.new.self.reads }) (sym shut.held) in
    opened c.drop_message.new.self.reading more
    (ap₂ (λ b n. record { bytes = b; reads = n }) dropped.held dropped.count)
    (subst (Receives _ _ _) same told.reads) (λ holds. subst (ReceivesNothing _ _ _) same (told.lazy holds))
    (held-bound c.close-in-Err.new.self) (memory-bound c.close-in-Err.new.self) tt tt
    (subst (λ b. WritesUpTo (g.W.Sink.written c.args.writer.now) (g.W.Sink.written c.next_arrival.new.writer) b
    c.in-Err.fault) (sym shut.held) told.part) tt
    (subst (λ b. IsFault (wire g.R.Source g.W.Sink c.args.reader.now c.args.writer.now)
    (wire g.R.Source g.W.Sink c.next_arrival.new.reader c.next_arrival.new.writer) c.next_arrival.new.self.reads b
    c.in-Err.fault) (sym shut.held) told.fault)
    (or-all _) (or-first _ _ shut.over)
