use Rattle.std.proofs.Common.{Some, None, true≢false, refl, sym, ◌∙◌, inl, inr}
use Rattle.std.specs.Io.KnownBytes.{IsAtEnd}
use Rattle.http_wire.specs.Calls.{WritesAsked}
use Rattle.http_wire.specs.Inbox.{held, reads, lent_awaits}
use Rattle.http_messages.specs.Message.{IsRest}
use Rattle.filing_model.specs.declared.served.Ended.TheVariants.{InputEnded}
use Rattle.filing_model.specs.Serving.{keeping}
use Rattle.intake_core.specs.Held.{limit_of, old_style_in}
use Rattle.http_wire.specs.Wire.{wire}
use Rattle.gateway_server.specs.Progress.{with_written}
use Rattle.gateway_server.specs.Stopping.{end_of}
use Rattle.gateway_server.proofs.Continuing.{HasMessage-next, HasRefusal-next, Serves-end, Serves-fault, is_limit}
use Rattle.gateway_server.proofs.Ending.{TellsEnd-fault}
use Rattle.gateway_server.proofs.Written.{WritesTexts-none, WritesTexts-join, WritesTexts-interim, WritesTexts-asked}
use Rattle.gateway_server.proofs.Written.{WritesTexts-fault}
use Rattle.gateway_server.proofs.serving.serve_arrival.Goals as goal

pub returns-in-Ok-Message-clause-serves : goal.returns-in-Ok-Message-clause-serves
returns-in-Ok-Message-clause-serves g c = λ clean now kept.
    let held = rw c.date.ensures.rest at c.date.ensures.holds now kept in
    let serves = rw c.date.ensures.rest at c.serve_message.ensures.serves in
    let served = serves clean now held in (
      served.0,
      served.1,
      served.2,
      λ before first h.
          let ended = wire g.R.Source g.W.Sink c.next.new.reader c.serve_message.new.writer in
          let arrival = rw c.in-Ok-Message.field-0-is at c.in-Ok-Message.ensures.arrival in
          let interim = rw c.in-Ok-Message.field-0-is at c.in-Ok-Message.ensures.interim in
          served.3 before first ended
          (HasMessage-next (keeping (limit_of c.args.intake.now) (old_style_in c.args.intake.now now) before now) first
          (wire g.R.Source g.W.Sink c.args.reader.now c.args.writer.now)
          (with_written ended (g.W.Sink.written c.next.new.writer)) c.args.inbox.now c.next.new.self
          c.args.marks.now.items h c.next.ensures.reads arrival.1 interim),
    )

pub returns-in-Ok-Message-clause-setting : goal.returns-in-Ok-Message-clause-setting
returns-in-Ok-Message-clause-setting g c =
    let kept = rw c.date.ensures.rest at c.serve_message.ensures.setting in
    record { clean = kept.clean; limit = kept.limit; old_style = kept.old_style }

pub returns-in-Ok-Refuse-clause-serves : goal.returns-in-Ok-Refuse-clause-serves
returns-in-Ok-Refuse-clause-serves g c = λ clean now kept. (
  now,
  kept,
  refl,
  λ before first h.
      let ended = wire g.R.Source g.W.Sink c.next.new.reader c.serve_refusal.new.writer in
      let arrival = rw c.in-Ok-Refuse.field-0-is at c.in-Ok-Refuse.ensures.arrival in
      let interim = rw c.in-Ok-Refuse.field-0-is at c.in-Ok-Refuse.ensures.interim in
      c.serve_refusal.ensures.serves (keeping (limit_of c.args.intake.now) (old_style_in c.args.intake.now now) before
      now) first ended c.next.new.self
      (HasRefusal-next (keeping (limit_of c.args.intake.now) (old_style_in c.args.intake.now now) before now) first
      (wire g.R.Source g.W.Sink c.args.reader.now c.args.writer.now)
      (with_written ended (g.W.Sink.written c.next.new.writer)) c.args.inbox.now c.next.new.self
      c.args.marks.now.items h c.next.ensures.reads c.in-Ok-Refuse.refusal arrival.2 interim),
)

pub returns-in-Ok-End-clause-serves : goal.returns-in-Ok-End-clause-serves
returns-in-Ok-End-clause-serves g c = λ clean now kept. (
  now,
  kept,
  refl,
  λ before first h.
      let arrival = rw c.in-Ok-End.field-0-is at c.in-Ok-End.ensures.arrival in
      let interim = rw c.in-Ok-End.field-0-is at c.in-Ok-End.ensures.interim in
      let rest : IsRest (held c.next.new.self) =
      elim arrival.1 [ inl over ↦ absurd (true≢false (sym over ∙ c.requires.over)) | inr r ↦ r.0 ] in
      let ended : IsAtEnd (g.R.Source.left c.next.new.reader) =
      elim arrival.1 [ inl over ↦ absurd (true≢false (sym over ∙ c.requires.over)) | inr r ↦ r.1 ] in
      let asked : WritesAsked (g.W.Sink.written c.args.writer.now) (g.W.Sink.written c.next.new.writer)
      (held c.next.new.self) =
      elim interim [ inl over ↦ absurd (true≢false (sym over.0 ∙ c.requires.over)) | inr w ↦ w ] in
      Serves-end (keeping (limit_of c.args.intake.now) (old_style_in c.args.intake.now now) before now) first
      (wire g.R.Source g.W.Sink c.args.reader.now c.args.writer.now)
      (wire g.R.Source g.W.Sink c.next.new.reader c.next.new.writer) c.args.inbox.now c.next.new.self
      c.args.marks.now.items h c.next.ensures.reads ended rest asked,
)

pub returns-in-Err-clause-serves : goal.returns-in-Err-clause-serves
returns-in-Err-clause-serves g c = λ clean now kept. (
  now,
  kept,
  refl,
  λ before first h.
      Serves-fault (keeping (limit_of c.args.intake.now) (old_style_in c.args.intake.now now) before now) first
      (wire g.R.Source g.W.Sink c.args.reader.now c.args.writer.now)
      (wire g.R.Source g.W.Sink c.next.new.reader c.next.new.writer) c.args.inbox.now c.next.new.self
      c.args.marks.now.items h c.next.ensures.reads c.in-Err.fault
      (is_limit (wire g.R.Source g.W.Sink c.args.reader.now c.args.writer.now)
      (wire g.R.Source g.W.Sink c.next.new.reader c.next.new.writer) (reads c.next.new.self) (held c.next.new.self)
      c.in-Err.fault c.in-Err.ensures.fault)
      c.in-Err.ensures.part,
)

pub returns-in-Err-clause-told : goal.returns-in-Err-clause-told
returns-in-Err-clause-told g c =
    TellsEnd-fault (wire g.R.Source g.W.Sink c.args.reader.now c.args.writer.now)
    (wire g.R.Source g.W.Sink c.next.new.reader c.next.new.writer) c.next.new.self
    (g.R.Source.left c.next.new.reader) c.in-Err.fault c.in-Err.ensures.fault

pub returns-in-Ok-End-clause-told : goal.returns-in-Ok-End-clause-told
returns-in-Ok-End-clause-told g c =
    let arrival = rw c.in-Ok-End.field-0-is at c.in-Ok-End.ensures.arrival in
    elim arrival.1 [ inl over ↦ absurd (true≢false (sym over ∙ c.requires.over)) | inr r ↦ r.1 ]

-- ---- what went out

pub returns-in-Ok-Message-clause-texts : goal.returns-in-Ok-Message-clause-texts
returns-in-Ok-Message-clause-texts g c =
    let interim = rw c.in-Ok-Message.field-0-is at c.in-Ok-Message.ensures.interim in
    WritesTexts-join (g.W.Sink.written c.args.writer.now) (g.W.Sink.written c.next.new.writer)
    (g.W.Sink.written c.serve_message.new.writer) (end_of c.serve_message.result)
    (WritesTexts-interim _ _ None (lent_awaits c.next.new.self) refl interim) c.serve_message.ensures.texts

pub returns-in-Ok-Refuse-clause-texts : goal.returns-in-Ok-Refuse-clause-texts
returns-in-Ok-Refuse-clause-texts g c =
    let interim = rw c.in-Ok-Refuse.field-0-is at c.in-Ok-Refuse.ensures.interim in
    WritesTexts-join (g.W.Sink.written c.args.writer.now) (g.W.Sink.written c.next.new.writer)
    (g.W.Sink.written c.serve_refusal.new.writer) (end_of c.serve_refusal.result)
    (WritesTexts-none _ _ None refl interim) c.serve_refusal.ensures.texts

pub returns-in-Ok-End-clause-texts : goal.returns-in-Ok-End-clause-texts
returns-in-Ok-End-clause-texts g c =
    let interim = rw c.in-Ok-End.field-0-is at c.in-Ok-End.ensures.interim in
    elim interim [
      | inl over ↦ WritesTexts-none _ _ (Some InputEnded) refl over.1
      | inr asked ↦ WritesTexts-asked _ _ (held c.next.new.self) (Some InputEnded) refl asked
    ]

pub returns-in-Err-clause-texts : goal.returns-in-Err-clause-texts
returns-in-Err-clause-texts g c = WritesTexts-fault _ _ (held c.next.new.self) c.in-Err.fault c.in-Err.ensures.part
