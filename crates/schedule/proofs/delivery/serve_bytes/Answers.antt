use Rattle.std.proofs.Common.{◌≢◌, ℕ, Some, refl, sym, ap, ◌∙◌, subst, true≢false, arith}
use Rattle.http_messages.specs.declared.refusal.ConnFault.TheVariants.{Write}
use Rattle.filing_model.specs.declared.served.Ended.TheVariants.{Fault}
use Rattle.filing_model.specs.Request.{firsts}
use Rattle.filing_model.specs.Stopping.{ServesUntil}
use Rattle.http_wire.specs.Wire.{Wire}
use Rattle.gateway_server.specs.Stopping.{view_stop}
use Rattle.gateway_server.proofs.Whole.{serves_until_whole}
use Rattle.http_wire.specs.Memory.{bytes_left, bytes_written, memory_refusals}
use Rattle.schedule.specs.Processes.{KeepsSurely}
use Rattle.schedule.proofs.delivery.serve_bytes.Goals as goal

pub returns-clause-serves : goal.returns-clause-serves
returns-clause-serves g c = λ limit done keeps up.
    let reader = c.serve_part-marks.new.reader in
    let writer = c.serve_part-marks.new.writer in
    let marks = c.serve_part-marks.result.marks.items in
    let ended = c.serve_part-marks.result.ended in
    let crash = view_stop c.args.stop in
    let from : Wire =
    record {
      left = Some (bytes_left c.new-reader.result);
      written =
          Some (bytes_written c.new-writer.result);
      read_failures = 0;
      write_failures = memory_refusals c.new-writer.result;
    } in
    let to : Wire =
    record {
      left = Some (bytes_left reader);
      written = Some (bytes_written writer);
      read_failures =
          0;
      write_failures = memory_refusals writer;
    } in
    let part = c.serve_part-marks.ensures.serves limit (firsts done) keeps up in
    let not_written : (sent : ℕ) → ended ≢ Some (Fault (Write sent)) =
    λ sent e. true≢false (sym (c.is_refused.ensures sent e) ∙ c.if-is_refused.false) in
    let whole =
    serves_until_whole limit from to done (firsts done) part.after c.args.bytes.now (bytes_left reader)
    (bytes_written writer) crash marks ended refl (ap Some c.new-reader.ensures) (ap Some c.new-writer.ensures.text)
    refl refl (omega arith) refl not_written part.serves part.fault in (
      whole.0,
      subst (λ text. ServesUntil limit done c.args.bytes.now crash whole.0 marks ended text) (sym c.into_text.ensures)
          whole.1,
      subst (λ F. KeepsSurely c.serve_part-marks.new.process limit F) whole.2 part.keeps,
    )
