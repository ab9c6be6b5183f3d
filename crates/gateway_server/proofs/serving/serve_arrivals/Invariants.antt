use Rattle.std.proofs.Common.{◌≡◌, ◌-◌, ◌^◌, false, List, None, vec_len}
use Rattle.http_wire.specs.Inbox.{is_over}
use Rattle.http_wire.specs.Wire.{Wire, wire}
use Rattle.filing_model.specs.Request.{Request}
use Rattle.filing_model.specs.Serving.{keeping}
use Rattle.filing_model.specs.Stopping.{ComeBefore}
use Rattle.intake_core.specs.Held.{limit_of, KeepsSetting, IsTransition}
use Rattle.gateway_server.specs.Progress.{GoesOn, ReadsSome}
use Rattle.gateway_server.specs.Stopping.{view_stop}
use Rattle.gateway_server.specs.Written.{WritesTexts}
use Rattle.gateway_server.proofs.serving.serve_arrivals.Given as goal

abbrev pub invariant-arrivals : goal.invariant-arrivals
invariant-arrivals g l = record {
  over : is_over l.inbox ≡ false;
  count : ComeBefore (view_stop l.fn.stop) (vec_len l.marks);
  reads : g.R.Source.read_failures l.reader ≡ g.R.Source.read_failures l.fn.reader;
  writes : g.W.Sink.write_failures l.writer ≡ g.W.Sink.write_failures l.fn.writer;
  read : ReadsSome (g.R.Source.left l.fn.reader) (g.R.Source.left l.reader) l.fn.inbox l.inbox;
  texts : WritesTexts (g.W.Sink.written l.fn.writer) (g.W.Sink.written l.writer) None;
  setting : KeepsSetting g.S.Store l.fn.intake l.intake;
  goes : IsTransition g.S.Store l.fn.intake l.intake (λ old_style now after. (before : List Request) (first : Wire)
      → GoesOn (keeping (limit_of l.fn.intake) old_style before now) first
      (wire g.R.Source g.W.Sink l.fn.reader l.fn.writer) l.fn.inbox l.fn.marks.items
      → GoesOn (keeping (limit_of l.fn.intake) old_style before after) first
      (wire g.R.Source g.W.Sink l.reader l.writer) l.inbox l.marks.items);
}

abbrev pub decreases-arrivals : goal.decreases-arrivals
decreases-arrivals g l = 2 ^ 63 - vec_len l.marks
