use Rattle.std.proofs.Common.{refl}
use Rattle.http_wire.proofs.ReceivedLemmas.{Receives-nil, no_answer}
use Rattle.http_wire.proofs.received.Received.read_more.Goals as goal

pub returns-then-self-eq-MAX_READS : goal.returns-then-self-eq-MAX_READS
returns-then-self-eq-MAX_READS g c = record {
  reads = record {
    receives = Receives-nil _ _;
    fine = tt;
    fault = (refl, c.if-self-eq-MAX_READS.true);
  };
  counted = λ same. absurd (no_answer refl same);
  end = λ same. absurd (no_answer refl same);
  same = refl;
}
