-- What was neither stopped nor ended by a fault has answered every arrival.
use Rattle.std.proofs.Common.{◌≡◌, ◌≢◌, ◌≤◌, ℕ, List, length, take, Some, refl, sym, ap, ◌∙◌, ⊎_elim, arith}
use Rattle.std.proofs.lemmas.Bool.Decides.{nat_tests}
use Rattle.http_messages.specs.declared.refusal.ConnFault.{ConnFault}
use Rattle.http_messages.specs.declared.refusal.ConnFault.TheVariants.{ReadLimit, Memory}
use Rattle.http_messages.specs.Message.{Arrival, Ending}
use Rattle.http_messages.specs.Reads.{max_reads}
use Rattle.filing_model.specs.declared.served.Mark.{Mark}
use Rattle.filing_model.specs.declared.served.Ended.{Ended}
use Rattle.filing_model.specs.declared.served.Ended.TheVariants.{Fault}
use Rattle.filing_model.specs.Request.{Request}
use Rattle.filing_model.specs.Laws.{IsAnswered}
use Rattle.filing_model.specs.Serving.{end_of}
use Rattle.filing_model.specs.Stopping.{Crash, No, Before, After, marked, answered, ended_by, IsWhole, IsCut}
use Rattle.filing_model.specs.Stopping.{ServesUntil}
use Rattle.filing_model.specs.Text.{text}
use Rattle.filing_model.proofs.Lists.{take_all}

-- what ended by itself had all its arrivals before the one to stop at
record IsUnstopped (crash : Crash) (n : ℕ) (ending : Ending) (ended : Ended) : Type 0 where
  marked_all : marked crash n ≡ n
  answered_all : answered crash n ≡ n
  end : ended ≡ end_of ending

unstopped : (crash : Crash) (n : ℕ) (ending : Ending) (ended : Ended) → Some ended ≡ ended_by crash n ending
    → IsUnstopped crash n ending ended
unstopped No n ending ended e = record { marked_all = refl; answered_all = refl; end = cc }
unstopped (Before j) n ending ended e =
    record {
      marked_all = grind (arith, nat_tests, e);
      answered_all = grind (arith, nat_tests, e);
      end =
          grind (arith, nat_tests, e);
    }
unstopped (After j) n ending ended e =
    record {
      marked_all = grind (arith, nat_tests, e);
      answered_all = grind (arith, nat_tests, e);
      end =
          grind (arith, nat_tests, e);
    }

pub answered_all : (limit : ℕ) (done : List Request) (bytes : List ℕ) (crash : Crash) (arrivals : List Arrival)
    (marks : List Mark) (ended : Ended) (out : List ℕ)
    → ServesUntil limit done bytes crash arrivals marks (Some ended) out → ((fault : ConnFault) → ended ≢ Fault fault)
    → IsAnswered done bytes arrivals marks ended out
answered_all limit done bytes crash arrivals marks ended out serves none =
    ⊎_elim whole (λ c. absurd (cut c)) serves.gives
  where
    whole : IsWhole done bytes crash arrivals serves.ending marks (Some ended) out
        → IsAnswered done bytes arrivals marks ended out
    whole w =
        let all = unstopped crash (length arrivals) serves.ending ended w.end in
        let count : length marks ≡ length arrivals = w.all ∙ all.marked_all in
        record {
          ending = serves.ending;
          splits = w.splits;
          all = count;
          written =
              w.written ∙ ap (λ ms. text done arrivals serves.ending ms)
              (ap (λ n. take n marks) (all.answered_all ∙ sym count) ∙ take_all marks);
          end = all.end;
        }

    cut : IsCut done bytes crash arrivals serves.ending marks (Some ended) out → ⊥
    cut c = ⊎_elim
        (λ (e : Some ended ≡ Some (Fault Memory)). none Memory (cc))
        (λ (e : (max_reads ≤ length bytes) × (Some ended ≡ Some (Fault ReadLimit))). none ReadLimit (let f = e.1 in cc))
        c.fault
