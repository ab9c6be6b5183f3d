-- A connection that is stopped at an arrival.
use Rattle.std.proofs.Common.{◌≡◌, ℕ, suc, ◌+◌, false, List, [], ◌∷◌, ◌++◌, length, take, map, Option, Some, None, refl}
use Rattle.std.proofs.Common.{sym, ap, ◌∙◌, subst, arith}
use Rattle.std.proofs.lemmas.Bool.Decides.{nat_tests}
use Rattle.std.proofs.lemmas.Grind.{common_steps}
use Rattle.std.proofs.lemmas.List.{length-append, length-map}
use Rattle.std.specs.Io.KnownBytes.{Consumes, Appends}
use Rattle.http_messages.specs.Message.{Arrival, Read, Ending}
use Rattle.http_wire.specs.Wire.{Wire}
use Rattle.http_messages.specs.Request.{Request as Message}
use Rattle.filing_model.specs.declared.served.Ended.{Ended}
use Rattle.filing_model.specs.declared.served.Mark.{Mark}
use Rattle.filing_model.specs.Request.{Request}
use Rattle.filing_model.specs.Serving.{Keeping, kept_by, BeginsArrivals}
use Rattle.filing_model.specs.Stopping.{Crash, No, Before, After, ComeBefore, IsStopAt, marked, answered}
use Rattle.filing_model.specs.Text.{text_with, MarksFit, completed, completed_at, interim_of}
use Rattle.filing_model.proofs.Lists.{append_nil}
use Rattle.gateway_server.specs.declared.serving.Turn.{Turn}
use Rattle.gateway_server.specs.declared.serving.Turn.TheVariants.{On, Stopped, Ended as Ends}
use Rattle.gateway_server.specs.Answered.{IsMarked}
use Rattle.gateway_server.specs.Progress.{HasServed, ServesConnection}
use Rattle.gateway_server.specs.Stopping.{IsBefore, IsAfter, IsStoppedAfter, IsCountAtStop, IsCountAt, StopsConnection}
use Rattle.gateway_server.specs.Stopping.{StopsOrEnds, ServesConnectionUntil, IsCountUntil}
use Rattle.gateway_server.proofs.Arrivals.{marked-one, completed-one}
use Rattle.gateway_server.proofs.Progress.{MayBegin, begins-after, begins-last, marked_on, written_on, kept_on}

-- ---- how many marks there are

-- one more than before, where it is stopped neither before nor after it
come-next : (crash : Crash) (count : ℕ) → ComeBefore crash count → ¬ (IsBefore crash (count + 1))
    → ¬ (IsAfter crash (count + 1)) → ComeBefore crash (count + 1)
come-next No count come before after = tt
come-next (Before j) count come before after = omega (arith, come, before)
come-next (After j) count come before after = omega (arith, come, after)

-- it is stopped after the last
IsCountAtStop-after : (crash : Crash) (count : ℕ) → IsAfter crash count → IsCountAtStop crash count
IsCountAtStop-after No count here = here
IsCountAtStop-after (Before j) count here = absurd here
IsCountAtStop-after (After j) count here = here

-- one more is marked, and it isn't stopped before it
pub IsCountAt-next : (crash : Crash) (count new : ℕ) (turn : Turn) → ComeBefore crash count
    → ¬ (IsBefore crash (count + 1)) → IsStoppedAfter crash (count + 1) turn → new ≡ count + 1
    → IsCountAt crash new turn
IsCountAt-next crash count new On come before stops e =
    subst (ComeBefore crash) (sym e) (come-next crash count come before stops)
IsCountAt-next crash count new Stopped come before stops e =
    IsCountAtStop-after crash new (subst (IsAfter crash) (sym e) stops)
IsCountAt-next crash count new (Ends ended) come before stops e =
    subst (ComeBefore crash) (sym e) (come-next crash count come before stops)

pub ComeBefore-none : (crash : Crash) → ComeBefore crash 0
ComeBefore-none No = tt
ComeBefore-none (Before j) = omega arith
ComeBefore-none (After j) = omega arith

-- ---- one arrival

at-before : (crash : Crash) (count : ℕ) → IsBefore crash (count + 1)
    → IsStopAt crash (suc count) × (count ≡ marked crash (suc count))
at-before No count here = absurd here
at-before (Before j) count here = (omega (arith, here), grind (arith, nat_tests, here))
at-before (After j) count here = absurd here

at-after : (crash : Crash) (count : ℕ) → IsAfter crash (count + 1)
    → IsStopAt crash (suc count) × (suc count ≡ marked crash (suc count))
at-after No count here = absurd here
at-after (Before j) count here = absurd here
at-after (After j) count here = (omega (arith, here), omega (arith, here))

length-arrivals : (messages : List Message) (arrival : Arrival)
    → length (map Read messages ++ arrival ∷ []) ≡ suc (length messages)
length-arrivals [] arrival = refl
length-arrivals (message ∷ messages) arrival = ap suc (length-arrivals messages arrival)

-- a stop lets the arrivals before it be answered
answered-at : (crash : Crash) (n : ℕ) → IsStopAt crash (suc n) → answered crash (suc n) ≡ n
answered-at No n here = absurd here
answered-at (Before j) n here = grind (arith, nat_tests, here)
answered-at (After j) n here = grind (arith, nat_tests, here)

-- marks fit the first of more arrivals
fit-more : (limit : ℕ) (requests : List Request) (arrivals more : List Arrival) (marks : List Mark)
    → MarksFit limit requests arrivals marks → MarksFit limit requests (arrivals ++ more) marks
unfolding MarksFit
fit-more limit requests arrivals more [] fit = tt
fit-more limit requests [] more (mark ∷ marks) fit = absurd fit
fit-more limit requests (arrival ∷ arrivals) more (mark ∷ marks) fit =
    (fit.0, fit-more limit (requests ++ completed_at arrival mark) arrivals more marks fit.1)

take-first : (marks : List Mark) (mark : Mark) (n : ℕ) → length marks ≡ n → take n (marks ++ mark ∷ []) ≡ marks
take-first marks mark n all = grind (arith, common_steps, all)

take-whole : (marks : List Mark) (n : ℕ) → length marks ≡ n → take n marks ≡ marks
take-whole marks n all = grind (arith, common_steps, all)

module _ (requests : Keeping) (first last : Wire) (got sent rest : List ℕ) (marks : List Mark) (arrival : Arrival)
    (read : Consumes first.left last.left got) (wrote : Appends first.written last.written (sent ++ interim_of arrival))
    (h : HasServed requests got rest marks sent) (begins : MayBegin rest (arrival ∷ [])) (crash : Crash) where
  count : length marks ≡ length h.messages
  count = h.marked.all ∙ length-map h.messages (λ m. Read m)

  -- the arrivals up to it
  abbrev up_to : List Arrival
  up_to = map Read h.messages ++ arrival ∷ []

  up_to-begins : BeginsArrivals got up_to Ending.Closed
  up_to-begins =
      begins-after got h.messages rest (arrival ∷ []) Ending.Closed h.goes
      (begins-last rest (arrival ∷ []) false begins (λ no'. absurd (cc)))

  up_to-length : length up_to ≡ suc (length h.messages)
  up_to-length = length-arrivals h.messages arrival

  answered_up : IsStopAt crash (suc (length h.messages)) → answered crash (length up_to) ≡ length h.messages
  answered_up here = ap (answered crash) up_to-length ∙ answered-at crash (length h.messages) here

  written_up : sent ++ interim_of arrival ≡ text_with requests.old_style requests.before up_to Ending.Closed marks
  unfolding text_with
  written_up =
      subst (λ (ms : List Mark). sent ++ interim_of arrival
      ≡ text_with requests.old_style requests.before up_to Ending.Closed ms) (append_nil marks)
      (written_on requests got rest marks sent h (arrival ∷ []) Ending.Closed [])

  kept_up : requests.after ≡ kept_by requests.before (completed up_to marks)
  unfolding completed
  kept_up =
      subst (λ (ms : List Mark). requests.after ≡ kept_by requests.before (completed up_to ms)) (append_nil marks)
      (kept_on requests got rest marks sent h (arrival ∷ []) [])

  -- the arrival is known, and nothing was decided of it
  pub StopsConnection-before : IsBefore crash (length marks + 1) → StopsConnection requests first last crash marks
  StopsConnection-before stop =
      let at = at-before crash (length h.messages) (subst (λ n. IsBefore crash (n + 1)) count stop) in
      record {
        got = got;
        sent = sent ++ interim_of arrival;
        read = read;
        wrote = wrote;
        stopped = record {
          arrivals = up_to;
          begins = up_to-begins;
          here = subst (IsStopAt crash) (sym up_to-length) at.0;
          all = count ∙ at.1 ∙ ap (marked crash) (sym up_to-length);
          fit = fit-more requests.limit requests.before (map Read h.messages) (arrival ∷ []) marks h.marked.fit;
          written =
              written_up ∙ ap (text_with requests.old_style requests.before up_to Ending.Closed)
              (sym (ap (λ n. take n marks) (answered_up at.0) ∙ take-whole marks (length h.messages) count));
          kept = kept_up;
        };
      }

  -- it is marked, and nothing of its reply was written
  pub StopsConnection-after : (after : List Request) (new : List Mark) → IsAfter crash (length marks + 1)
      → IsMarked requests.limit requests.after after arrival marks new
      → StopsConnection (record requests { after = after }) first last crash new
  StopsConnection-after after new stop m =
      let more : length new ≡ suc (length h.messages) =
      omega (arith, ap length m.marks, length-append marks (m.mark ∷ []), count) in
      let at = at-after crash (length h.messages) (subst (λ n. IsAfter crash (n + 1)) count stop) in
      let fit =
      (marked_on requests got rest marks sent h (arrival ∷ []) (m.mark ∷ [])
      (marked-one requests.limit requests.after arrival m.mark m.fit)).fit in
      record {
        got = got;
        sent = sent ++ interim_of arrival;
        read = read;
        wrote = wrote;
        stopped = record {
          arrivals = up_to;
          begins = up_to-begins;
          here = subst (IsStopAt crash) (sym up_to-length) at.0;
          all = more ∙ at.1 ∙ ap (marked crash) (sym up_to-length);
          fit = subst (MarksFit requests.limit requests.before up_to) (sym m.marks) fit;
          written =
              written_up ∙ ap (text_with requests.old_style requests.before up_to Ending.Closed)
              (sym (ap (λ n. take n new) (answered_up at.0) ∙ ap (take (length h.messages)) m.marks
              ∙ take-first marks m.mark (length h.messages) count));
          kept = m.kept ∙ ap (kept_by requests.after) (sym (completed-one arrival m.mark))
              ∙ kept_on requests got rest marks sent h (arrival ∷ []) (m.mark ∷ [])
              ∙ ap (λ ms. kept_by requests.before (completed up_to ms)) (sym m.marks);
        };
      }

-- ---- the whole connection

-- it was stopped, or has ended before the arrival to stop at
pub ServesConnectionUntil-either : (requests : Keeping) (old new : Wire) (crash : Crash) (marks : List Mark)
    (ended : Option Ended) → IsCountUntil crash (length marks) ended → StopsOrEnds requests old new crash marks ended
    → ServesConnectionUntil requests old new crash marks ended
ServesConnectionUntil-either requests old new crash marks None count s = record {
  got = s.got;
  sent = s.sent;
  read = s.read;
  wrote = s.wrote;
  serves = s.stopped;
  at_end = λ e. absurd (cc);
  limited = λ e. absurd (cc);
  failed = λ n e. absurd (cc);
}
ServesConnectionUntil-either requests old new crash marks (Some ended) count s = record {
  got = s.got;
  sent = s.sent;
  read = s.read;
  wrote = s.wrote;
  serves = (s.serves, count);
  at_end = λ e. s.at_end (cc);
  limited = λ e. s.limited (cc);
  failed = λ n e. s.failed n (cc);
}

-- where it ended, it was served to its end
pub ServesConnection-ended : (requests : Keeping) (old new : Wire) (crash : Crash) (marks : List Mark) (ended : Ended)
    → ServesConnectionUntil requests old new crash marks (Some ended) → ServesConnection requests old new marks ended
ServesConnection-ended requests old new crash marks ended s = record {
  got = s.got;
  sent = s.sent;
  read = s.read;
  wrote = s.wrote;
  serves = s.serves.0;
  at_end = λ e. s.at_end (ap Some e);
  limited = λ e. s.limited (ap Some e);
  failed = λ n e. s.failed n (ap Some e);
}
