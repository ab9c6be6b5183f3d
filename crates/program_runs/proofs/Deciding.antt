-- A connection that is stopped before the request that is being decided, or after it was.
use Rattle.std.proofs.Common.{◌≡◌, ◌⊎◌, inl, inr, ℕ, suc, ◌+◌, ◌<◌, true, List, [], ◌∷◌, ◌++◌, length, take, refl, sym}
use Rattle.std.proofs.Common.{ap, ◌∙◌, arith}
use Rattle.std.proofs.lemmas.Bool.Decides.{nat_tests}
use Rattle.std.proofs.lemmas.Grind.{common_steps}
use Rattle.std.proofs.lemmas.List.{length-append}
use Rattle.sqlite_disk.specs.declared.Disk.{Ghosts}
use Rattle.sqlite_disk.specs.declared.Files.{Files}
use Rattle.http_messages.specs.Message.{Arrival, Read, Ending}
use Rattle.filing_model.specs.declared.served.Mark.{Mark}
use Rattle.filing_model.specs.declared.served.Mark.TheVariants.{Done}
use Rattle.filing_model.specs.Request.{Request, has_key, firsts}
use Rattle.filing_model.specs.Serving.{Keeping, kept_by}
use Rattle.filing_model.specs.Stopping.{Before, After, IsStopped, marked, answered}
use Rattle.filing_model.specs.Text.{Route, FileReport, route, RouteFits, MarksFit, requests_of_route, completed}
use Rattle.filing_model.specs.Text.{completed_at, text_with}
use Rattle.filing_model.proofs.Appending.{completed-append, AreMarked-append, firsts-kept_by, kept_by-append}
use Rattle.filing_model.proofs.Firsts.{has_key-firsts}
use Rattle.filing_model.proofs.Lists.{append_nil}
use Rattle.intake_core.specs.Held.{with_request}
use Rattle.program_runs.specs.Deciding.{IsDeciding, HasRoom, StopsAtRequest}
use Rattle.program_runs.specs.StoppedRegisters.{HoldEitherRegister}

-- marks fit the first of more arrivals
fit-more : (limit : ℕ) (requests : List Request) (arrivals more : List Arrival) (marks : List Mark)
    → MarksFit limit requests arrivals marks → MarksFit limit requests (arrivals ++ more) marks
unfolding MarksFit
fit-more limit requests arrivals more [] fit = tt
fit-more limit requests [] more (mark ∷ marks) fit = absurd fit
fit-more limit requests (arrival ∷ arrivals) more (mark ∷ marks) fit =
    (fit.0, fit-more limit (requests ++ completed_at arrival mark) arrivals more marks fit.1)

take-first : (marks more : List Mark) (n : ℕ) → length marks ≡ n → take n (marks ++ more) ≡ marks
take-first marks more n all = grind (arith, common_steps, all)

marked-before : (n : ℕ) → n ≡ marked (Before (suc n)) (suc n)
marked-before n = grind (arith, nat_tests)

marked-after : (n : ℕ) → suc n ≡ marked (After (suc n)) (suc n)
marked-after n = omega arith

answered-before : (n : ℕ) → answered (Before (suc n)) (suc n) ≡ n
answered-before n = grind (arith, nat_tests)

answered-after : (n : ℕ) → answered (After (suc n)) (suc n) ≡ n
answered-after n = grind (arith, nat_tests)

one-fits : (limit : ℕ) (requests : List Request) (to : Route) (r : Request) → to ≡ FileReport r
    → (has_key requests r ≡ true) ⊎ (length (firsts requests) < limit) → RouteFits limit requests to Done
one-fits limit requests to r asks room = rw asks room

one-completed : (to : Route) (r : Request) → to ≡ FileReport r → requests_of_route to Done ≡ r ∷ []
one-completed to r asks = rw asks refl

module _ (requests : Keeping) (bytes : List ℕ) (marks : List Mark) (out : List ℕ) (r : Request)
    (is : IsDeciding requests bytes marks out r) where
  abbrev last : Arrival
  last = Read is.message

  abbrev up_to : List Arrival
  up_to = is.arrivals ++ last ∷ []

  up_to-length : length up_to ≡ suc (length marks)
  up_to-length = omega (arith, length-append is.arrivals (last ∷ []), is.marked.all)

  written-up : (more : List Mark) (n : ℕ) → n ≡ length marks
      → out ≡ text_with requests.old_style requests.before up_to Ending.Closed (take n (marks ++ more))
  written-up more n all =
      is.written ∙ ap (text_with requests.old_style requests.before up_to Ending.Closed)
      (sym (take-first marks more n (sym all)))

  kept-before : requests.after ≡ kept_by requests.before (completed up_to marks)
  unfolding completed
  kept-before =
      let same : completed up_to (marks ++ []) ≡ completed is.arrivals marks ++ [] =
      completed-append is.arrivals marks (last ∷ []) [] is.marked.all in
      is.kept ∙ ap (kept_by requests.before) (sym (append_nil (completed is.arrivals marks)) ∙ sym same
      ∙ ap (completed up_to) (append_nil marks))

  next : suc (length marks) ≡ length marks + 1
  next = omega arith

  -- the request was not decided
  stopped_before : IsStopped requests bytes (Before (suc (length marks))) marks out
  stopped_before = record {
    arrivals = up_to;
    begins = is.begins;
    here = omega (arith, up_to-length);
    all = marked-before (length marks) ∙ ap (marked (Before (suc (length marks)))) (sym up_to-length);
    fit = fit-more requests.limit requests.before is.arrivals (last ∷ []) marks is.marked.fit;
    written =
        written-up [] (answered (Before (suc (length marks))) (length up_to))
        (ap (answered (Before (suc (length marks)))) up_to-length ∙ answered-before (length marks))
        ∙ ap (λ ms. text_with requests.old_style requests.before up_to Ending.Closed
        (take (answered (Before (suc (length marks))) (length up_to)) ms)) (append_nil marks);
    kept = kept-before;
  }

  -- it was, and nothing of its reply was written
  module _ (once : firsts requests.after ≡ requests.after) (room : HasRoom requests.limit requests.after r) where
    all_completed : List Request
    all_completed = requests.before ++ completed is.arrivals marks

    after_is : requests.after ≡ firsts all_completed
    unfolding all_completed
    after_is = sym once ∙ ap firsts is.kept ∙ firsts-kept_by requests.before (completed is.arrivals marks)

    room-there : (has_key all_completed r ≡ true) ⊎ (length (firsts all_completed) < requests.limit)
    room-there = elim room [
      | inl has ↦ inl (sym (has_key-firsts all_completed r) ∙ ap (λ rs. has_key rs r) (sym after_is) ∙ has)
      | inr few ↦ inr (omega (arith, few, ap length after_is))
    ]

    fit-last : MarksFit requests.limit all_completed (last ∷ []) (Done ∷ [])
    unfolding MarksFit
    fit-last = (one-fits requests.limit all_completed (route is.message) r is.asks room-there, tt)

    completed-last : completed (last ∷ []) (Done ∷ []) ≡ r ∷ []
    unfolding completed
    completed-last = ap (λ rs. rs ++ []) (one-completed (route is.message) r is.asks)

    kept-after : firsts (requests.after ++ r ∷ []) ≡ kept_by requests.before (completed up_to (marks ++ Done ∷ []))
    kept-after =
        ap (λ rs. kept_by rs (r ∷ [])) is.kept ∙ kept_by-append requests.before (completed is.arrivals marks) (r ∷ [])
        ∙ ap (kept_by requests.before) (sym (completed-append is.arrivals marks (last ∷ []) (Done ∷ []) is.marked.all
        ∙ ap (λ rs. completed is.arrivals marks ++ rs) completed-last))

    stopped_after : IsStopped (record requests { after = firsts (requests.after ++ r ∷ []) }) bytes
        (After (suc (length marks))) (marks ++ Done ∷ []) out
    unfolding all_completed
    stopped_after = record {
      arrivals = up_to;
      begins = is.begins;
      here = omega (arith, up_to-length);
      all = omega (arith, length-append marks (Done ∷ [])) ∙ marked-after (length marks)
          ∙ ap (marked (After (suc (length marks)))) (sym up_to-length);
      fit = (AreMarked-append requests.limit requests.before is.arrivals marks (last ∷ []) (Done ∷ []) is.marked
          (record { all = refl; fit = fit-last })).fit;
      written =
          written-up (Done ∷ []) (answered (After (suc (length marks))) (length up_to))
          (ap (answered (After (suc (length marks)))) up_to-length ∙ answered-after (length marks));
      kept = kept-after;
    }

    -- whichever of both registers the files hold
    pub stops_at_request : {D : Type 0} (g : Ghosts D) (files : Files D) (old_style : ℕ)
        → HoldEitherRegister g files old_style requests.after (with_request requests.after r)
        → StopsAtRequest g files old_style requests bytes marks out r
    stops_at_request g files old_style (inl held) = inl (record { stopped = rw (sym next) stopped_before; held = held })
    stops_at_request g files old_style (inr held) = inr (record { stopped = rw (sym next) stopped_after; held = held })
