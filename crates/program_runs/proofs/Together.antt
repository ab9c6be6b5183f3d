-- Programs that run beside each other.
use Rattle.std.proofs.Common.{◌≡◌, ◌≢◌, ◌∙◌, ℕ, true, false, List, [], ◌∷◌, ◌++◌}
use Rattle.std.proofs.Common.{Option, Some, None, refl, sym, ap, subst, ⊎_elim, arith}
use Rattle.std.specs.Prelude.{◌==◌}
use Rattle.std.proofs.Math.Dec.{eqb}
use Rattle.std.proofs.lemmas.Bool.Decides.{nat_tests, eqb_tells}
use Rattle.filing_model.specs.Request.{Request}
use Rattle.filing_model.specs.Serving.{keeping}
use Rattle.filing_world.specs.World.{numbered}
use Rattle.filing_model.specs.Stopping.{IsStopped}
use Rattle.outbox_tables.specs.Entries.{Contents}
use Rattle.programs.specs.Happenings.{Situation, Stranger, Serving, Killing, TurningAway}
use Rattle.programs.specs.Fronts.{Direct}
use Rattle.program_runs.specs.Deeds.{Deed, AreDone}
use Rattle.program_runs.specs.Beside.{Act, OfOutbox, OfIntake, OfStranger, deeds_of, services_of, Network, network_of}
use Rattle.program_runs.specs.Beside.{AreCarried, DoTogether, TogetherHappen, InTurn}
use Rattle.program_runs.specs.Beside.{Answered, Away, Killed}
use Rattle.program_runs.proofs.Happens.{deed_happens, renewed_here, renewed_there}

same_eq : (n : ℕ) → (n == n) ≡ true
same_eq n = grind (arith, nat_tests)

other_eq : (n m : ℕ) → (n ≡ m → ⊥) → (n == m) ≡ false
other_eq n m other = ⊎_elim
    (λ (is : (eqb n m ≡ true) × (n ≡ m)). absurd (other is.1))
    (λ (is : (eqb n m ≡ false) × (n ≢ m)). is.0)
    (eqb_tells n m)

deeds_here : (n : ℕ) (deed : Deed) (acts : List Act) → deeds_of n (OfOutbox n deed ∷ acts) ≡ deed ∷ deeds_of n acts
deeds_here n deed acts = rw (same_eq n) refl

deeds_there : (n m : ℕ) (deed : Deed) (acts : List Act) → (n ≡ m → ⊥)
    → deeds_of m (OfOutbox n deed ∷ acts) ≡ deeds_of m acts
deeds_there n m deed acts other = rw (other_eq n m other) refl

module _ (limit : ℕ) (last : ℕ → Contents) (after : List Request) where
  abbrev Later : List Act → Type 0
  Later acts = (mid : Situation) → DoTogether limit mid acts last after → AreCarried (network_of mid) acts
      → TogetherHappen limit mid last after

  -- a deed, and what comes after it
  of_outbox : (old : Situation) (n : ℕ) (deed : Deed) (acts : List Act) (it : Contents)
      → numbered old.outboxes n ≡ Some it → DoTogether limit old (OfOutbox n deed ∷ acts) last after
      → AreCarried (network_of old) (OfOutbox n deed ∷ acts) → Later acts → TogetherHappen limit old last after
  of_outbox old n deed acts it here doing carried later =
      let done : AreDone it (deed ∷ deeds_of n acts) (last n) =
      subst (λ (ds : List Deed). AreDone it ds (last n)) (deeds_here n deed acts) (doing.outboxes n it here) in
      let between = done.0 in
      let h = deed_happens limit old n it between deed here done.1 carried.0 in
      let now : numbered h.new.outboxes n ≡ Some between =
      ap (λ boxes. numbered boxes n) h.outboxes ∙ renewed_here old.outboxes n between it here in
      let there : (m : ℕ) → (n ≡ m → ⊥) → numbered h.new.outboxes m ≡ numbered old.outboxes m =
      λ m other. ap (λ boxes. numbered boxes m) h.outboxes ∙ renewed_there old.outboxes n m between other in
      let next : DoTogether limit h.new acts last after = record {
        outboxes = λ m x is. ⊎_elim
            (λ (t : (eqb n m ≡ true) × (n ≡ m)).
            let x_is : Some between ≡ Some x = sym now ∙ ap (numbered h.new.outboxes) t.1 ∙ is in
            let one : between ≡ x = (cc) in
            subst (λ (k : ℕ). AreDone x (deeds_of k acts) (last k)) t.1
            (subst (λ (c : Contents). AreDone c (deeds_of n acts) (last n)) one done.2))
            (λ (t : (eqb n m ≡ false) × (n ≢ m)).
            subst (λ (ds : List Deed). AreDone x ds (last m)) (deeds_there n m deed acts t.1)
            (doing.outboxes m x (sym (there m t.1) ∙ is)))
            (eqb_tells n m);
        none = λ m is. ⊎_elim
            (λ (t : (eqb n m ≡ true) × (n ≡ m)).
            let no : Some between ≡ None = sym now ∙ ap (numbered h.new.outboxes) t.1 ∙ is in
            absurd (cc))
            (λ (t : (eqb n m ≡ false) × (n ≢ m)).
            sym (deeds_there n m deed acts t.1) ∙ doing.none m (sym (there m t.1) ∙ is))
            (eqb_tells n m);
        in_turn = subst (λ (rs : List Request). InTurn limit rs (services_of acts) after) (sym h.requests)
            doing.in_turn;
      } in
      let rest = later h.new next (subst (λ (w : Network). AreCarried w acts) (sym h.network) carried.1) in
      record {
        passings = h.passing ∷ rest.passings;
        new = rest.new;
        happen = (h.new, h.passes, rest.happen);
        requests = rest.requests;
        outboxes = λ m x is. ⊎_elim {C = numbered rest.new.outboxes m ≡ Some (last m)}
            (λ (t : (eqb n m ≡ true) × (n ≡ m)).
            subst (λ (k : ℕ). numbered rest.new.outboxes k ≡ Some (last k)) t.1 (rest.outboxes n between now))
            (λ (t : (eqb n m ≡ false) × (n ≢ m)). rest.outboxes m x (there m t.1 ∙ is))
            (eqb_tells n m);
        none = λ m gone. ⊎_elim {C = numbered rest.new.outboxes m ≡ None}
            (λ (t : (eqb n m ≡ true) × (n ≡ m)).
            let off : Some it ≡ None = sym here ∙ ap (numbered old.outboxes) t.1 ∙ gone in
            absurd {A = numbered rest.new.outboxes m ≡ None} (cc))
            (λ (t : (eqb n m ≡ false) × (n ≢ m)). rest.none m (there m t.1 ∙ gone))
            (eqb_tells n m);
      }

  -- an outbox that is not there did nothing
  not_there : (old : Situation) (n : ℕ) (deed : Deed) (acts : List Act) → numbered old.outboxes n ≡ None
      → DoTogether limit old (OfOutbox n deed ∷ acts) last after → ⊥
  not_there old n deed acts gone doing =
      let no : deed ∷ deeds_of n acts ≡ [] = sym (deeds_here n deed acts) ∙ doing.none n gone in
      absurd (cc)

  found : (old : Situation) (n : ℕ) (deed : Deed) (acts : List Act) (o : Option Contents)
      → numbered old.outboxes n ≡ o → DoTogether limit old (OfOutbox n deed ∷ acts) last after
      → AreCarried (network_of old) (OfOutbox n deed ∷ acts) → Later acts → TogetherHappen limit old last after
  found old n deed acts None here doing carried later = absurd (not_there old n deed acts here doing)
  found old n deed acts (Some it) here doing carried later = of_outbox old n deed acts it here doing carried later

  pub together : (acts : List Act) → Later acts
  together [] = λ old doing carried. record {
    passings = [];
    new = old;
    happen = refl;
    requests = sym doing.in_turn;
    outboxes = λ n it here. here ∙ ap (λ (c : Contents). Some c) (sym (doing.outboxes n it here));
    none = λ n gone. gone;
  }
  together (OfOutbox n deed ∷ acts) = λ old doing carried.
      found old n deed acts (numbered old.outboxes n) refl doing carried (together acts)
  together (OfStranger written ∷ acts) = λ old doing carried.
      let mid : Situation = record old { sent = old.sent ++ record { from = None; bytes = written } ∷ [] } in
      let rest =
      together acts mid (record { outboxes = doing.outboxes; none = doing.none; in_turn = doing.in_turn }) carried.1 in
      record {
        passings = Direct (Stranger written) ∷ rest.passings;
        new = rest.new;
        happen = (mid, refl, rest.happen);
        requests = rest.requests;
        outboxes = rest.outboxes;
        none = rest.none;
      }
  together (OfIntake d (Answered c) ∷ acts) = λ old doing carried.
      let is = doing.in_turn in
      let mid : Situation =
      record old {
        requests = is.1;
        answers = old.answers ++ record { item = d.item; bytes = c.output.bytes } ∷ [];
      } in
      let rest =
      together acts mid (record { outboxes = doing.outboxes; none = doing.none; in_turn = is.4 }) carried.1 in
      record {
        passings = Direct (Serving d c) ∷ rest.passings;
        new = rest.new;
        happen = (
          mid,
          record { came = carried.0; keys = is.0; few = is.2; serves = is.3; becomes = refl },
          rest.happen,
        );
        requests = rest.requests;
        outboxes = rest.outboxes;
        none = rest.none;
      }
  together (OfIntake d (Killed read crash marks written) ∷ acts) = λ old doing carried.
      let mid : Situation =
      record old {
        requests = doing.in_turn.1;
        answers = old.answers ++ record { item = d.item; bytes = written } ∷ [];
      } in
      let came = carried.0 in
      let rest =
      together acts mid (record { outboxes = doing.outboxes; none = doing.none; in_turn = doing.in_turn.4 })
      carried.1 in
      record {
        passings = Direct (Killing d crash marks written) ∷ rest.passings;
        new = rest.new;
        happen = (
          mid,
          record {
            from = came.0;
            here = came.1;
            keys = doing.in_turn.0;
            within = doing.in_turn.2;
            stopped = subst (λ bytes. IsStopped (keeping doing.in_turn.0 [] old.requests doing.in_turn.1) bytes crash
                marks written) came.2 doing.in_turn.3;
            becomes = refl;
          },
          rest.happen,
        );
        requests = rest.requests;
        outboxes = rest.outboxes;
        none = rest.none;
      }
  together (OfIntake d (Away c) ∷ acts) = λ old doing carried.
      let mid : Situation =
      record old { refusals = old.refusals ++ record { item = d.item; bytes = c.output.bytes } ∷ [] } in
      let rest =
      together acts mid (record { outboxes = doing.outboxes; none = doing.none; in_turn = doing.in_turn.1 })
      carried.1 in
      record {
        passings = Direct (TurningAway d c) ∷ rest.passings;
        new = rest.new;
        happen = (mid, record { came = carried.0; turned = doing.in_turn.0; becomes = refl }, rest.happen);
        requests = rest.requests;
        outboxes = rest.outboxes;
        none = rest.none;
      }
