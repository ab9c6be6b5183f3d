-- A connection that is turned away.
use Rattle.std.proofs.Common.{◌≡◌, ℕ, zero, suc, ◌≤◌, true, true≢false, List, [], ◌∷◌, ◌++◌, length, take, drop, Option}
use Rattle.std.proofs.Common.{Some, Result, Ok, Err, OnOk, IfErr, refl, sym, ap, ◌∙◌, subst, inl, inr, arith}
use Rattle.std.proofs.KnownBytes.{Appends-nil, Appends-trans, Consumes-nil}
use Rattle.std.specs.Io.KnownBytes.{Consumes, Appends}
use Rattle.http_messages.specs.declared.refusal.ConnFault.{ConnFault}
use Rattle.http_messages.specs.declared.refusal.ConnFault.TheVariants as fault
use Rattle.http_messages.specs.Message.{Arrival, Ending}
use Rattle.http_messages.specs.Reads.{max_reads}
use Rattle.http_messages.specs.Reply.{render}
use Rattle.http_wire.specs.Calls.{WritesAsked, WritesUpTo, IsFault}
use Rattle.http_wire.specs.Device.{HasFailed}
use Rattle.http_wire.specs.Inbox.{IsNew, IsNext, WritesInterim, ReadsOn, held, unread, lent_len, reads, is_over, got}
use Rattle.http_wire.specs.Wire.{Wire, NoneFailed}
use Rattle.http_wire.specs.declared.inbox.Inbox.{Inbox}
use Rattle.http_wire.specs.declared.inbox.Next.TheVariants.{End}
use Rattle.filing_model.specs.declared.served.Ended.TheVariants.{InputEnded, Fault}
use Rattle.filing_model.specs.Serving.{BeginsArrivals}
use Rattle.filing_model.specs.Text.{interim_of}
use Rattle.gateway_server.specs.Answered.{WritesText, IsReplyFault}
use Rattle.gateway_server.specs.Progress.{IsEndedBy, IsEndedByFault}
use Rattle.gateway_server.specs.declared.serving.Served.{Served}
use Rattle.gateway_rounds.specs.Away.{away_reply, away_mark}
use Rattle.intake_process.specs.Turning.{end_by, IsUnanswered, AnswersAway, IsTurnedAway}
use Rattle.intake_process.specs.Turning.{TurnsAway}

-- ---- what is written

-- a reply behind what leads it
wrote : (a b c : Option (List ℕ)) (lead text : List ℕ) (sent : Result (Unit {0}) ConnFault) → Appends a b lead
    → WritesText b c text sent → (out : List ℕ) × Appends a c out × WritesText (Some lead) (Some out) text sent
wrote a b c lead text (Ok done) first second = (lead ++ text, Appends-trans a b c lead text first second, refl)
wrote a b c lead text (Err fault.Read) first second = absurd second
wrote a b c lead text (Err (fault.Write n)) first second =
    (lead ++ take n text, Appends-trans a b c lead (take n text) first second.1, (second.0, refl))
wrote a b c lead text (Err fault.ReadLimit) first second = absurd second
wrote a b c lead text (Err fault.Memory) first second = (lead ++ [], Appends-trans a b c lead [] first second, refl)

asked : (a b : Option (List ℕ)) (bytes : List ℕ) → WritesAsked a b bytes
    → (out : List ℕ) × Appends a b out × WritesAsked (Some []) (Some out) bytes
asked a b bytes w = (w.0, w.2, (w.0, w.1, refl))

-- the first bytes of an interim response
part : (a b : Option (List ℕ)) (bytes : List ℕ) (f : ConnFault) → WritesUpTo a b bytes f
    → (out : List ℕ) × Appends a b out × WritesUpTo (Some []) (Some out) bytes f
part a b bytes fault.Read w = asked a b bytes w
part a b bytes (fault.Write n) w = (_, w.2, (w.0, w.1, refl))
part a b bytes fault.ReadLimit w = asked a b bytes w
part a b bytes fault.Memory w = elim w [
  | inl some ↦ let it = asked a b bytes some in (it.0, it.1, inl it.2)
  | inr none ↦ ([], none, inr refl)
]

limit_never : (a b : Option (List ℕ)) (text : List ℕ) (sent : Result (Unit {0}) ConnFault) → WritesText a b text sent
    → end_by sent ≡ Fault fault.ReadLimit → ⊥
limit_never a b text (Ok done) w e = cc
limit_never a b text (Err fault.Read) w e = w
limit_never a b text (Err (fault.Write n)) w e = cc
limit_never a b text (Err fault.ReadLimit) w e = w
limit_never a b text (Err fault.Memory) w e = cc

input_never : (sent : Result (Unit {0}) ConnFault) → end_by sent ≡ InputEnded → ⊥
input_never (Ok done) e = cc
input_never (Err f) e = cc

-- ---- what is read

drop_none : (n : ℕ) → drop {A = ℕ} n [] ≡ []
drop_none zero = refl
drop_none (suc n) = refl

abbrev shown : Option (List ℕ) → Option (List ℕ) → ℕ → ℕ → Wire
shown left written rf wf = record { left = left; written = written; read_failures = rf; write_failures = wf }

module _ (old new : Inbox) (is_new : IsNew old) (left left' written mid written' : Option (List ℕ))
    (rf rf' wf wm wf' : ℕ) where
  none_unread : unread old ≡ []
  none_unread = ap (drop (lent_len old)) is_new.empty ∙ drop_none (lent_len old)

  all_held : ReadsOn left left' old new → held new ≡ got old new
  all_held r = r.held_is ∙ ap (λ front. front ++ got old new) none_unread

  all_read : ReadsOn left left' old new → Consumes left left' (held new)
  all_read r = subst (Consumes left left') (sym (all_held r)) r.given

  each_read : ReadsOn left left' old new → reads new ≤ length (held new)
  each_read r = omega (arith, r.each, is_new.count, ap (λ (bytes : List ℕ). length bytes) (all_held r))

  fault_by : (f : ConnFault) (count : ℕ) (bytes : List ℕ)
      → IsFault (shown left written rf wf) (shown left' mid rf' wm) count bytes f
      → IsEndedByFault (shown left written rf wf) (shown left' mid rf' wm) f
  fault_by fault.Read count bytes is = is.0
  fault_by (fault.Write n) count bytes is = is
  fault_by fault.ReadLimit count bytes is = is.0
  fault_by fault.Memory count bytes is = is.0

  limited_by : (f : ConnFault) → IsFault (shown left written rf wf) (shown left' mid rf' wm) (reads new) (held new) f
      → ReadsOn left left' old new → Fault f ≡ Fault fault.ReadLimit → max_reads ≤ length (held new)
  limited_by fault.Read is r e = absurd (cc)
  limited_by (fault.Write n) is r e = absurd (cc)
  limited_by fault.ReadLimit is r e = omega (arith, each_read r, is.1)
  limited_by fault.Memory is r e = absurd (cc)

  -- a fault came first
  pub faulted : (f : ConnFault) (served : Served) → ReadsOn left left' old new → WritesUpTo written mid (held new) f
      → IsFault (shown left written rf wf) (shown left' mid rf' wm) (reads new) (held new) f
      → served.marks.items ≡ [] → served.ended ≡ Fault f
      → TurnsAway (shown left written rf wf) (shown left' mid rf' wm) served
  faulted f served r w is marks end =
      let out = part written mid (held new) f w in
      record {
        got = held new;
        sent = out.0;
        read = all_read r;
        wrote = out.1;
        turned = subst (λ ms. IsTurnedAway (held new) ms served.ended out.0) (sym marks)
            (subst (λ e. IsUnanswered (held new) e out.0) (sym end) out.2);
        at_end = λ e. absurd (let no : Fault f ≡ InputEnded = sym end ∙ e in cc);
        limited = λ e. limited_by f is r (sym end ∙ e);
        fault = subst (IsEndedBy (shown left written rf wf) (shown left' mid rf' wm)) (sym end)
            (fault_by f (reads new) (held new) is);
      }

  -- nothing arrived
  pub ended : (served : Served) → ReadsOn left left' old new → IsNext left' old new End
      → WritesInterim written mid old new End
      → NoneFailed (shown left written rf wf) (shown left' mid rf' wm)
      → served.marks.items ≡ [] → served.ended ≡ InputEnded
      → TurnsAway (shown left written rf wf) (shown left' mid rf' wm) served
  ended served r next w fine marks end =
      let open_before : is_over old ≡ true → ⊥ = λ over. true≢false (sym over ∙ is_new.more) in
      elim next.1 [
        | inl over ↦ absurd (open_before over)
        | inr rest ↦ elim w [
          | inl over ↦ absurd (open_before over.0)
          | inr some ↦
              let out = asked written mid (held new) some in
              record {
                got = held new;
                sent = out.0;
                read = all_read r;
                wrote = out.1;
                turned = subst (λ ms. IsTurnedAway (held new) ms served.ended out.0) (sym marks)
                    (subst (λ e. IsUnanswered (held new) e out.0) (sym end) (rest.0, out.2));
                at_end = λ _. rest.1;
                limited = λ e. absurd (let no : InputEnded ≡ Fault fault.ReadLimit = sym end ∙ e in cc);
                fault = subst (IsEndedBy (shown left written rf wf) (shown left' mid rf' wm)) (sym end) fine;
              }
        ]
      ]

  end_fault : (sent : Result (Unit {0}) ConnFault) → (rf' ≡ rf) × (wm ≡ wf) → OnOk sent (wf' ≡ wm)
      → IfErr sent (IsReplyFault wm wf')
      → IsEndedBy (shown left written rf wf) (shown left' written' rf' wf') (end_by sent)
  end_fault (Ok done) fine ok err = (fine.0, ok ∙ fine.1)
  end_fault (Err fault.Read) fine ok err = absurd err
  end_fault (Err (fault.Write n)) fine ok err = (fine.0, subst (λ before. HasFailed before wf') fine.1 err)
  end_fault (Err fault.ReadLimit) fine ok err = absurd err
  end_fault (Err fault.Memory) fine ok err = (fine.0, err ∙ fine.1)

  -- what arrived first was answered
  pub answered : (arrival : Arrival) (sent : Result (Unit {0}) ConnFault) (served : Served) → ReadsOn left left' old new
      → BeginsArrivals (held new) (arrival ∷ []) Ending.Closed → Appends written mid (interim_of arrival)
      → (rf' ≡ rf) × (wm ≡ wf) → WritesText mid written' (render (away_reply arrival) true) sent → OnOk sent (wf' ≡ wm)
      → IfErr sent (IsReplyFault wm wf')
      → served.marks.items ≡ away_mark arrival ∷ [] → served.ended ≡ end_by sent
      → TurnsAway (shown left written rf wf) (shown left' written' rf' wf') served
  answered arrival sent served r begins first fine text ok err marks end =
      let out = wrote written mid written' (interim_of arrival) (render (away_reply arrival) true) sent first text in
      let away : AnswersAway (held new) (away_mark arrival) served.ended out.0 =
      record { arrival = arrival; begins = begins; marked = refl; sent = sent; end = end; written = out.2 } in
      record {
        got = held new;
        sent = out.0;
        read = all_read r;
        wrote = out.1;
        turned = subst (λ ms. IsTurnedAway (held new) ms served.ended out.0) (sym marks) away;
        at_end = λ e. absurd (input_never sent (sym end ∙ e));
        limited = λ e. absurd (limit_never mid written' (render (away_reply arrival) true) sent text (sym end ∙ e));
        fault = subst (IsEndedBy (shown left written rf wf) (shown left' written' rf' wf')) (sym end)
            (end_fault sent fine ok err);
      }

-- there was no memory, and nothing was read
pub nothing : (wire : Wire) (served : Served) → served.marks.items ≡ [] → served.ended ≡ Fault fault.Memory
    → TurnsAway wire wire served
nothing wire served marks end = record {
  got = [];
  sent = [];
  read = Consumes-nil wire.left;
  wrote = Appends-nil wire.written;
  turned = subst (λ ms. IsTurnedAway [] ms served.ended []) (sym marks)
      (subst (λ e. IsUnanswered [] e []) (sym end) (inr refl));
  at_end = λ e. absurd (let no : Fault fault.Memory ≡ InputEnded = sym end ∙ e in cc);
  limited = λ e. absurd (let no : Fault fault.Memory ≡ Fault fault.ReadLimit = sym end ∙ e in cc);
  fault = subst (IsEndedBy wire wire) (sym end) (refl, refl);
}
