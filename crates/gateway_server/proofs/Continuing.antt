-- A connection that goes on by one arrival, or ends.
use Rattle.std.proofs.Common.{arith, ◌≡◌, ◌≢◌, ℕ, ◌≤◌, Bool, true, false, List, [], ◌∷◌, ◌++◌, take, drop, length}
use Rattle.std.proofs.Common.{Option, refl, sym, ap, ◌∙◌, subst, append_assoc, inl, inr}
use Rattle.std.proofs.KnownBytes.{Appends-nil, Appends-trans, Consumes-nil, Consumes-trans}
use Rattle.std.proofs.lemmas.List.{length-append}
use Rattle.std.specs.Io.KnownBytes.{Consumes, Appends, IsAtEnd}
use Rattle.http_wire.specs.declared.inbox.Inbox.{Inbox}
use Rattle.http_wire.specs.Wire.{Wire}
use Rattle.http_messages.specs.declared.refusal.ConnFault.{ConnFault}
use Rattle.http_messages.specs.declared.refusal.ConnFault.TheVariants.{Write, ReadLimit, Memory}
use Rattle.http_messages.specs.declared.refusal.ConnFault.TheVariants as fault
use Rattle.http_messages.specs.declared.refusal.Refusal.{Refusal}
use Rattle.http_wire.specs.Calls.{interim_if, WritesAsked, WritesUpTo, IsFault}
use Rattle.http_messages.specs.Head.{closes}
use Rattle.http_wire.specs.Inbox.{held, unread, lent_len, lent_awaits, got, ReadsOn, LendsFirst, IsNew, reads}
use Rattle.http_messages.specs.Message.{Read, Refused, Rest, Asks, IsRest, IsRefused, interim}
use Rattle.http_messages.specs.Reads.{max_reads}
use Rattle.http_messages.specs.Request.{Request as Message}
use Rattle.std.proofs.Math.Seq.{drop-nil}
use Rattle.filing_model.specs.declared.served.Ended.TheVariants.{Closed, InputEnded, Fault}
use Rattle.filing_model.specs.declared.served.Mark.{Mark}
use Rattle.filing_model.specs.Request.{Request}
use Rattle.filing_model.specs.Serving.{Keeping, keeping, IsServed, IsCutShort}
use Rattle.filing_model.specs.Text.{interim_of, reply_text_with, next_interim}
use Rattle.filing_model.proofs.Lists.{append_nil}
use Rattle.gateway_server.specs.Answered.{IsMarked}
use Rattle.gateway_server.specs.Progress.{with_written, HasServed, FailsWithin, GoesOn, HasMessage, HasRefusal}
use Rattle.gateway_server.specs.Progress.{ServesConnection}
use Rattle.gateway_server.proofs.Answering.{IsAnswered, IsPartly, IsUntouched}
use Rattle.gateway_server.proofs.Progress.{HasServed-none, HasServed-more, HasServed-end}
use Rattle.gateway_server.proofs.Arrivals.{served_last, served_push, served_part, served_read, served_asked}
use Rattle.gateway_server.proofs.Arrivals.{served_nothing, served_rest}

-- ---- the limit of reads

-- it is reached where the fault says so
pub is_limit : (from to : Wire) (count : ℕ) (bytes : List ℕ) (f : ConnFault) → IsFault from to count bytes f
    → f ≡ ReadLimit → count ≡ max_reads
is_limit from to count bytes fault.Read why e = absurd (cc)
is_limit from to count bytes (Write sent) why e = absurd (cc)
is_limit from to count bytes ReadLimit why e = why.1
is_limit from to count bytes Memory why e = absurd (cc)

-- ---- what was read

module _ (requests : Keeping) (first from to : Wire) (old new : Inbox) (marks : List Mark)
    (h : GoesOn requests first from old marks) (r : ReadsOn from.left to.left old new) where
  abbrev read_since : List ℕ
  read_since = h.got ++ got old new

  consumed : Consumes first.left to.left read_since
  consumed = Consumes-trans first.left from.left to.left h.got (got old new) h.read r.given

  served_held : HasServed requests read_since (held new) marks h.sent
  served_held =
      subst (λ (rest : List ℕ). HasServed requests read_since rest marks h.sent) (sym r.held_is)
      (HasServed-more requests h.got (unread old) (got old new) marks h.sent h.served)

  counted_since : reads new ≤ length read_since
  counted_since =
      subst (λ (n : ℕ). reads new ≤ n) (sym (length-append h.got (got old new))) (omega (arith, h.counted, r.each))

  wrote_more : (text : List ℕ) → Appends from.written to.written text
      → Appends first.written to.written (h.sent ++ text)
  wrote_more text w = Appends-trans first.written from.written to.written h.sent text h.wrote w

  -- a message came
  pub HasMessage-next : LendsFirst new → Appends from.written to.written (interim_if (lent_awaits new))
      → HasMessage requests first to new marks
  HasMessage-next lends w =
      record {
        got = read_since;
        sent = h.sent;
        read = consumed;
        counted = counted_since;
        wrote =
            wrote_more (interim_if (lent_awaits new)) w;
        served = served_held;
        lends = lends;
      }

  -- what is refused came
  pub HasRefusal-next : (refusal : Refusal) → IsRefused (held new) refusal → Appends from.written to.written []
      → HasRefusal requests first to new refusal marks
  HasRefusal-next refusal refused w =
      record {
        got = read_since;
        sent = h.sent;
        read = consumed;
        wrote =
            subst (Appends first.written to.written) (append_nil h.sent) (wrote_more [] w);
        served = served_held;
        refused =
            refused;
      }

  -- the input ended
  pub Serves-end : IsAtEnd to.left → IsRest (held new) → WritesAsked from.written to.written (held new)
      → ServesConnection requests first to marks InputEnded
  Serves-end ended rest (text, (asks, asked, e), w) = record {
    got = read_since;
    sent = h.sent ++ text;
    read = consumed;
    wrote = wrote_more text w;
    serves = subst (λ (t : List ℕ). IsServed requests read_since marks InputEnded (h.sent ++ t)) (by_asks asks
        ∙ sym e) (HasServed-end requests read_since (held new) marks h.sent served_held asks rest asked);
    at_end = λ _. ended;
    limited = λ e. absurd (cc);
    failed = λ n e. absurd (cc);
  }
    where
      by_asks : (b : Bool) → next_interim [] (Rest b) ≡ interim_if b
      by_asks true = refl
      by_asks false = refl

  -- all reads were made, where the fault says so
  abbrev Limited : ConnFault → Type 0
  Limited f = f ≡ ReadLimit → max_reads ≤ length read_since

  -- what was written is so much of a text as the fault says
  abbrev Told : ConnFault → List ℕ → Type 0
  Told f text = (n : ℕ) → f ≡ Write n → FailsWithin requests read_since marks (h.sent ++ text) n

  cut : (text : List ℕ) (f : ConnFault) → Limited f → Told f text → Appends from.written to.written text
      → IsCutShort requests read_since marks (h.sent ++ text) → ServesConnection requests first to marks (Fault f)
  cut text f limited told w c =
      record {
        got = read_since;
        sent = h.sent ++ text;
        read = consumed;
        wrote = wrote_more text w;
        serves = c;
        at_end =
            λ e. absurd (cc);
        limited = λ e. limited (cc);
        failed = λ n e. told n (cc);
      }

  cut_asked : (f : ConnFault) → Limited f → ((n : ℕ) → f ≢ Write n) → WritesAsked from.written to.written (held new)
      → ServesConnection requests first to marks (Fault f)
  cut_asked f limited other (text, (asks, asked, e), w) =
      cut text f limited (λ n is. absurd (other n is)) w
      (subst (λ (t : List ℕ). IsCutShort requests read_since marks (h.sent ++ t)) (sym e)
      (served_asked requests read_since (held new) marks h.sent served_held asks asked))

  -- the interim response was cut
  cut_interim : (sent : ℕ) → Asks (held new) true → sent ≤ length interim
      → FailsWithin requests read_since marks (h.sent ++ take sent interim) sent
  cut_interim sent asked within = record {
    rest = held new;
    done = marks;
    before = h.sent;
    now = requests.after;
    served = served_held;
    more = [];
    lead = [];
    text = interim;
    next = (asked, refl, refl);
    marked = sym (append_nil marks);
    within = within;
    written = refl;
  }

  -- a fault came
  pub Serves-fault : (f : ConnFault) → (f ≡ ReadLimit → reads new ≡ max_reads)
      → WritesUpTo from.written to.written (held new) f → ServesConnection requests first to marks (Fault f)
  Serves-fault fault.Read all w = cut_asked fault.Read (λ e. absurd (cc)) (λ n is. absurd (cc)) w
  Serves-fault (Write sent) all w =
      cut (take sent interim) (Write sent) (λ e. absurd (cc)) (λ n is. let same : sent ≡ n = cc in
      subst (FailsWithin requests read_since marks (h.sent ++ take sent interim)) same (cut_interim sent w.0 w.1)) w.2
      (served_rest requests read_since (held new) marks h.sent served_held sent (λ _. w.0))
  Serves-fault ReadLimit all w =
      cut_asked ReadLimit (λ e. subst (λ (n : ℕ). n ≤ length read_since) (all refl) counted_since) (λ n is. absurd (cc))
      w
  Serves-fault Memory all (inl w) = cut_asked Memory (λ e. absurd (cc)) (λ n is. absurd (cc)) w
  Serves-fault Memory all (inr w) =
      cut [] Memory (λ e. absurd (cc)) (λ n is. absurd (cc)) w
      (served_nothing requests read_since (held new) marks h.sent served_held)

-- ---- what was answered

-- an arrival that was answered, after an interim response
module _ (requests : Keeping) (first beside : Wire) (written : Option (List ℕ)) (inbox : Inbox) (marks : List Mark)
    (h : HasMessage requests first (with_written beside written) inbox marks) where
  abbrev lent : Message
  lent = h.lends.request

  same_interim : interim_if (lent_awaits inbox) ≡ interim_of (Read lent)
  same_interim = rw h.lends.lent refl

  wrote_after : (written' : Option (List ℕ)) (text : List ℕ) → Appends written written' text
      → Appends first.written written' (h.sent ++ (interim_of (Read lent) ++ text))
  wrote_after written' text w =
      subst (Appends first.written written') (append_assoc h.sent (interim_if (lent_awaits inbox)) text
      ∙ ap (λ i. h.sent ++ (i ++ text)) same_interim)
      (Appends-trans first.written written written' (h.sent ++ interim_if (lent_awaits inbox)) text h.wrote w)

  -- the message was answered, and the connection closes
  pub Serves-closed : (after : List Request) (new : List Mark) (written' : Option (List ℕ)) → closes lent.head ≡ true
      → IsAnswered requests.limit requests.old_style requests.after after (Read lent) marks new written written'
      → ServesConnection (record requests { after = after }) first (with_written beside written') new Closed
  Serves-closed after new written' closed a = record {
    got = h.got;
    sent = h.sent ++ (interim_of (Read lent) ++ reply_text_with requests.old_style requests.after (Read lent)
        a.marked.mark);
    read = h.read;
    wrote = wrote_after written' (reply_text_with requests.old_style requests.after (Read lent) a.marked.mark)
        a.written;
    serves = subst (λ (ms : List Mark). IsServed (record requests { after = after }) h.got ms Closed
        (h.sent ++ (interim_of (Read lent) ++ reply_text_with requests.old_style requests.after (Read lent)
        a.marked.mark))) (sym a.marked.marks)
        (served_last requests h.got (held inbox) marks h.sent h.served (Read lent) (
          (lent_len inbox, h.lends.begins),
          refl,
        ) a.marked.mark after closed a.marked.fit a.marked.kept);
    at_end = λ e. absurd (cc);
    limited = λ e. absurd (cc);
    failed = λ n e. absurd (cc);
  }

  -- the message was answered, and more may come
  pub GoesOn-answered : (after : List Request) (new : List Mark) (written' : Option (List ℕ)) → closes lent.head ≡ false
      → IsAnswered requests.limit requests.old_style requests.after after (Read lent) marks new written written'
      → GoesOn (record requests { after = after }) first (with_written beside written') inbox new
  GoesOn-answered after new written' open' a = record {
    got = h.got;
    sent = h.sent ++ (interim_of (Read lent) ++ reply_text_with requests.old_style requests.after (Read lent)
        a.marked.mark);
    read = h.read;
    counted = h.counted;
    wrote = wrote_after written' (reply_text_with requests.old_style requests.after (Read lent) a.marked.mark)
        a.written;
    served = subst (λ (ms : List Mark). HasServed (record requests { after = after }) h.got (unread inbox) ms
        (h.sent ++ (interim_of (Read lent) ++ reply_text_with requests.old_style requests.after (Read lent)
        a.marked.mark))) (sym a.marked.marks)
        (served_push requests h.got (held inbox) marks h.sent h.served lent (lent_len inbox) a.marked.mark after
        h.lends.begins open' a.marked.fit a.marked.kept);
    more = h.lends.last ∙ open';
  }

  -- memory ran out before it was marked
  pub Serves-unmarked : (after : List Request) (new : List Mark) (written' : Option (List ℕ))
      → IsUntouched requests.after after marks new written written'
      → ServesConnection (record requests { after = after }) first (with_written beside written') new (Fault Memory)
  Serves-unmarked after new written' u = record {
    got = h.got;
    sent = h.sent ++ (interim_of (Read lent) ++ []);
    read = h.read;
    wrote = wrote_after written' [] u.written;
    serves = subst (λ (ms : List Mark). IsCutShort (record requests { after = after }) h.got ms
        (h.sent ++ (interim_of (Read lent) ++ []))) (sym u.marks)
        (subst (λ (rs : List Request). IsCutShort (record requests { after = rs }) h.got marks
        (h.sent ++ (interim_of (Read lent) ++ []))) (sym u.kept)
        (subst (λ (t : List ℕ). IsCutShort requests h.got marks (h.sent ++ t))
        (sym (append_nil (interim_of (Read lent))))
        (served_read requests h.got (held inbox) marks h.sent h.served lent (lent_len inbox) h.lends.begins)));
    at_end = λ e. absurd (cc);
    limited = λ e. absurd (cc);
    failed = λ n e. absurd (cc);
  }

  -- its reply was cut
  cut_answer : (after : List Request) (new : List Mark)
      (m : IsMarked requests.limit requests.after after (Read lent) marks new) (sent : ℕ)
      → sent ≤ length (reply_text_with requests.old_style requests.after (Read lent) m.mark)
      → FailsWithin (record requests { after = after }) h.got new
      (h.sent ++ (interim_of (Read lent) ++ take sent
      (reply_text_with requests.old_style requests.after (Read lent) m.mark))) sent
  cut_answer after new m sent within = record {
    rest = held inbox;
    done = marks;
    before = h.sent;
    now = requests.after;
    served = h.served;
    more = m.mark ∷ [];
    lead = interim_of (Read lent);
    text = reply_text_with requests.old_style requests.after (Read lent) m.mark;
    next = (Read lent, (lent_len inbox, h.lends.begins, (λ _. (refl, refl)), λ _. tt), refl, refl);
    marked = m.marks;
    within = within;
    written = refl;
  }

  -- so much of its reply was written
  part : (after : List Request) (new : List Mark) (written' : Option (List ℕ)) (f : ConnFault)
      (m : IsMarked requests.limit requests.after after (Read lent) marks new) (sent : ℕ) → f ≢ ReadLimit
      → ((n : ℕ) → f ≡ Write n → FailsWithin (record requests { after = after }) h.got new
      (h.sent ++ (interim_of (Read lent) ++ take sent
      (reply_text_with requests.old_style requests.after (Read lent) m.mark))) n)
      → Appends written written' (take sent (reply_text_with requests.old_style requests.after (Read lent) m.mark))
      → ServesConnection (record requests { after = after }) first (with_written beside written') new (Fault f)
  part after new written' f m sent other told w = record {
    got = h.got;
    sent = h.sent ++ (interim_of (Read lent) ++ take sent
        (reply_text_with requests.old_style requests.after (Read lent) m.mark));
    read = h.read;
    wrote = wrote_after written' (take sent (reply_text_with requests.old_style requests.after (Read lent) m.mark)) w;
    serves = subst (λ (ms : List Mark). IsCutShort (record requests { after = after }) h.got ms
        (h.sent ++ (interim_of (Read lent) ++ take sent
        (reply_text_with requests.old_style requests.after (Read lent) m.mark)))) (sym m.marks)
        (served_part requests h.got (held inbox) marks h.sent h.served (Read lent) (
          (lent_len inbox, h.lends.begins),
          refl,
        ) m.mark after sent m.fit m.kept);
    at_end = λ e. absurd (cc);
    limited = λ e. absurd (other (cc));
    failed = λ n e. told n (cc);
  }

  -- a fault came within its reply
  pub Serves-unanswered : (after : List Request) (new : List Mark) (written' : Option (List ℕ)) (f : ConnFault)
      → IsPartly requests.limit requests.old_style requests.after after (Read lent) marks new written written' f
      → ServesConnection (record requests { after = after }) first (with_written beside written') new (Fault f)
  Serves-unanswered after new written' fault.Read p = absurd p.written
  Serves-unanswered after new written' (Write sent) p =
      part after new written' (Write sent) p.marked sent (λ e. absurd (cc)) (λ n is. let same : sent ≡ n = cc in
      subst (FailsWithin (record requests { after = after }) h.got new
      (h.sent ++ (interim_of (Read lent) ++ take sent
      (reply_text_with requests.old_style requests.after (Read lent) p.marked.mark)))) same
      (cut_answer after new p.marked sent p.written.0)) p.written.1
  Serves-unanswered after new written' ReadLimit p = absurd p.written
  Serves-unanswered after new written' Memory p =
      part after new written' Memory p.marked 0 (λ e. absurd (cc)) (λ n is. absurd (cc)) p.written

-- ---- what was refused

module _ (requests : Keeping) (first beside : Wire) (written : Option (List ℕ)) (inbox : Inbox) (refusal : Refusal)
    (marks : List Mark) (h : HasRefusal requests first (with_written beside written) inbox refusal marks) where
  wrote_refusal : (written' : Option (List ℕ)) (text : List ℕ) → Appends written written' text
      → Appends first.written written' (h.sent ++ text)
  wrote_refusal written' text w = Appends-trans first.written written written' h.sent text h.wrote w

  -- it was answered
  pub Serves-refused : (new : List Mark) (written' : Option (List ℕ))
      → IsAnswered requests.limit requests.old_style requests.after requests.after (Refused refusal) marks new written
      written' → ServesConnection requests first (with_written beside written') new Closed
  Serves-refused new written' a = record {
    got = h.got;
    sent = h.sent ++ reply_text_with requests.old_style requests.after (Refused refusal) a.marked.mark;
    read = h.read;
    wrote = wrote_refusal written' (reply_text_with requests.old_style requests.after (Refused refusal) a.marked.mark)
        a.written;
    serves = subst (λ (ms : List Mark). IsServed requests h.got ms Closed
        (h.sent ++ reply_text_with requests.old_style requests.after (Refused refusal) a.marked.mark))
        (sym a.marked.marks)
        (served_last requests h.got (held inbox) marks h.sent h.served (Refused refusal) (
          h.refused,
          refl,
        ) a.marked.mark requests.after tt a.marked.fit a.marked.kept);
    at_end = λ e. absurd (cc);
    limited = λ e. absurd (cc);
    failed = λ n e. absurd (cc);
  }

  -- memory ran out before it was marked
  pub Serves-unnoted : (new : List Mark) (written' : Option (List ℕ))
      → IsUntouched requests.after requests.after marks new written written'
      → ServesConnection requests first (with_written beside written') new (Fault Memory)
  Serves-unnoted new written' u = record {
    got = h.got;
    sent = h.sent ++ [];
    read = h.read;
    wrote = wrote_refusal written' [] u.written;
    serves = subst (λ (ms : List Mark). IsCutShort requests h.got ms (h.sent ++ [])) (sym u.marks)
        (served_nothing requests h.got (held inbox) marks h.sent h.served);
    at_end = λ e. absurd (cc);
    limited = λ e. absurd (cc);
    failed = λ n e. absurd (cc);
  }

  -- its reply was cut
  cut_refusal : (new : List Mark) (m : IsMarked requests.limit requests.after requests.after (Refused refusal) marks
      new) (sent : ℕ) → sent ≤ length (reply_text_with requests.old_style requests.after (Refused refusal) m.mark)
      → FailsWithin requests h.got new (h.sent ++ take sent
      (reply_text_with requests.old_style requests.after (Refused refusal) m.mark)) sent
  cut_refusal new m sent within = record {
    rest = held inbox;
    done = marks;
    before = h.sent;
    now = requests.after;
    served = h.served;
    more = m.mark ∷ [];
    lead = [];
    text = reply_text_with requests.old_style requests.after (Refused refusal) m.mark;
    next = (Refused refusal, (h.refused, refl, refl), refl, refl);
    marked = m.marks;
    within = within;
    written = refl;
  }

  -- so much of its reply was written
  part_refusal : (new : List Mark) (written' : Option (List ℕ)) (f : ConnFault)
      (m : IsMarked requests.limit requests.after requests.after (Refused refusal) marks new) (sent : ℕ) → f ≢ ReadLimit
      → ((n : ℕ) → f ≡ Write n → FailsWithin requests h.got new
      (h.sent ++ take sent (reply_text_with requests.old_style requests.after (Refused refusal) m.mark)) n)
      → Appends written written'
      (take sent (reply_text_with requests.old_style requests.after (Refused refusal) m.mark))
      → ServesConnection requests first (with_written beside written') new (Fault f)
  part_refusal new written' f m sent other told w = record {
    got = h.got;
    sent = h.sent ++ take sent (reply_text_with requests.old_style requests.after (Refused refusal) m.mark);
    read = h.read;
    wrote = wrote_refusal written'
        (take sent (reply_text_with requests.old_style requests.after (Refused refusal) m.mark)) w;
    serves = subst (λ (ms : List Mark). IsCutShort requests h.got ms
        (h.sent ++ take sent (reply_text_with requests.old_style requests.after (Refused refusal) m.mark)))
        (sym m.marks)
        (served_part requests h.got (held inbox) marks h.sent h.served (Refused refusal) (
          h.refused,
          refl,
        ) m.mark requests.after sent m.fit m.kept);
    at_end = λ e. absurd (cc);
    limited = λ e. absurd (other (cc));
    failed = λ n e. told n (cc);
  }

  -- a fault came within its reply
  pub Serves-unrefused : (new : List Mark) (written' : Option (List ℕ)) (f : ConnFault)
      → IsPartly requests.limit requests.old_style requests.after requests.after (Refused refusal) marks new written
      written' f → ServesConnection requests first (with_written beside written') new (Fault f)
  Serves-unrefused new written' fault.Read p = absurd p.written
  Serves-unrefused new written' (Write sent) p =
      part_refusal new written' (Write sent) p.marked sent (λ e. absurd (cc)) (λ n is. let same : sent ≡ n = cc in
      subst (FailsWithin requests h.got new (h.sent
      ++ take sent (reply_text_with requests.old_style requests.after (Refused refusal) p.marked.mark))) same
      (cut_refusal new p.marked sent p.written.0)) p.written.1
  Serves-unrefused new written' ReadLimit p = absurd p.written
  Serves-unrefused new written' Memory p =
      part_refusal new written' Memory p.marked 0 (λ e. absurd (cc)) (λ n is. absurd (cc)) p.written

-- ---- the beginning

unread-new : (inbox : Inbox) → IsNew inbox → unread inbox ≡ []
unread-new inbox is = ap (drop (lent_len inbox)) is.empty ∙ drop-nil (lent_len inbox)

-- a new inbox, and nothing marked
pub GoesOn-new : (limit : ℕ) (old_style before : List Request) (first : Wire) (inbox : Inbox) (marks : List Mark)
    → IsNew inbox → marks ≡ [] → GoesOn (keeping limit old_style before before) first first inbox marks
GoesOn-new limit old_style before first inbox marks is none = record {
  got = [];
  sent = [];
  read = Consumes-nil first.left;
  counted = omega (arith, is.count);
  wrote = Appends-nil first.written;
  served = subst (λ (ms : List Mark). HasServed (keeping limit old_style before before) [] (unread inbox) ms [])
      (sym none)
      (subst (λ (rest : List ℕ). HasServed (keeping limit old_style before before) [] rest [] [])
      (sym (unread-new inbox is)) (HasServed-none limit old_style before));
  more = is.more;
}

-- no memory for an inbox
pub Serves-none : (limit : ℕ) (old_style before : List Request) (first : Wire) (marks : List Mark) → marks ≡ []
    → ServesConnection (keeping limit old_style before before) first first marks (Fault Memory)
Serves-none limit old_style before first marks none = record {
  got = [];
  sent = [];
  read = Consumes-nil first.left;
  wrote = Appends-nil first.written;
  serves = subst (λ (ms : List Mark). IsCutShort (keeping limit old_style before before) [] ms []) (sym none)
      (served_nothing (keeping limit old_style before before) [] [] [] [] (HasServed-none limit old_style before));
  at_end = λ e. absurd (cc);
  limited = λ e. absurd (cc);
  failed = λ n e. absurd (cc);
}
