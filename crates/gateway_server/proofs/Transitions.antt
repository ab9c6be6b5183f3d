-- What a connection comes to at one arrival.
use Rattle.std.proofs.Common.{◌≡◌, ℕ, ◌+◌, Bool, true, List, [], ◌++◌, length, Option, refl, sym, ◌∙◌, subst}
use Rattle.std.proofs.KnownBytes.{Appends-nil}
use Rattle.std.specs.Io.KnownBytes.{Appends}
use Rattle.http_wire.specs.declared.inbox.Inbox.{Inbox}
use Rattle.http_wire.specs.Wire.{Wire}
use Rattle.http_messages.specs.declared.refusal.ConnFault.TheVariants.{Memory}
use Rattle.http_messages.specs.declared.refusal.Refusal.{Refusal}
use Rattle.http_messages.specs.Head.{closes}
use Rattle.http_wire.specs.Inbox.{lent_len}
use Rattle.http_messages.specs.Message.{Read, Refused}
use Rattle.filing_model.specs.declared.served.Ended.TheVariants.{Closed, InputEnded, Fault}
use Rattle.filing_model.specs.declared.served.Mark.{Mark}
use Rattle.filing_model.specs.Request.{Request}
use Rattle.filing_model.specs.Serving.{Keeping}
use Rattle.filing_model.specs.Stopping.{Crash}
use Rattle.filing_model.specs.Text.{interim_of, reply_text_with}
use Rattle.filing_model.proofs.Lists.{append_nil}
use Rattle.gateway_server.specs.declared.serving.Turn.{Turn}
use Rattle.gateway_server.specs.declared.serving.Turn.TheVariants.{On, Stopped, Ended as Ends}
use Rattle.gateway_server.specs.Answered.{IsMarked}
use Rattle.gateway_server.specs.Progress.{with_written, HasMessage, HasRefusal}
use Rattle.gateway_server.specs.Stopping.{IsBefore, IsAfter, IsStoppedAfter, Continues, Replies, StopsConnection}
use Rattle.gateway_server.proofs.Continuing.{Serves-closed, GoesOn-answered, Serves-unmarked, Serves-unanswered}
use Rattle.gateway_server.proofs.Continuing.{Serves-refused, Serves-unnoted, Serves-unrefused}
use Rattle.gateway_server.proofs.Stopping.{StopsConnection-before, StopsConnection-after}

-- ---- a message

module _ (requests : Keeping) (first beside : Wire) (written : Option (List ℕ)) (inbox : Inbox) (marks : List Mark)
    (h : HasMessage requests first (with_written beside written) inbox marks) (crash : Crash) where
  wrote_interim : Appends first.written written (h.sent ++ interim_of (Read h.lends.request))
  wrote_interim = subst (λ (t : List ℕ). Appends first.written written (h.sent ++ t)) (rw h.lends.lent refl) h.wrote

  -- nothing was decided of it
  pub message_before : IsBefore crash (length marks + 1)
      → Continues requests first (with_written beside written) inbox crash marks Stopped
  message_before stop =
      StopsConnection-before requests first (with_written beside written) h.got h.sent _ marks (Read h.lends.request)
      h.read wrote_interim h.served ((lent_len inbox, h.lends.begins), refl) crash stop

  -- it was marked
  message_after : (after : List Request) (new : List Mark) → IsAfter crash (length marks + 1)
      → IsMarked requests.limit requests.after after (Read h.lends.request) marks new
      → Continues (record requests { after = after }) first (with_written beside written) inbox crash new Stopped
  message_after after new stop m =
      StopsConnection-after requests first (with_written beside written) h.got h.sent _ marks (Read h.lends.request)
      h.read wrote_interim h.served ((lent_len inbox, h.lends.begins), refl) crash after new stop m

  -- memory ran out before it was marked
  pub message_unmarked : (after : List Request) (new : List Mark) → after ≡ requests.after → new ≡ marks
      → Continues (record requests { after = after }) first (with_written beside written) inbox crash new
      (Ends (Fault Memory))
  message_unmarked after new kept same =
      Serves-unmarked requests first beside written inbox marks h after new written
      (record { kept = kept; marks = same; written = Appends-nil written })

  -- its reply was written, or a part of it, or it was stopped before that
  pub message_replied : (after : List Request) (new : List Mark) (written' : Option (List ℕ)) (close : Bool)
      (turn : Turn) → close ≡ closes h.lends.request.head
      → (m : IsMarked requests.limit requests.after after (Read h.lends.request) marks new)
      → Replies written written' (reply_text_with requests.old_style requests.after (Read h.lends.request) m.mark) close
      turn → IsStoppedAfter crash (length marks + 1) turn
      → Continues (record requests { after = after }) first (with_written beside written') inbox crash new turn
  message_replied after new written' close On is m r stops =
      GoesOn-answered requests first beside written inbox marks h after new written' (sym is
      ∙ r.1) (record { marked = m; written = r.0 })
  message_replied after new written' close Stopped is m r stops =
      subst (λ w. StopsConnection (record requests { after = after }) first (with_written beside w) crash new) (sym r)
      (message_after after new stops m)
  message_replied after new written' close (Ends Closed) is m r stops =
      Serves-closed requests first beside written inbox marks h after new written' (sym is
      ∙ r.1) (record { marked = m; written = r.0 })
  message_replied after new written' close (Ends InputEnded) is m r stops = absurd r
  message_replied after new written' close (Ends (Fault fault)) is m r stops =
      Serves-unanswered requests first beside written inbox marks h after new written' fault
      (record { marked = m; written = r })

-- ---- what is refused

module _ (requests : Keeping) (first beside : Wire) (written : Option (List ℕ)) (inbox : Inbox) (refusal : Refusal)
    (marks : List Mark) (h : HasRefusal requests first (with_written beside written) inbox refusal marks)
    (crash : Crash) where
  wrote_nothing : Appends first.written written (h.sent ++ [])
  wrote_nothing = subst (Appends first.written written) (sym (append_nil h.sent)) h.wrote

  -- nothing was decided of it
  pub refusal_before : IsBefore crash (length marks + 1)
      → Continues requests first (with_written beside written) inbox crash marks Stopped
  refusal_before stop =
      StopsConnection-before requests first (with_written beside written) h.got h.sent _ marks (Refused refusal) h.read
      wrote_nothing h.served (h.refused, refl) crash stop

  -- it was marked
  refusal_after : (new : List Mark) → IsAfter crash (length marks + 1)
      → IsMarked requests.limit requests.after requests.after (Refused refusal) marks new
      → Continues requests first (with_written beside written) inbox crash new Stopped
  refusal_after new stop m =
      StopsConnection-after requests first (with_written beside written) h.got h.sent _ marks (Refused refusal) h.read
      wrote_nothing h.served (h.refused, refl) crash requests.after new stop m

  -- memory ran out before it was marked
  pub refusal_unmarked : (new : List Mark) → new ≡ marks
      → Continues requests first (with_written beside written) inbox crash new (Ends (Fault Memory))
  refusal_unmarked new same =
      Serves-unnoted requests first beside written inbox refusal marks h new written
      (record { kept = refl; marks = same; written = Appends-nil written })

  -- its reply was written, or a part of it, or it was stopped before that
  pub refusal_replied : (new : List Mark) (written' : Option (List ℕ)) (turn : Turn)
      (m : IsMarked requests.limit requests.after requests.after (Refused refusal) marks new)
      → Replies written written' (reply_text_with requests.old_style requests.after (Refused refusal) m.mark) true turn
      → IsStoppedAfter crash (length marks + 1) turn
      → Continues requests first (with_written beside written') inbox crash new turn
  refusal_replied new written' On m r stops = absurd (let e = r.1 in cc)
  refusal_replied new written' Stopped m r stops =
      subst (λ w. StopsConnection requests first (with_written beside w) crash new) (sym r) (refusal_after new stops m)
  refusal_replied new written' (Ends Closed) m r stops =
      Serves-refused requests first beside written inbox refusal marks h new written'
      (record { marked = m; written = r.0 })
  refusal_replied new written' (Ends InputEnded) m r stops = absurd r
  refusal_replied new written' (Ends (Fault fault)) m r stops =
      Serves-unrefused requests first beside written inbox refusal marks h new written' fault
      (record { marked = m; written = r })
