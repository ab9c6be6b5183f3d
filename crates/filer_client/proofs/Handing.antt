-- A reply that was read, and the move of an entry by it, make a handing over.
use Rattle.std.proofs.Common.{◌≡◌, ℕ, Ok, Err, refl, inl}
use Rattle.sqlite.specs.Store.{Ghosts}
use Rattle.sqlite.proofs.StateLemmas.{survives_weaker}
use Rattle.http_wire.specs.declared.device.Source.{Ghosts as Reads}
use Rattle.http_messages.specs.Reply.{ReplyParts}
use Rattle.http_wire.specs.ReplyFaults.{HasGiven}
use Rattle.http_messages.specs.Response.{GivesReply}
use Rattle.outbox_core.specs.Calls.{MovesEntry}
use Rattle.outbox_core.specs.declared.fault.TakeFault.{TakeFault}
use Rattle.outbox_core.specs.OutboxParts.{OutboxParts, shows}
use Rattle.filing_model.specs.declared.state.State.{State}
use Rattle.filer_client.specs.declared.fault.ExchangeFault.TheVariants.{Take}
use Rattle.filer_client.specs.Calls.{HandsOver}

-- the entry moved
pub hands_over-moved : {S R : Type 0} (g : Ghosts S) (r : Reads R) (old new : OutboxParts S) (id : ℕ)
    (reader reader' : R) (reply : ReplyParts) (to : State)
    → HasGiven (r.left reader) (r.left reader') (λ bytes. GivesReply bytes reply)
    → r.read_failures reader' ≡ r.read_failures reader → MovesEntry g old new id reply (Ok to)
    → HandsOver g r old new id reader reader' (Ok to)
hands_over-moved g r old new id reader reader' reply to heard fine it = record {
  moved = λ clean entries had. let moves = it.moved clean entries had in ((reply, heard, moves.0), moves.1);
  no_entry = λ clean entries had refused. cc;
  kept = λ clean entries had. tt;
  fault = tt;
  fine = fine;
  stopped = λ failed. let stopped = it.stopped failed in (cc, stopped.1);
  stops = λ fails. (λ down. let stopped = it.stops.0 down in cc, λ refused. cc);
  filer = it.filer;
  crash = survives_weaker (shows g old) (shows g new) _ _
      (λ _ trees moves entries had alive. (reply, heard, moves entries had alive)) it.crash;
  durable = it.durable;
}

-- it did not move
pub hands_over-refused : {S R : Type 0} (g : Ghosts S) (r : Reads R) (old new : OutboxParts S) (id : ℕ)
    (reader reader' : R) (reply : ReplyParts) (fault : TakeFault)
    → HasGiven (r.left reader) (r.left reader') (λ bytes. GivesReply bytes reply)
    → r.read_failures reader' ≡ r.read_failures reader
    → MovesEntry g old new id reply (Err fault) → HandsOver g r old new id reader reader' (Err (Take fault))
hands_over-refused g r old new id reader reader' reply fault heard fine it = record {
  moved = λ clean entries had. tt;
  no_entry = λ clean entries had refused. it.no_entry clean entries had cc;
  kept = it.kept;
  fault = (fine, refl);
  fine = tt;
  stopped = λ failed. let stopped = it.stopped failed in (inl cc, stopped.1);
  stops = λ fails. (λ down. let stopped = it.stops.0 down in cc, λ refused. it.stops.1 cc);
  filer = it.filer;
  crash = survives_weaker (shows g old) (shows g new) _ _
      (λ _ trees moves entries had alive. (reply, heard, moves entries had alive)) it.crash;
  durable = λ clean entries had. tt;
}
