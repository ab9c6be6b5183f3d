-- One exchange is two steps of the world.
use Rattle.std.proofs.Common.{◌≡◌, ◌∙◌, ℕ, List, [], ◌∷◌, ◌++◌, length, take, drop, Option, Some, None, true, refl, sym}
use Rattle.std.proofs.Common.{ap, subst}
use Rattle.std.proofs.lemmas.List.{take_at, take-append-drop, append_assoc}
use Rattle.std.specs.Io.KnownBytes.{Consumes}
use Rattle.http_messages.specs.Response.{GivesReply}
use Rattle.filing_model.specs.Outbox.{Entry, State, Open, moved, bytes_of, request_of}
use Rattle.filing_model.specs.Stopping.{No}
use Rattle.filing_world.specs.World.{Outbox, World, renewed}
use Rattle.filing_world.specs.Step.{box_after, heard_by}
use Rattle.filing_world.proofs.Lists.{changed_renewed}
use Rattle.outbox_core.specs.Entries.{set_state, in_state}
use Rattle.filer_client.specs.Exchange.{IsOpenRequest, Hears}
use Rattle.programs.specs.Exchanged.{IsBox, IsSent, ComesOf, IsMoved}

pub sent : (old : World) (outbox id : ℕ) (box : Outbox) (text : List ℕ) → IsBox old outbox box
    → IsOpenRequest box.filer box.entries id text → (new : World) × IsSent old outbox id text new
sent old outbox id box text is ready = (
  record old {
    sent = old.sent ++ record {
      from = Some (outbox, id);
      bytes =
          bytes_of (request_of box.filer ready.entry);
    } ∷ [];
  },
  record {
    step = record { box = box; here = is.here; up = is.up; what = ready.entry; there = ready.at; becomes = refl };
    becomes =
        ap (λ (t : List ℕ). record old { sent = old.sent ++ record { from = Some (outbox, id); bytes = t } ∷ [] })
        (sym ready.bytes);
  },
)

-- what was read of known bytes are the first of them
front : (bytes : List ℕ) (left : Option (List ℕ)) (got : List ℕ) → Consumes (Some bytes) left got
    → (ys : List ℕ) × (bytes ≡ got ++ ys)
front bytes None got reads = absurd reads
front bytes (Some ys) got reads = (ys, reads)

first_of : (all bytes got ys : List ℕ) (given : ℕ) → bytes ≡ take given all → bytes ≡ got ++ ys
    → take (length got) all ≡ got
first_of all bytes got ys given is splits =
    let whole : all ≡ got ++ (ys ++ drop given all) =
    sym (take-append-drop given all) ∙ ap (λ (xs : List ℕ). xs ++ drop given all) (sym is ∙ splits)
    ∙ append_assoc got ys (drop given all) in
    ap (take (length got)) whole ∙ take_at got (ys ++ drop given all) (length got) refl

pub handed : (old : World) (outbox id output given : ℕ) (box : Outbox) (text bytes : List ℕ) (left : Option (List ℕ))
    (to : State) → IsBox old outbox box → IsOpenRequest box.filer box.entries id text
    → ComesOf old outbox id output given bytes
    → Hears (Some bytes) left (λ reply. to ≡ moved Open reply) → (new : World) × IsMoved old outbox id output box to new
handed old outbox id output given box text bytes left to is ready comes hears =
    let reply = hears.0 in
    let got = hears.1.0 in
    let split = front bytes left got hears.1.1 in
    let read = first_of comes.from.bytes bytes got split.0 given comes.first split.1 in
    let entry = ready.entry in
    let state : heard_by entry.state (Some reply) ≡ to =
    ap (λ (s : State). moved s reply) ready.is_open ∙ sym hears.2 in
    let entries : renewed box.entries id (record entry { state = heard_by entry.state (Some reply) })
    ≡ set_state box.entries id to =
    ap (λ (s : State). renewed box.entries id (record entry { state = s })) state
    ∙ sym (changed_renewed (in_state to) box.entries id entry ready.at) in (
      record old { outboxes = renewed old.outboxes outbox (box_after box id entry (Some reply) No) },
      record {
        given = length got;
        step = record {
          from = comes.from;
          here = comes.here;
          item = comes.item;
          item_here = comes.item_here;
          outbox = outbox;
          number = id;
          sender = comes.sender;
          box = box;
          box_here = is.here;
          up = is.up;
          entry = entry;
          entry_here = ready.at;
          heard = Some reply;
          hears = subst (λ (bs : List ℕ). GivesReply bs reply) (sym read) hears.1.2;
          becomes = refl;
        };
        becomes =
            ap (λ (es : List Entry). record old {
              outboxes =
                  renewed old.outboxes outbox (record box { entries = es; up = true });
            }) entries;
      },
    )
