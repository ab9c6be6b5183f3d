-- A connection that carried several messages happens by its pieces.
use Rattle.std.proofs.Common.{◌≡◌, ◌∙◌, ◌≤◌, ℕ, suc, List, [], ◌∷◌, ◌++◌, length, take, Some, None, refl, sym, ap}
use Rattle.std.proofs.Common.{subst, arith, length-append}
use Rattle.filing_model.specs.declared.served.Mark.{Mark}
use Rattle.filing_model.specs.Request.{Request}
use Rattle.filing_model.specs.Serving.{keeping}
use Rattle.filing_model.specs.Stopping.{Crash, IsStopped}
use Rattle.filing_model.proofs.Lists.{take_all}
use Rattle.filing_world.specs.World.{Sent, numbered}
use Rattle.gateway_server.specs.Connections.{Connection, ServeInTurn}
use Rattle.programs.specs.Cut.{at_first_arrival}
use Rattle.programs.proofs.Cutting.{served_in_pieces, stopped_in_pieces}
use Rattle.programs.specs.Deliveries.{Delivery}
use Rattle.programs.specs.Happenings.{Situation, Happening, Happen, IsServing, IsKilling}
use Rattle.programs.specs.Kept.{by_pieces, nothing_behind, killed_behind, HappensByPieces, IsKilledByPieces}
use Rattle.programs.proofs.More.{last_numbered}

-- these happenings keep these requests, and leave the outboxes alone
record Keep (limit : ℕ) (old : Situation) (happenings : List Happening) (after : List Request) : Type 0 where
  pub next : Situation
  pub happen : Happen limit old happenings next
  pub requests : next.requests ≡ after
  pub outboxes : next.outboxes ≡ old.outboxes

-- an item that is written by itself, and served
item_of : List ℕ → Sent
item_of bytes = record { from = None; bytes = bytes }

written : Situation → List ℕ → Situation
written old bytes = record old { sent = old.sent ++ item_of bytes ∷ [] }

answered : Situation → ℕ → List ℕ → List ℕ → List Request → Situation
answered old item bytes out after = record (written old bytes) {
  requests = after;
  answers = old.answers ++ record { item = item; bytes = out } ∷ [];
}

here : (old : Situation) (item : ℕ) (bytes : List ℕ) → item ≡ suc (length old.sent)
    → numbered (old.sent ++ item_of bytes ∷ []) item ≡ Some (item_of bytes)
here old item bytes number =
    subst (λ n. numbered (old.sent ++ item_of bytes ∷ []) n ≡ Some (item_of bytes)) (sym number)
    (last_numbered old.sent (item_of bytes))

module _ (limit keys : ℕ) (few : keys ≤ limit) where
  -- what happens behind the pieces keeps these requests
  abbrev KeepsBehind : (ℕ → List Happening) → List Request → List Request → Type 0
  KeepsBehind behind between after = (old : Situation) → old.requests ≡ between
      → Keep limit old (behind (suc (length old.sent))) after

  follow : (behind : ℕ → List Happening) (between after : List Request) → KeepsBehind behind between after
      → (old : Situation) (item : ℕ) (pieces : List Connection) → item ≡ suc (length old.sent)
      → ServeInTurn (keeping keys [] old.requests between) pieces → Keep limit old (by_pieces item pieces behind) after
  unfolding written answered item_of
  follow behind between after keeps old item [] number turn =
      subst (λ n. Keep limit old (behind n) after) (sym number) (keeps old (sym turn))
  follow behind between after keeps old item (piece ∷ pieces) number turn =
      let delivery : Delivery = record { item = item; given = length piece.read } in
      let next = answered old item piece.read piece.output.bytes turn.0 in
      let serving : IsServing limit (written old piece.read) delivery piece next = record {
        came = record {
          from = item_of piece.read;
          here = here old item piece.read number;
          read = sym (take_all piece.read);
        };
        keys = keys;
        few = few;
        serves = turn.1;
        becomes = refl;
      } in
      let size : suc item ≡ suc (length next.sent) =
      omega (arith, number, length-append old.sent (item_of piece.read ∷ [])) in
      let later = follow behind between after keeps next (suc item) pieces size turn.2 in
      record {
        next = later.next;
        happen = (written old piece.read, refl, (next, serving, later.happen));
        requests = later.requests;
        outboxes = later.outboxes;
      }

  none_behind : (after : List Request) → KeepsBehind nothing_behind after after
  none_behind after old same = record { next = old; happen = refl; requests = same; outboxes = refl }

  kill_behind : (bytes : List ℕ) (crash : Crash) (marks : List Mark) (out : List ℕ) (between after : List Request)
      → IsStopped (keeping keys [] between after) bytes crash marks out
      → KeepsBehind (killed_behind bytes crash marks out) between after
  unfolding written answered item_of
  kill_behind bytes crash marks out between after stopped old same =
      let item = suc (length old.sent) in
      let delivery : Delivery = record { item = item; given = length bytes } in
      let next = answered old item bytes out after in
      let killing : IsKilling limit (written old bytes) delivery crash marks out next = record {
        from = item_of bytes;
        here = here old item bytes refl;
        keys = keys;
        within = few;
        stopped = subst (λ bs. IsStopped (keeping keys [] old.requests after) bs crash marks out) (sym (take_all bytes))
            (subst (λ rs. IsStopped (keeping keys [] rs after) bytes crash marks out) (sym same) stopped);
        becomes = refl;
      } in
      record {
        next = next;
        happen = (written old bytes, refl, (next, killing, refl));
        requests = refl;
        outboxes = refl;
      }

pub happens_by_pieces : (limit : ℕ) (old new : Situation) (delivery : Delivery) (connection : Connection)
    → IsServing limit old delivery connection new → HappensByPieces limit old connection new
happens_by_pieces limit old new delivery connection is =
    let cut = served_in_pieces (keeping is.keys [] old.requests new.requests) connection is.serves in
    let on =
    follow limit is.keys is.few nothing_behind new.requests new.requests
    (none_behind limit is.keys is.few new.requests) old (suc (length old.sent)) cut.pieces refl cut.in_turn in
    record {
      pieces = cut.pieces;
      one_each = cut.one_each;
      read = cut.read;
      marks = cut.marks;
      written = cut.written;
      ended = cut.ended;
      next = on.next;
      happen = on.happen;
      requests = on.requests;
      outboxes = on.outboxes ∙ sym (ap (λ (s : Situation). s.outboxes) is.becomes);
    }

pub killed_by_pieces : (limit : ℕ) (old new : Situation) (delivery : Delivery) (crash : Crash) (marks : List Mark)
    (out : List ℕ) → (is : IsKilling limit old delivery crash marks out new)
    → IsKilledByPieces limit old (take delivery.given is.from.bytes) crash marks out new
killed_by_pieces limit old new delivery crash marks out is =
    let came = take delivery.given is.from.bytes in
    let cut = stopped_in_pieces (keeping is.keys [] old.requests new.requests) came crash marks out is.stopped in
    let behind = killed_behind cut.last_read (at_first_arrival crash) cut.last_marks cut.last_written in
    let on =
    follow limit is.keys is.within behind cut.between new.requests
    (kill_behind limit is.keys is.within cut.last_read (at_first_arrival crash) cut.last_marks cut.last_written
    cut.between new.requests cut.stopped) old (suc (length old.sent)) cut.pieces refl cut.in_turn in
    record {
      pieces = cut.pieces;
      one_each = cut.one_each;
      last_read = cut.last_read;
      last_marks = cut.last_marks;
      last_written = cut.last_written;
      read = cut.read;
      marks_are = cut.marks_are;
      written_is = cut.written;
      next = on.next;
      happen = on.happen;
      requests = on.requests;
      outboxes = on.outboxes ∙ sym (ap (λ (s : Situation). s.outboxes) is.becomes);
    }
