-- A connection that is served by itself is its pieces, served in turn.
use Rattle.std.proofs.Common.{◌≡◌, ◌∙◌, ℕ, suc, ◌+◌, ◌≤◌, inl, inr, true, false, List, [], ◌∷◌, ◌++◌, length, take}
use Rattle.std.proofs.Common.{drop}
use Rattle.std.proofs.Common.{refl, sym, ap, ap₂, subst, append_assoc, arith}
use Rattle.std.proofs.lemmas.Bool.{both_ways, cases_Bool}
use Rattle.std.proofs.lemmas.Bool.Decides.{nat_tests}
use Rattle.std.proofs.lemmas.List.{take-append-drop}
use Rattle.std.proofs.Math.Seq.{take-append_seam, drop-append_seam, drop-length}
use Rattle.http_messages.specs.Head.{closes}
use Rattle.http_messages.specs.Message.{Arrival, Read, Refused, Ending, Rest, BeginsRequest, ArrivalsThen, NoneFollows}
use Rattle.http_messages.specs.Request.{Request as Message}
use Rattle.http_messages.specs.declared.refusal.ConnFault.{ConnFault}
use Rattle.filing_model.specs.declared.served.Ended.{Ended}
use Rattle.filing_model.specs.declared.served.Ended.TheVariants.{Closed, InputEnded, Fault}
use Rattle.filing_model.specs.declared.served.Mark.{Mark}
use Rattle.filing_model.specs.Prefix.{IsPrefixOf}
use Rattle.filing_model.specs.Request.{Request, firsts}
use Rattle.filing_model.specs.Serving.{Keeping, keeping, AnyFollows, BeginsArrivals, AreMarked, kept_by, end_of}
use Rattle.filing_model.specs.Serving.{IsServed, IsCutShort, Serves}
use Rattle.filing_model.specs.Stopping.{Crash, No, Before, After, marked, answered, IsStopAt, IsStopped}
use Rattle.filing_model.specs.Text.{MarkFits, MarksFit, completed, completed_at, interim_of, next_interim}
use Rattle.filing_model.specs.Text.{reply_text_with, text_with}
use Rattle.filing_model.proofs.Alike.{text_alike, marks_fit_alike}
use Rattle.filing_model.proofs.Appending.{firsts-kept_by, kept_by-append}
use Rattle.filing_model.proofs.Lists.{append_nil}
use Rattle.gateway_server.specs.Connections.{Connection}
use Rattle.gateway_server.proofs.FirstBytes.{BeginsRequest-spells}
use Rattle.programs.specs.Cut.{IsInPieces, at_first_arrival, IsStoppedInPieces}
use Rattle.programs.specs.Pieces.{joined_reads, joined_texts, ended_of}
use Rattle.programs.proofs.Nothing.{nothing}

-- ---- the first message, and what is behind it

-- The first message was served by itself, and then the others.
record IsCutBehind (limit : ℕ) (old_style before after : List Request) (bytes : List ℕ) (mark : Mark)
    (marks : List Mark) (ended : Ended) (out : List ℕ) : Type 0 where
  pub count : ℕ
  pub size : ℕ
  pub between : List Request
  pub first_ended : Ended
  pub first : Serves (keeping limit old_style before between) (take count bytes) (mark ∷ []) first_ended (take size out)
  pub others : Serves (keeping limit old_style between after) (drop count bytes) marks ended (drop size out)

-- the same of a connection that was served to its end
record IsServedBehind (limit : ℕ) (old_style before after : List Request) (bytes : List ℕ) (mark : Mark)
    (marks : List Mark) (ended : Ended) (out : List ℕ) : Type 0 where
  pub count : ℕ
  pub size : ℕ
  pub between : List Request
  pub first : IsServed (keeping limit old_style before between) (take count bytes) (mark ∷ []) InputEnded
      (take size out)
  pub others : IsServed (keeping limit old_style between after) (drop count bytes) marks ended (drop size out)

-- what begins two joined texts: its first part begins the first, and its rest the second
prefix_parts : (first rest out : List ℕ) → IsPrefixOf out (first ++ rest)
    → IsPrefixOf (take (length first) out) first × IsPrefixOf (drop (length first) out) rest
prefix_parts [] rest out front = (([], refl), front)
prefix_parts (x ∷ first) rest [] front = ((x ∷ first, refl), (rest, refl))
prefix_parts (x ∷ first) rest (y ∷ out) front =
    let same : x ≡ y = let e = front.1 in cc in
    let others : first ++ rest ≡ out ++ front.0 = let e = front.1 in cc in
    let parts = prefix_parts first rest out (front.0, others) in
    ((parts.0.0, ap₂ (λ z zs. z ∷ zs) same parts.0.1), parts.1)

module _ (limit : ℕ) (old_style before after : List Request) (bytes out : List ℕ) (m : Message) (n : ℕ)
    (begins : BeginsRequest bytes m n) (open' : closes m.head ≡ false) (mark : Mark) where
  between : List Request
  between = kept_by before (completed (Read m ∷ []) (mark ∷ []))

  text : List ℕ
  text = interim_of (Read m) ++ reply_text_with old_style before (Read m) mark

  completed_one : completed (Read m ∷ []) (mark ∷ []) ≡ completed_at (Read m) mark
  unfolding completed
  completed_one = append_nil (completed_at (Read m) mark)

  alike : firsts (before ++ completed_at (Read m) mark) ≡ firsts between
  unfolding between
  alike =
      ap (λ rs. firsts (before ++ rs)) (sym completed_one)
      ∙ sym (firsts-kept_by before (completed (Read m ∷ []) (mark ∷ [])))

  arrives : (F : List ℕ → Ending → Type 0) (ending : Ending) → F [] ending
      → ArrivalsThen F (take n bytes) (Read m ∷ []) ending
  arrives F ending none = (
    length (take n bytes),
    BeginsRequest-spells bytes m n begins,
    (λ last. absurd (both_ways (closes m.head) open' last)),
    λ _. subst (λ bs. F bs ending) (sym (drop-length (take n bytes))) none,
  )

  text_one : (ending : Ending) → next_interim [] ending ≡ []
      → text_with old_style before (Read m ∷ []) ending (mark ∷ []) ≡ text
  unfolding text_with text
  text_one ending none =
      ap (λ l. interim_of (Read m) ++ (reply_text_with old_style before (Read m) mark ++ l)) none
      ∙ ap (λ l. interim_of (Read m) ++ l) (append_nil (reply_text_with old_style before (Read m) mark))

  module _ (arrivals : List Arrival) (ending : Ending) (marks : List Mark) where
    text_cut : text_with old_style before (Read m ∷ arrivals) ending (mark ∷ marks)
        ≡ text ++ text_with old_style between arrivals ending marks
    unfolding text_with text
    text_cut =
        sym (append_assoc (interim_of (Read m)) (reply_text_with old_style before (Read m) mark)
        (text_with old_style (before ++ completed_at (Read m) mark) arrivals ending marks))
        ∙ ap (λ l. (interim_of (Read m) ++ reply_text_with old_style before (Read m) mark) ++ l)
        (text_alike old_style (before ++ completed_at (Read m) mark) between alike arrivals ending marks)

    kept_cut : after ≡ kept_by before (completed (Read m ∷ arrivals) (mark ∷ marks))
        → after ≡ kept_by between (completed arrivals marks)
    unfolding completed between
    kept_cut kept =
        kept ∙ ap (λ rs. kept_by before (rs ++ completed arrivals marks)) (sym completed_one)
        ∙ sym (kept_by-append before (completed (Read m ∷ []) (mark ∷ [])) (completed arrivals marks))

    fit_cut : MarksFit limit before (Read m ∷ arrivals) (mark ∷ marks) → MarksFit limit between arrivals marks
    unfolding MarksFit
    fit_cut fit = marks_fit_alike limit (before ++ completed_at (Read m) mark) between alike arrivals marks fit.1

    fit_first : MarksFit limit before (Read m ∷ arrivals) (mark ∷ marks) → MarkFits limit before (Read m) mark
    unfolding MarksFit
    fit_first fit = fit.0

    others_written : out ≡ text_with old_style before (Read m ∷ arrivals) ending (mark ∷ marks)
        → drop (length text) out ≡ text_with old_style between arrivals ending marks
    others_written written =
        ap (drop (length text)) (written ∙ text_cut)
        ∙ drop-append_seam text (text_with old_style between arrivals ending marks)

    others_front : IsPrefixOf out (text_with old_style before (Read m ∷ arrivals) ending (mark ∷ marks))
        → IsPrefixOf (drop (length text) out) (text_with old_style between arrivals ending marks)
    others_front front =
        (prefix_parts text (text_with old_style between arrivals ending marks) out
        (subst (IsPrefixOf out) text_cut front)).1

  one_marked : MarkFits limit before (Read m) mark → AreMarked limit before (Read m ∷ []) (mark ∷ [])
  unfolding MarksFit
  one_marked fits = record { all = refl; fit = (fits, tt) }

  first_served : (arrivals : List Arrival) (ending : Ending) (marks : List Mark) → MarkFits limit before (Read m) mark
      → out ≡ text_with old_style before (Read m ∷ arrivals) ending (mark ∷ marks)
      → IsServed (keeping limit old_style before between) (take n bytes) (mark ∷ []) InputEnded (take (length text) out)
  unfolding between
  first_served arrivals ending marks fits written = record {
    arrivals = Read m ∷ [];
    ending = Rest false;
    splits = arrives NoneFollows (Rest false) nothing;
    marked = one_marked fits;
    written =
        ap (take (length text)) (written ∙ text_cut arrivals ending marks)
        ∙ take-append_seam text (text_with old_style between arrivals ending marks)
        ∙ sym (text_one (Rest false) refl);
    kept = refl;
    end = refl;
  }

  first_cut : (arrivals : List Arrival) (ending : Ending) (marks : List Mark) → MarkFits limit before (Read m) mark
      → IsPrefixOf out (text_with old_style before (Read m ∷ arrivals) ending (mark ∷ marks))
      → IsCutShort (keeping limit old_style before between) (take n bytes) (mark ∷ []) (take (length text) out)
  unfolding between
  first_cut arrivals ending marks fits front = record {
    arrivals = Read m ∷ [];
    ending = Ending.Closed;
    begins = arrives AnyFollows Ending.Closed tt;
    marked = one_marked fits;
    written =
        subst (IsPrefixOf (take (length text) out)) (sym (text_one Ending.Closed refl))
        (prefix_parts text (text_with old_style between arrivals ending marks) out
        (subst (IsPrefixOf out) (text_cut arrivals ending marks) front)).0;
    kept = refl;
  }

  module _ (arrivals : List Arrival) (ending : Ending) (marks : List Mark)
      (kept : after ≡ kept_by before (completed (Read m ∷ arrivals) (mark ∷ marks))) where
    served_parts : (ended : Ended) → ArrivalsThen NoneFollows (drop n bytes) arrivals ending
        → AreMarked limit before (Read m ∷ arrivals) (mark ∷ marks)
        → out ≡ text_with old_style before (Read m ∷ arrivals) ending (mark ∷ marks) → ended ≡ end_of ending
        → IsServedBehind limit old_style before after bytes mark marks ended out
    served_parts ended splits marked written end = record {
      count = n;
      size = length text;
      between = between;
      first = first_served arrivals ending marks (fit_first arrivals ending marks marked.fit) written;
      others = record {
        arrivals = arrivals;
        ending = ending;
        splits = splits;
        marked = record { all = omega (arith, marked.all); fit = fit_cut arrivals ending marks marked.fit };
        written = others_written arrivals ending marks written;
        kept = kept_cut arrivals ending marks kept;
        end = end;
      };
    }

    cut_parts : (fault : ConnFault) → ArrivalsThen AnyFollows (drop n bytes) arrivals ending
        → AreMarked limit before (Read m ∷ arrivals) (mark ∷ marks)
        → IsPrefixOf out (text_with old_style before (Read m ∷ arrivals) ending (mark ∷ marks))
        → IsCutBehind limit old_style before after bytes mark marks (Fault fault) out
    cut_parts fault begins' marked front = record {
      count = n;
      size = length text;
      between = between;
      first_ended = Fault fault;
      first = first_cut arrivals ending marks (fit_first arrivals ending marks marked.fit) front;
      others = record {
        arrivals = arrivals;
        ending = ending;
        begins = begins';
        marked = record { all = omega (arith, marked.all); fit = fit_cut arrivals ending marks marked.fit };
        written = others_front arrivals ending marks front;
        kept = kept_cut arrivals ending marks kept;
      };
    }

  -- the first of several arrivals is served, and the others are stopped
  stopped_parts : (crash : Crash) (arrivals : List Arrival) (marks : List Mark) (answers : ℕ)
      → MarksFit limit before (Read m ∷ arrivals) (mark ∷ marks)
      → out ≡ text_with old_style before (Read m ∷ arrivals) Ending.Closed (mark ∷ take answers marks)
      → IsStoppedInPieces (keeping limit old_style between after) (drop n bytes) crash marks (drop (length text) out)
      → IsStoppedInPieces (keeping limit old_style before after) bytes crash (mark ∷ marks) out
  stopped_parts crash arrivals marks answers fit written later =
      let size = length text in
      let first : Connection = record {
        read = take n bytes;
        output = record { marks = mark ∷ []; ended = InputEnded; bytes = take size out };
      } in
      record {
        pieces = first ∷ later.pieces;
        between = later.between;
        in_turn = (
          between,
          first_served arrivals Ending.Closed (take answers marks) (fit_first arrivals Ending.Closed marks fit) written,
          later.in_turn,
        );
        one_each = (omega arith, later.one_each);
        last_read = later.last_read;
        last_marks = later.last_marks;
        last_written = later.last_written;
        stopped = later.stopped;
        read =
            sym (take-append-drop n bytes) ∙ ap (λ l. take n bytes ++ l) later.read
            ∙ sym (append_assoc (take n bytes) (joined_reads later.pieces) later.last_read);
        marks_are = ap (λ l. mark ∷ l) later.marks_are;
        written =
            sym (take-append-drop size out) ∙ ap (λ l. take size out ++ l) later.written
            ∙ sym (append_assoc (take size out) (joined_texts later.pieces) later.last_written);
      }

-- a message behind which another arrived leaves its connection open
more_goes_on : (m : Message) (next : Arrival) (arrivals : List Arrival)
    → (closes m.head ≡ true → (next ∷ arrivals ≡ []) × (Ending.Closed ≡ Ending.Closed)) → closes m.head ≡ false
more_goes_on m next arrivals last = elim (cases_Bool (closes m.head)) [
  | inl closed ↦ absurd (let none = (last closed).0 in cc)
  | inr open' ↦ open'
]

-- ---- a connection with several marks

module _ (limit : ℕ) (old_style before after : List Request) (bytes out : List ℕ) (mark other : Mark)
    (marks : List Mark) where
  abbrev Cut : Ended → Type 0
  Cut ended = IsCutBehind limit old_style before after bytes mark (other ∷ marks) ended out

  -- a message behind which another is marked leaves its connection open
  goes_on : (m : Message) (arrivals : List Arrival) (ending : Ending)
      → (closes m.head ≡ true → (arrivals ≡ []) × (ending ≡ Ending.Closed))
      → length (mark ∷ other ∷ marks) ≡ length (Read m ∷ arrivals) → closes m.head ≡ false
  goes_on m arrivals ending last all = elim (cases_Bool (closes m.head)) [
    | inl closed ↦ let none = ap length (last closed).0 in absurd (omega (arith, all, none))
    | inr open' ↦ open'
  ]

  served_behind : (ended : Ended) (arrivals : List Arrival) (ending : Ending)
      → ArrivalsThen NoneFollows bytes arrivals ending → AreMarked limit before arrivals (mark ∷ other ∷ marks)
      → out ≡ text_with old_style before arrivals ending (mark ∷ other ∷ marks)
      → after ≡ kept_by before (completed arrivals (mark ∷ other ∷ marks)) → ended ≡ end_of ending
      → IsServedBehind limit old_style before after bytes mark (other ∷ marks) ended out
  served_behind ended [] ending splits marked written kept end = absurd (omega (arith, marked.all))
  served_behind ended (Refused refusal ∷ arrivals) ending splits marked written kept end =
      let none = ap length splits.1 in absurd (omega (arith, marked.all, none))
  served_behind ended (Read m ∷ arrivals) ending splits marked written kept end =
      let open' = goes_on m arrivals ending splits.2 marked.all in
      served_parts limit old_style before after bytes out m splits.0 splits.1 open' mark arrivals ending (other ∷ marks)
      kept ended (splits.3 open') marked written end

  cut_behind : (fault : ConnFault) (arrivals : List Arrival) (ending : Ending)
      → ArrivalsThen AnyFollows bytes arrivals ending → AreMarked limit before arrivals (mark ∷ other ∷ marks)
      → IsPrefixOf out (text_with old_style before arrivals ending (mark ∷ other ∷ marks))
      → after ≡ kept_by before (completed arrivals (mark ∷ other ∷ marks)) → Cut (Fault fault)
  cut_behind fault [] ending begins marked front kept = absurd (omega (arith, marked.all))
  cut_behind fault (Refused refusal ∷ arrivals) ending begins marked front kept =
      let none = ap length begins.1 in absurd (omega (arith, marked.all, none))
  cut_behind fault (Read m ∷ arrivals) ending begins marked front kept =
      let open' = goes_on m arrivals ending begins.2 marked.all in
      cut_parts limit old_style before after bytes out m begins.0 begins.1 open' mark arrivals ending (other ∷ marks)
      kept fault (begins.3 open') marked front

  behind_first : (ended : Ended)
      → Serves (keeping limit old_style before after) bytes (mark ∷ other ∷ marks) ended out → Cut ended
  behind_first Closed s =
      let parts = served_behind Closed s.arrivals s.ending s.splits s.marked s.written s.kept s.end in
      record {
        count = parts.count;
        size = parts.size;
        between = parts.between;
        first_ended = InputEnded;
        first = parts.first;
        others = parts.others;
      }
  behind_first InputEnded s =
      let parts = served_behind InputEnded s.arrivals s.ending s.splits s.marked s.written s.kept s.end in
      record {
        count = parts.count;
        size = parts.size;
        between = parts.between;
        first_ended = InputEnded;
        first = parts.first;
        others = parts.others;
      }
  behind_first (Fault fault) s = cut_behind fault s.arrivals s.ending s.begins s.marked s.written s.kept

-- ---- all of it

connection_of : List ℕ → List Mark → Ended → List ℕ → Connection
connection_of read marks ended out =
    record { read = read; output = record { marks = marks; ended = ended; bytes = out } }

-- there is one piece at least, so how the last one ended is the same behind another
record HasPieces (requests : Keeping) (connection : Connection) : Type 0 where
  pub is : IsInPieces requests connection
  pub last : (before : Connection) → ended_of (before ∷ is.pieces) ≡ connection.output.ended

module _ (limit : ℕ) (old_style : List Request) where
  -- a connection with one mark at most is one piece
  alone : (before after : List Request) (bytes : List ℕ) (marks : List Mark) (ended : Ended) (out : List ℕ)
      → length marks ≤ 1 → Serves (keeping limit old_style before after) bytes marks ended out
      → HasPieces (keeping limit old_style before after) (connection_of bytes marks ended out)
  unfolding connection_of
  alone before after bytes marks ended out few serves = record {
    is = record {
      pieces = connection_of bytes marks ended out ∷ [];
      in_turn = (after, serves, refl);
      one_each = (few, tt);
      read = sym (append_nil bytes);
      marks = sym (append_nil marks);
      written = sym (append_nil out);
      ended = refl;
    };
    last = λ first. refl;
  }

  in_pieces : (before after : List Request) (bytes : List ℕ) (marks : List Mark) (ended : Ended) (out : List ℕ)
      → Serves (keeping limit old_style before after) bytes marks ended out
      → HasPieces (keeping limit old_style before after) (connection_of bytes marks ended out)
  unfolding connection_of
  in_pieces before after bytes [] ended out serves = alone before after bytes [] ended out (omega arith) serves
  in_pieces before after bytes (mark ∷ []) ended out serves =
      alone before after bytes (mark ∷ []) ended out (omega arith) serves
  in_pieces before after bytes (mark ∷ other ∷ marks) ended out serves =
      let cut = behind_first limit old_style before after bytes out mark other marks ended serves in
      let later =
      in_pieces cut.between after (drop cut.count bytes) (other ∷ marks) ended (drop cut.size out) cut.others in
      let first = connection_of (take cut.count bytes) (mark ∷ []) cut.first_ended (take cut.size out) in
      record {
        is = record {
          pieces = first ∷ later.is.pieces;
          in_turn = (cut.between, cut.first, later.is.in_turn);
          one_each = (omega arith, later.is.one_each);
          read = sym (take-append-drop cut.count bytes) ∙ ap (λ l. take cut.count bytes ++ l) later.is.read;
          marks = ap (λ l. mark ∷ l) later.is.marks;
          written = sym (take-append-drop cut.size out) ∙ ap (λ l. take cut.size out ++ l) later.is.written;
          ended = sym (later.last first);
        };
        last = λ before'. later.last first;
      }

pub served_in_pieces : (requests : Keeping) (connection : Connection)
    → Serves requests connection.read connection.output.marks connection.output.ended connection.output.bytes
    → IsInPieces requests connection
unfolding connection_of
served_in_pieces requests connection serves =
    (in_pieces requests.limit requests.old_style requests.before requests.after connection.read
    connection.output.marks connection.output.ended connection.output.bytes serves).is

-- ---- a connection that was stopped

module _ (limit : ℕ) (old_style after : List Request) (crash : Crash) (extra : ℕ) (few : extra ≤ 1)
    (here : IsStopAt (at_first_arrival crash) 1) (all_is : marked (at_first_arrival crash) 1 ≡ extra)
    (none_is : answered (at_first_arrival crash) 1 ≡ 0) where
  abbrev Stopped : List Request → List ℕ → List Mark → List ℕ → Type 0
  Stopped before bytes marks out = IsStoppedInPieces (keeping limit old_style before after) bytes crash marks out

  stop : (arrival : Arrival) (arrivals : List Arrival) (before : List Request) (bytes out : List ℕ) (marks : List Mark)
      → BeginsArrivals bytes (arrival ∷ arrivals) Ending.Closed → length marks ≡ length arrivals + extra
      → MarksFit limit before (arrival ∷ arrivals) marks
      → out ≡ text_with old_style before (arrival ∷ arrivals) Ending.Closed (take (length arrivals) marks)
      → after ≡ kept_by before (completed (arrival ∷ arrivals) marks) → Stopped before bytes marks out
  stop arrival [] before bytes out marks begins all fit written kept = record {
    pieces = [];
    between = before;
    in_turn = refl;
    one_each = tt;
    last_read = bytes;
    last_marks = marks;
    last_written = out;
    stopped = record {
      arrivals = arrival ∷ [];
      begins = begins;
      here = here;
      all = omega (arith, all, all_is);
      fit = fit;
      written =
          written ∙ ap (λ n. text_with old_style before (arrival ∷ []) Ending.Closed (take n marks)) (sym none_is);
      kept = kept;
    };
    read = refl;
    marks_are = refl;
    written = refl;
  }
  stop (Refused refusal) (next ∷ arrivals) before bytes out marks begins all fit written kept =
      absurd (let none = begins.1 in cc)
  stop (Read m) (next ∷ arrivals) before bytes out [] begins all fit written kept = absurd (omega (arith, all))
  stop (Read m) (next ∷ arrivals) before bytes out (mark ∷ marks) begins all fit written kept =
      let open' = more_goes_on m next arrivals begins.2 in
      let place = between limit old_style before after bytes out m begins.0 begins.1 open' mark in
      let size = length (text limit old_style before after bytes out m begins.0 begins.1 open' mark) in
      stopped_parts limit old_style before after bytes out m begins.0 begins.1 open' mark crash (next ∷ arrivals) marks
      (length arrivals) fit written
      (stop next arrivals place (drop begins.0 bytes) (drop size out) marks (begins.3 open') (omega (arith, all))
      (fit_cut limit old_style before after bytes out m begins.0 begins.1 open' mark (next ∷ arrivals) Ending.Closed
      marks fit)
      (others_written limit old_style before after bytes out m begins.0 begins.1 open' mark (next ∷ arrivals)
      Ending.Closed (take (length arrivals) marks) written)
      (kept_cut limit old_style before after bytes out m begins.0 begins.1 open' mark (next ∷ arrivals) Ending.Closed
      marks kept))

module _ (limit : ℕ) (old_style before after : List Request) (bytes out : List ℕ) (marks : List Mark) where
  -- of so many arrivals these are marked, and these answered
  by_arrivals : (crash : Crash) (extra : ℕ) → extra ≤ 1 → IsStopAt (at_first_arrival crash) 1
      → marked (at_first_arrival crash) 1 ≡ extra → answered (at_first_arrival crash) 1 ≡ 0
      → ((n : ℕ) → IsStopAt crash (suc n) → (marked crash (suc n) ≡ n + extra) × (answered crash (suc n) ≡ n))
      → (IsStopAt crash 0 → ⊥)
      → IsStopped (keeping limit old_style before after) bytes crash marks out
      → IsStoppedInPieces (keeping limit old_style before after) bytes crash marks out
  by_arrivals crash extra few here all_is none_is counts some s = at_arrivals s.arrivals s.begins s.here s.all s.fit
      s.written s.kept
    where
      at_arrivals : (arrivals : List Arrival) → BeginsArrivals bytes arrivals Ending.Closed
          → IsStopAt crash (length arrivals) → length marks ≡ marked crash (length arrivals)
          → MarksFit limit before arrivals marks
          → out ≡ text_with old_style before arrivals Ending.Closed (take (answered crash (length arrivals)) marks)
          → after ≡ kept_by before (completed arrivals marks)
          → IsStoppedInPieces (keeping limit old_style before after) bytes crash marks out
      at_arrivals [] begins stop_here all fit written kept = absurd (some stop_here)
      at_arrivals (arrival ∷ arrivals) begins stop_here all fit written kept =
          let count = counts (length arrivals) stop_here in
          stop limit old_style after crash extra few here all_is none_is arrival arrivals before bytes out marks begins
          (all ∙ count.0) fit
          (written ∙ ap (λ n. text_with old_style before (arrival ∷ arrivals) Ending.Closed (take n marks)) count.1)
          kept

  in_pieces_until : (crash : Crash) → IsStopped (keeping limit old_style before after) bytes crash marks out
      → IsStoppedInPieces (keeping limit old_style before after) bytes crash marks out
  in_pieces_until No s = absurd s.here
  in_pieces_until (Before j) s =
      by_arrivals (Before j) 0 (omega arith) refl refl refl
      (λ n here. (grind (arith, nat_tests, here), grind (arith, nat_tests, here)))
      (λ here. omega (arith, here)) s
  in_pieces_until (After j) s =
      by_arrivals (After j) 1 (omega arith) refl refl refl
      (λ n here. (grind (arith, nat_tests, here), grind (arith, nat_tests, here)))
      (λ here. omega (arith, here)) s

pub stopped_in_pieces : (requests : Keeping) (bytes : List ℕ) (crash : Crash) (marks : List Mark) (out : List ℕ)
    → IsStopped requests bytes crash marks out → IsStoppedInPieces requests bytes crash marks out
stopped_in_pieces requests bytes crash marks out s =
    in_pieces_until requests.limit requests.old_style requests.before requests.after bytes out marks crash s
