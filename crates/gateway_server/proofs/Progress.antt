-- What one more arrival does to a connection that was served so far.
use Rattle.std.proofs.Common.{◌≡◌, ℕ, Bool, true, false, List, [], ◌∷◌, ◌++◌, drop, map, refl, sym, ap, ◌∙◌, subst}
use Rattle.std.proofs.Common.{append_assoc, true≢false}
use Rattle.std.specs.Prelude.{if◌then◌else◌}
use Rattle.std.proofs.lemmas.Bool.{both_ways}
use Rattle.std.proofs.lemmas.List.{map-append, drop-append-le}
use Rattle.http_messages.specs.Head.{closes}
use Rattle.http_messages.specs.Message.{Arrival, Read, Refused, Ending, Rest, BeginsRequest, IsRefused, IsRest, Asks}
use Rattle.http_messages.specs.Message.{HasArrivals}
use Rattle.http_messages.specs.Request.{Request as Message}
use Rattle.http_messages.proofs.MoreBytes.{BeginsRequest-more}
use Rattle.filing_model.specs.declared.served.Mark.{Mark}
use Rattle.filing_model.specs.declared.served.Ended.TheVariants.{Closed, InputEnded}
use Rattle.filing_model.specs.Prefix.{IsPrefixOf}
use Rattle.filing_model.specs.Request.{Request}
use Rattle.filing_model.specs.Serving.{Keeping, keeping, kept_by, AreMarked, BeginsArrivals, IsServed, IsCutShort}
use Rattle.filing_model.specs.Text.{text_with, MarksFit, completed, next_interim}
use Rattle.filing_model.proofs.Lists.{append_nil}
use Rattle.filing_model.proofs.Appending.{completed-append, text-append, text_now, are_marked_now, kept_by-append}
use Rattle.filing_model.proofs.Appending.{AreMarked-append}
use Rattle.gateway_server.specs.Progress.{GoesThrough, HasServed}

-- ---- the bytes

-- what was gone through stays so where more is read
goes-more : (bytes : List ℕ) (messages : List Message) (rest more : List ℕ) → GoesThrough bytes messages rest
    → GoesThrough (bytes ++ more) messages (rest ++ more)
goes-more bytes [] rest more e = ap (λ bs. bs ++ more) e
goes-more bytes (message ∷ messages) rest more (n, begins, open', goes) = (
  n,
  BeginsRequest-more bytes more message n begins,
  open',
  subst (λ (bs : List ℕ). GoesThrough bs messages (rest ++ more)) (sym (drop-append-le n bytes more begins.whole))
      (goes-more (drop n bytes) messages rest more goes),
)

goes-push : (bytes : List ℕ) (messages : List Message) (rest : List ℕ) (message : Message) (n : ℕ)
    → GoesThrough bytes messages rest → BeginsRequest rest message n → closes message.head ≡ false
    → GoesThrough bytes (messages ++ message ∷ []) (drop n rest)
goes-push bytes [] rest message n e begins open' =
    (n, subst (λ (bs : List ℕ). BeginsRequest bs message n) e begins, open', ap (drop n) e)
goes-push bytes (first ∷ messages) rest message n (k, here, first_open, goes) begins open' =
    (k, here, first_open, goes-push (drop k bytes) messages rest message n goes begins open')

has_arrivals-after : (bytes : List ℕ) (messages : List Message) (rest : List ℕ) (arrivals : List Arrival)
    (ending : Ending) → GoesThrough bytes messages rest → HasArrivals rest arrivals ending
    → HasArrivals bytes (map Read messages ++ arrivals) ending
has_arrivals-after bytes [] rest arrivals ending e has = subst (λ (bs : List ℕ). HasArrivals bs arrivals ending) e has
has_arrivals-after bytes (message ∷ messages) rest arrivals ending (n, begins, open', goes) has = (
  n,
  begins,
  (λ closed. absurd (true≢false (sym closed ∙ open'))),
  (λ _. has_arrivals-after (drop n bytes) messages rest arrivals ending goes has),
)

-- no arrival, or the one that stands first
abbrev pub MayBegin : List ℕ → List Arrival → Type 0
MayBegin bytes [] = Unit {0}
MayBegin bytes (Read message ∷ arrivals) = ((n : ℕ) × BeginsRequest bytes message n) × (arrivals ≡ [])
MayBegin bytes (Refused refusal ∷ arrivals) = IsRefused bytes refusal × (arrivals ≡ [])

-- the arrivals after these messages
pub begins-after : (bytes : List ℕ) (messages : List Message) (rest : List ℕ) (last : List Arrival) (ending : Ending)
    → GoesThrough bytes messages rest → BeginsArrivals rest last ending
    → BeginsArrivals bytes (map Read messages ++ last) ending
begins-after bytes [] rest last ending goes begins = subst (λ bs. BeginsArrivals bs last ending) goes begins
begins-after bytes (message ∷ messages) rest last ending (n, here, open', goes) begins = (
  n,
  here,
  (λ (closed : closes message.head ≡ true). absurd (both_ways _ open' closed)),
  λ _. begins-after (drop n bytes) messages rest last ending goes begins,
)

-- what ends the arrivals that a fault cut short
abbrev pub cut_end : Bool → Ending
cut_end asks = if asks then Rest true else Ending.Closed

pub begins-last : (rest : List ℕ) (last : List Arrival) (asks : Bool) → MayBegin rest last
    → (asks ≡ true → (last ≡ []) × Asks rest true) → BeginsArrivals rest last (cut_end asks)
begins-last rest [] true may asked = (asked refl).1
begins-last rest [] false may asked = tt
begins-last rest (Read message ∷ arrivals) true may asked = absurd (let e = (asked refl).0 in cc)
begins-last rest (Read message ∷ arrivals) false may asked = (
  may.0.0,
  may.0.1,
  (λ _. (may.1, refl)),
  λ _. subst (λ ps. BeginsArrivals (drop may.0.0 rest) ps Ending.Closed)
      (sym may.1) tt,
)
begins-last rest (Refused refusal ∷ arrivals) true may asked = absurd (let e = (asked refl).0 in cc)
begins-last rest (Refused refusal ∷ arrivals) false may asked = (may.0, may.1, refl)

-- an arrival after which the connection closes is the last
abbrev pub closing : (rest : List ℕ) (arrival : Arrival) → MayBegin rest (arrival ∷ []) → Type 0
closing rest (Read message) b = closes message.head ≡ true
closing rest (Refused refusal) b = Unit {0}

has_arrivals-closing : (rest : List ℕ) (arrival : Arrival) (b : MayBegin rest (arrival ∷ [])) → closing rest arrival b
    → HasArrivals rest (arrival ∷ []) Ending.Closed
has_arrivals-closing rest (Read message) b closed =
    (b.0.0, b.0.1, (λ _. (refl, refl)), (λ open'. absurd (true≢false (sym closed ∙ open'))))
has_arrivals-closing rest (Refused refusal) b closed = (b.0, refl, refl)

-- ---- one more arrival

-- at first nothing was served
pub HasServed-none : (limit : ℕ) (old_style before : List Request)
    → HasServed (keeping limit old_style before before) [] [] [] []
unfolding completed MarksFit text_with
HasServed-none limit old_style before = record {
  messages = [];
  goes = refl;
  marked = record { all = refl; fit = tt };
  written = refl;
  kept = refl;
}

-- more was read
pub HasServed-more : (requests : Keeping) (bytes rest more : List ℕ) (marks : List Mark) (out : List ℕ)
    → HasServed requests bytes rest marks out → HasServed requests (bytes ++ more) (rest ++ more) marks out
HasServed-more requests bytes rest more marks out h = record {
  messages = h.messages;
  goes = goes-more bytes h.messages rest more h.goes;
  marked = h.marked;
  written = h.written;
  kept = h.kept;
}

module _ (requests : Keeping) (bytes rest : List ℕ) (marks : List Mark) (out : List ℕ)
    (h : HasServed requests bytes rest marks out) where
  abbrev pub done : List Request
  done = completed (map Read h.messages) marks

  -- marks, text and kept requests of further arrivals
  pub marked_on : (arrivals : List Arrival) (ms : List Mark) → AreMarked requests.limit requests.after arrivals ms
      → AreMarked requests.limit requests.before (map Read h.messages ++ arrivals) (marks ++ ms)
  marked_on arrivals ms m =
      AreMarked-append requests.limit requests.before (map Read h.messages) marks arrivals ms h.marked
      (are_marked_now requests.after requests.before done h.kept requests.limit arrivals ms m)

  pub written_on : (arrivals : List Arrival) (ending : Ending) (ms : List Mark)
      → out ++ text_with requests.old_style requests.after arrivals ending ms
      ≡ text_with requests.old_style requests.before (map Read h.messages ++ arrivals) ending (marks ++ ms)
  written_on arrivals ending ms =
      ap (λ o. o ++ text_with requests.old_style requests.after arrivals ending ms) h.written
      ∙ ap (λ t. text_with requests.old_style requests.before (map Read h.messages) Ending.Closed marks ++ t)
      (text_now requests.after requests.before done h.kept requests.old_style arrivals ending ms)
      ∙ sym (text-append requests.old_style requests.before (map Read h.messages) marks arrivals ending ms h.marked.all)

  pub kept_on : (arrivals : List Arrival) (ms : List Mark)
      → kept_by requests.after (completed arrivals ms)
      ≡ kept_by requests.before (completed (map Read h.messages ++ arrivals) (marks ++ ms))
  kept_on arrivals ms =
      ap (λ rs. kept_by rs (completed arrivals ms)) h.kept
      ∙ kept_by-append requests.before done (completed arrivals ms)
      ∙ ap (kept_by requests.before) (sym (completed-append (map Read h.messages) marks arrivals ms h.marked.all))

  -- the last arrival was marked and answered
  pub HasServed-last : (arrival : Arrival) (b : MayBegin rest (arrival ∷ [])) (mark : Mark) (after : List Request)
      → closing rest arrival b → AreMarked requests.limit requests.after (arrival ∷ []) (mark ∷ [])
      → after ≡ kept_by requests.after (completed (arrival ∷ []) (mark ∷ []))
      → IsServed (record requests { after = after }) bytes (marks ++ mark ∷ []) Closed
      (out ++ text_with requests.old_style requests.after (arrival ∷ []) Ending.Closed (mark ∷ []))
  HasServed-last arrival b mark after closed m kept = record {
    arrivals = map Read h.messages ++ arrival ∷ [];
    ending = Ending.Closed;
    splits = has_arrivals-after bytes h.messages rest (arrival ∷ []) Ending.Closed h.goes
        (has_arrivals-closing rest arrival b closed);
    marked = marked_on (arrival ∷ []) (mark ∷ []) m;
    written = written_on (arrival ∷ []) Ending.Closed (mark ∷ []);
    kept = kept ∙ kept_on (arrival ∷ []) (mark ∷ []);
    end = refl;
  }

  -- the input ended
  pub HasServed-end : (asks : Bool) → IsRest rest → Asks rest asks
      → IsServed requests bytes marks InputEnded (out ++ next_interim [] (Rest asks))
  unfolding text_with completed MarksFit
  HasServed-end asks is asked =
      subst (λ (ms : List Mark). IsServed requests bytes ms InputEnded (out ++ next_interim [] (Rest asks)))
      (append_nil marks) (record {
        arrivals = map Read h.messages ++ [];
        ending = Rest asks;
        splits = has_arrivals-after bytes h.messages rest [] (Rest asks) h.goes (asks, is, asked, refl);
        marked = marked_on [] [] (record { all = refl; fit = tt });
        written = written_on [] (Rest asks) [];
        kept = kept_on [] [];
        end = refl;
      })

  -- a message was marked and answered, and more may come
  pub HasServed-push : (message : Message) (n : ℕ) (mark : Mark) (after : List Request) → BeginsRequest rest message n
      → closes message.head ≡ false → AreMarked requests.limit requests.after (Read message ∷ []) (mark ∷ [])
      → after ≡ kept_by requests.after (completed (Read message ∷ []) (mark ∷ []))
      → HasServed (record requests { after = after }) bytes (drop n rest) (marks ++ mark ∷ [])
      (out ++ text_with requests.old_style requests.after (Read message ∷ []) Ending.Closed (mark ∷ []))
  HasServed-push message n mark after begins open' m kept =
      let arrivals : map Read (h.messages ++ message ∷ []) ≡ map Read h.messages ++ Read message ∷ [] =
      map-append Read h.messages (message ∷ []) in
      record {
        messages = h.messages ++ message ∷ [];
        goes = goes-push bytes h.messages rest message n h.goes begins open';
        marked = rw arrivals (marked_on (Read message ∷ []) (mark ∷ []) m);
        written = rw arrivals (written_on (Read message ∷ []) Ending.Closed (mark ∷ []));
        kept = rw arrivals (kept ∙ kept_on (Read message ∷ []) (mark ∷ []));
      }

  -- a fault ended it, with these marks of the arrival that stands next, and this part of its text
  pub HasServed-cut : (last : List Arrival) (asks : Bool) (ms : List Mark) (after : List Request) (part : List ℕ)
      → MayBegin rest last → (asks ≡ true → (last ≡ []) × Asks rest true)
      → AreMarked requests.limit requests.after last ms → after ≡ kept_by requests.after (completed last ms)
      → IsPrefixOf part (text_with requests.old_style requests.after last (cut_end asks) ms)
      → IsCutShort (record requests { after = after }) bytes (marks ++ ms) (out ++ part)
  HasServed-cut last asks ms after part begins asked m kept prefix = record {
    arrivals = map Read h.messages ++ last;
    ending = cut_end asks;
    begins = begins-after bytes h.messages rest last (cut_end asks) h.goes (begins-last rest last asks begins asked);
    marked = marked_on last ms m;
    written = (
      prefix.0,
      sym (written_on last (cut_end asks) ms) ∙ ap (λ t. out ++ t) prefix.1
          ∙ sym (append_assoc out part prefix.0),
    );
    kept = kept ∙ kept_on last ms;
  }
