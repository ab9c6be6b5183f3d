-- The requests that marked arrivals completed, found one after another.
use Rattle.std.proofs.Common.{◌≡◌, ◌≢◌, ℕ, ◌+◌, ◌<◌, ◌≤◌, true, false, List, [], ◌∷◌, ◌++◌, length, take, drop, ◌-◌}
use Rattle.std.proofs.Common.{refl, sym, ap, ◌∙◌, subst, append_assoc, arith}
use Rattle.std.specs.Prelude.{slice_range}
use Rattle.std.proofs.lemmas.Grind.{common_steps}
use Rattle.http_messages.specs.declared.head.HeadFault.{HeadFault}
use Rattle.http_messages.specs.declared.head.HeadFault.TheVariants.{Memory}
use Rattle.http_messages.specs.declared.refusal.Refusal.TheVariants.{Head}
use Rattle.http_messages.specs.Block.{EndsAt, IsBlockEnd, IsWholeBlock, skipped_len, from_block}
use Rattle.http_messages.specs.Head.{RequestParts, IsHead, IsHeadFault, body_length, closes}
use Rattle.http_messages.specs.Message.{Arrival, Read, Refused, Ending, BeginsRequest, ArrivalsThen, NoneFollows}
use Rattle.http_messages.specs.Request.{Request as Message}
use Rattle.http_messages.proofs.BlockLemmas.{EndsAt-within}
use Rattle.http_messages.proofs.MoreBytes.{EndsAt-more, EndsAt-front, IsBlockEnd-within, skipped_len-more}
use Rattle.http_messages.proofs.MoreBytes.{from_block-more, block-more}
use Rattle.http_messages.proofs.Unique.{BeginsHead-unique, BeginsRequest-unique, IsRefused-excludes}
use Rattle.filing_model.specs.declared.served.Mark.{Mark}
use Rattle.filing_model.specs.Request.{Request}
use Rattle.filing_model.specs.Serving.{AnyFollows}
use Rattle.filing_model.specs.Text.{completed, completed_at}
use Rattle.filing_model.proofs.Lists.{append_nil}

-- ---- one arrival

-- ---- the block that bytes begin with, alone

module _ (front rest : List ℕ) (b : IsBlockEnd (front ++ rest) (length front)) where
  four : 4 ≤ length front
  four = omega (arith, (EndsAt-within (from_block (front ++ rest)) b.0 b.1.ends).0, b.2)

  alone : IsWholeBlock front
  alone =
      let same = from_block-more front rest four in
      let skipped = skipped_len-more front rest four in
      let size : length (from_block front) ≡ length front - skipped_len front = grind (arith, common_steps) in
      let within : b.0 ≤ length (from_block front) = omega (arith, b.2, skipped, size) in (
        b.0,
        record {
          ends = EndsAt-front (from_block front) rest b.0 within (subst (λ text. EndsAt text b.0) same b.1.ends);
          first = λ k low ends. b.1.first k low (subst (λ text. EndsAt text k) (sym same)
              (EndsAt-more (from_block front) rest k ends));
          short = b.1.short;
        },
        b.2 ∙ ap (λ n. n + b.0) skipped,
      )

  alone-text : from_block front ≡ slice_range (front ++ rest) (skipped_len (front ++ rest)) (length front)
  alone-text =
      let whole : slice_range front (skipped_len front) (length front) ≡ from_block front =
      grind (arith, common_steps) in
      sym (block-more front rest (length front) alone ∙ whole)

-- the first bytes, up to the end of the block, are a whole block
pub first_block : (bytes : List ℕ) (end : ℕ) → IsBlockEnd bytes end
    → IsWholeBlock (take end bytes) × (from_block (take end bytes) ≡ slice_range bytes (skipped_len bytes) end)
first_block bytes end block =
    let within = (IsBlockEnd-within bytes end block).2 in
    let joined : take end bytes ++ drop end bytes ≡ bytes = grind (arith, common_steps) in
    let count : length (take end bytes) ≡ end = grind (arith, common_steps, within) in
    let here : IsBlockEnd (take end bytes ++ drop end bytes) (length (take end bytes)) =
    subst (λ bs. IsBlockEnd bs (length (take end bytes))) (sym joined)
    (subst (IsBlockEnd bytes) (sym count) block) in (
      alone (take end bytes) (drop end bytes) here,
      alone-text (take end bytes) (drop end bytes) here
          ∙ ap (λ bs. slice_range bs (skipped_len bs) (length (take end bytes))) joined
          ∙ ap (slice_range bytes (skipped_len bytes)) count,
    )

-- ---- the request that bytes begin with

module _ (bytes : List ℕ) (end : ℕ) (block : IsBlockEnd bytes end) where
  -- its body isn't whole
  pub none_short : (parts : RequestParts) (len : ℕ) → IsHead (slice_range bytes (skipped_len bytes) end) parts
      → len ≡ body_length parts → length bytes < end + len → (m : Message) (n : ℕ) → ¬ (BeginsRequest bytes m n)
  none_short parts len head is short m n b =
      let one = BeginsHead-unique bytes parts m.head end b.head_len (record { block = block; head = head }) b.head in
      let size : body_length parts ≡ body_length m.head = ap body_length one.0 in
      omega (arith, one.1, size, is, short, b.length_is, b.whole)

  -- it is whole
  pub begins_request : (parts : RequestParts) (len : ℕ) (body : List ℕ)
      → IsHead (slice_range bytes (skipped_len bytes) end) parts → len ≡ body_length parts → end + len ≤ length bytes
      → body ≡ slice_range bytes end (end + len)
      → BeginsRequest bytes (record { head = parts; body = body }) (end + len)
  begins_request parts len body head is within part =
      record {
        head_len = end;
        head = record { block = block; head = head };
        length_is = ap (λ n. end + n) is;
        whole =
            within;
        body = part;
      }

  -- its head has a fault
  pub none_fault : (fault : HeadFault) → fault ≢ Memory → IsHeadFault (slice_range bytes (skipped_len bytes) end) fault
      → (m : Message) (n : ℕ) → ¬ (BeginsRequest bytes m n)
  none_fault fault other is m n b =
      IsRefused-excludes bytes m.head b.head_len (Head fault) b.head (end, block, other, is)

-- ---- one after another

-- what may follow the arrivals, and that there are enough of them for the marks
pub record IsCovered (Follows : List ℕ → Ending → Type 0) (Covers : List Mark → List Arrival → Type 0) : Type 0 where
  pub none : (rest : List ℕ) (ending : Ending) (mark : Mark) (marks : List Mark) → Follows rest ending
      → Covers (mark ∷ marks) [] → (m : Message) (n : ℕ) → ¬ (BeginsRequest rest m n)
  pub next : (mark : Mark) (marks : List Mark) (arrival : Arrival) (arrivals : List Arrival)
      → Covers (mark ∷ marks) (arrival ∷ arrivals) → Covers marks arrivals

-- there are as many
abbrev pub IsFew : List Mark → List Arrival → Type 0
IsFew marks arrivals = length marks ≤ length arrivals

-- there may be more
abbrev pub AnyMarks : List Mark → List Arrival → Type 0
AnyMarks marks arrivals = Unit {0}

-- of the first arrivals
pub first-covered : IsCovered AnyFollows IsFew
first-covered = record {
  none = λ rest ending mark marks follows few m n begins. omega (arith, few);
  next = λ mark marks arrival arrivals few. omega (arith, few);
}

-- of all arrivals
pub all-covered : IsCovered NoneFollows AnyMarks
all-covered = record {
  none = λ rest ending mark marks follows any m n begins. follows.1.none m n begins;
  next = λ mark marks arrival arrivals any. tt;
}

-- of the requests that were completed these are found, and the other marks are those of the arrivals that the rest
-- begins with
pub record IsAhead (Follows : List ℕ → Ending → Type 0) (Covers : List Mark → List Arrival
    → Type 0) (rest : List ℕ) (marks : List Mark) (all list : List Request) : Type 0 where
  pub arrivals : List Arrival
  pub ending : Ending
  pub begins : ArrivalsThen Follows rest arrivals ending
  pub covers : Covers marks arrivals
  pub same : all ≡ list ++ completed arrivals marks

no_marks : (arrivals : List Arrival) → completed arrivals [] ≡ []
unfolding completed
no_marks [] = refl
no_marks (arrival ∷ arrivals) = refl

no_arrivals : (marks : List Mark) → completed [] marks ≡ []
unfolding completed
no_arrivals marks = refl

module _ (Follows : List ℕ → Ending → Type 0) (Covers : List Mark → List Arrival
    → Type 0) (covered : IsCovered Follows Covers) (rest : List ℕ) where
  -- no marks are left
  pub ahead_none : (all list : List Request) → IsAhead Follows Covers rest [] all list → list ≡ all
  ahead_none all list a = sym (a.same ∙ ap (λ more. list ++ more) (no_marks a.arrivals) ∙ append_nil list)

  module _ (mark : Mark) (marks : List Mark) (all list : List Request) where
    -- the rest begins with no message
    pub ahead_over : IsAhead Follows Covers rest (mark ∷ marks) all list
        → ((m : Message) (n : ℕ) → ¬ (BeginsRequest rest m n)) → list ≡ all
    unfolding completed
    ahead_over a none = by_arrivals a.arrivals a.ending a.begins a.same
      where
        by_arrivals : (arrivals : List Arrival) (ending : Ending) → ArrivalsThen Follows rest arrivals ending
            → all ≡ list ++ completed arrivals (mark ∷ marks) → list ≡ all
        by_arrivals [] ending begins same = sym (same ∙ append_nil list)
        by_arrivals (Read m ∷ arrivals) ending begins same = absurd (none m begins.0 begins.1)
        by_arrivals (Refused refusal ∷ arrivals) ending begins same =
            sym (same ∙ ap (λ ps. list ++ completed ps marks) begins.1 ∙ append_nil list)

    -- what a message completes at which the rest begins, and those after it
    record Step (m : Message) (n : ℕ) : Type 0 where
      arrivals : List Arrival
      ending : Ending
      closed : closes m.head ≡ true → arrivals ≡ []
      open' : closes m.head ≡ false → ArrivalsThen Follows (drop n rest) arrivals ending
      covers : Covers marks arrivals
      same : all ≡ (list ++ completed_at (Read m) mark) ++ completed arrivals marks

    step : IsAhead Follows Covers rest (mark ∷ marks) all list → (m : Message) (n : ℕ) → BeginsRequest rest m n
        → Step m n
    unfolding completed
    step a m n here = by_arrivals a.arrivals a.ending a.begins a.covers a.same
      where
        by_arrivals : (arrivals : List Arrival) (ending : Ending) → ArrivalsThen Follows rest arrivals ending
            → Covers (mark ∷ marks) arrivals → all ≡ list ++ completed arrivals (mark ∷ marks) → Step m n
        by_arrivals [] ending begins covers same = absurd (covered.none rest ending mark marks begins covers m n here)
        by_arrivals (Refused refusal ∷ arrivals) ending begins covers same =
            absurd (IsRefused-excludes rest m.head here.head_len refusal here.head begins.0)
        by_arrivals (Read other ∷ arrivals) ending (k, there, closed, open') covers same =
            let one = BeginsRequest-unique rest other m k n there here in
            record {
              arrivals = arrivals;
              ending = ending;
              closed = λ closing. (closed (ap (λ (o : Message). closes o.head) one.0 ∙ closing)).0;
              open' = λ staying. subst (λ (j : ℕ). ArrivalsThen Follows (drop j rest) arrivals ending) one.1
                  (open' (ap (λ (o : Message). closes o.head) one.0 ∙ staying));
              covers = covered.next mark marks (Read other) arrivals covers;
              same = same ∙ ap (λ (o : Message). list ++ (completed_at (Read o) mark ++ completed arrivals marks)) one.0
                  ∙ sym (append_assoc list (completed_at (Read m) mark) (completed arrivals marks));
            }

    -- it begins with a message that closes
    pub ahead_closed : IsAhead Follows Covers rest (mark ∷ marks) all list → (m : Message) (n : ℕ)
        → BeginsRequest rest m n → closes m.head ≡ true → list ++ completed_at (Read m) mark ≡ all
    ahead_closed a m n here closing =
        let s = step a m n here in
        let found : List Request = list ++ completed_at (Read m) mark in
        sym (s.same ∙ ap (λ (ps : List Arrival). found ++ completed ps marks) (s.closed closing)
        ∙ ap (λ more. found ++ more) (no_arrivals marks) ∙ append_nil found)

    -- it begins with another one
    pub ahead_more : IsAhead Follows Covers rest (mark ∷ marks) all list → (m : Message) (n : ℕ)
        → BeginsRequest rest m n → closes m.head ≡ false
        → IsAhead Follows Covers (drop n rest) marks all (list ++ completed_at (Read m) mark)
    ahead_more a m n here staying =
        let s = step a m n here in
        record { arrivals = s.arrivals; ending = s.ending; begins = s.open' staying; covers = s.covers; same = s.same }

-- no marks are left behind the last
pub drop_all : (marks : List Mark) (at : ℕ) → length marks ≤ at → drop at marks ≡ []
drop_all marks at past = grind (arith, common_steps)
