-- What is changed of one connection that was taken out of its place.
use Rattle.std.proofs.Common.{◌≡◌, ◌⊎◌, inl, inr, ℕ, ◌+◌, ◌≤◌, Bool, true, false, List, [], ◌∷◌, ◌++◌, length}
use Rattle.std.proofs.Common.{Option, Some, None, IfSome, refl, sym, ap, ◌∙◌, arith, subst, vec_len}
use Rattle.std.specs.Prelude.{IsSome, ◌&&◌, ◌||◌, is_none, is_some, if◌then◌else◌, min, nat_lt}
use Rattle.std.proofs.lemmas.Bool.Decides.{nat_tests}
use Rattle.std.specs.Option.{option_map_or}
use Rattle.http_messages.specs.Message.{Arrival, interim}
use Rattle.http_connection.specs.Connection.{lent}
use Rattle.connection_hall.specs.declared.hall.Hall.{Hall}
use Rattle.connection_hall.specs.declared.ready.Ready.{Ready}
use Rattle.connection_hall.specs.declared.loan.Loan.{Loan}
use Rattle.connection_hall.specs.declared.served.Served.{Served}
use Rattle.connection_hall.specs.declared.stream.Stream.{Ghosts}
use Rattle.connection_hall.specs.declared.why.Why.TheVariants.{Late}
use Rattle.connection_hall.specs.Answers.{Answer}
use Rattle.connection_hall.specs.Connections.{HoldsRest, IsReady, IsServed, IsCutOff, HoldsWithin}
use Rattle.connection_hall.specs.Connections.{KeepsStanding}
use Rattle.connection_hall.specs.Connections.{arrival, HasWritten, NeedsMore, IsWaiting, IsShortOfLoan, IsEnd}
use Rattle.connection_hall.specs.Connections.{has_passed as has_passed_term}
use Rattle.connection_hall.specs.Deadlines.{patience, has_passed}
use Rattle.connection_hall.specs.Lending.{lent as lent_of, is_short}
use Rattle.connection_hall.specs.Comings.{Traffic}
use Rattle.connection_hall.specs.Places.{lent_places}
use Rattle.connection_hall.specs.Ready.{arrival_of}
use Rattle.connection_hall.specs.Running.{IsBounded, IsInHand, longest, is_late, AreRunning, Advances, IsShort}
use Rattle.connection_hall.proofs.Halls.{changed, frames_same, short_same}
use Rattle.connection_hall.proofs.Told.{told_unkept}

-- ---- bounds

pub longest_some : (answers : List Answer) → length interim ≤ longest answers
longest_some [] = omega arith
longest_some (answer ∷ answers) = let h = longest_some answers in omega (arith, h)

pub longest_more : (answers more : List Answer) → longest answers ≤ longest (answers ++ more)
longest_more [] more = longest_some more
longest_more (answer ∷ answers) more = let h = longest_more answers more in omega (arith, h)

pub longest_last : (answers : List Answer) (last : Answer)
    → length interim + length last.text ≤ longest (answers ++ last ∷ [])
longest_last [] last = omega arith
longest_last (answer ∷ answers) last = let h = longest_last answers last in omega (arith, h)

-- ---- its loan, and the moment from which its peer is waited for

rest_lent : {S : Type 0} (c c' : Served S) → c' ≡ record c { loan = c'.loan; since = c'.since } → HoldsRest c
    → HoldsRest c'
rest_lent c c' is rest = rw is (record { rest = rest.rest; interim = rest.interim })

ready_lent : {S : Type 0} (c c' : Served S) (ready : Option Ready)
    → c' ≡ record c { loan = c'.loan; since = c'.since } → IfSome ready (IsReady c) → IfSome ready (IsReady c')
ready_lent c c' None is h = tt
ready_lent c c' (Some ready) is h = rw is (record {
  next = h.next;
  owes_nothing = h.owes_nothing;
  open_still = h.open_still;
})

pub lent_is : {S : Type 0} (c c' : Served S) (loan : Option Loan) (since : Option ℕ)
    → c' ≡ record c { loan = loan; since = since } → c' ≡ record c { loan = c'.loan; since = c'.since }
lent_is c c' loan since is =
    subst (λ (k : Served _). k ≡ record c { loan = k.loan; since = k.since }) (sym is) refl

pub served_lent : {S N : Type 0} (s : Ghosts S N) (answers : List Answer) (c c' : Served S)
    → c' ≡ record c { loan = c'.loan; since = c'.since } → IsServed s answers c → IsServed s answers c'
served_lent s answers c c' is told =
    let c2 : Served _ = record c { loan = c'.loan; since = c'.since } in
    subst (λ (it : Served _). IsServed s answers it) (sym is) (record {
      bytes = told.bytes;
      read = told.read;
      came_is = told.came_is;
      went_is = told.went_is;
      ends = told.ends;
      over = told.over;
      shut = told.shut;
      ended = told.ended;
      rest = λ ended. rest_lent c c2 refl (told.rest ended);
      early = told.early;
      ready = ready_lent c c2 c.ready refl told.ready;
    })

needs_lent : {S : Type 0} (c c' : Served S) → c' ≡ record c { loan = c'.loan; since = c'.since } → NeedsMore c
    → NeedsMore c'
needs_lent c c' is needs =
    let rest = rest_lent c c' is needs.rest in
    record {
      owes_nothing = ap (λ (it : Served _). it.owed.items) is ∙ needs.owes_nothing;
      none_ready = ap (λ (it : Served _). it.ready) is ∙ needs.none_ready;
      open_still = ap (λ (it : Served _). it.is_closing) is ∙ needs.open_still;
      goes_on = rw is needs.goes_on;
      rest = rest;
      short = rw is needs.short;
    }

pub waits_lent : {S N : Type 0} (s : Ghosts S N) (c c' : Served S)
    → c' ≡ record c { loan = c'.loan; since = c'.since } → IsWaiting s c → IsWaiting s c'
waits_lent s c c' is waits = elim waits [
  | inl stuck ↦ inl (rw is stuck)
  | inr idle ↦ inr (needs_lent c c' is idle.0, ap (λ (it : Served _). s.is_idle it.stream) is ∙ idle.1)
]

pub short_since : {S : Type 0} (c c' : Served S) → c' ≡ record c { loan = c'.loan; since = c'.since }
    → c'.loan ≡ c.loan → IsShortOfLoan c → IsShortOfLoan c'
short_since c c' is same short = record {
  needs_more = needs_lent c c' is short.needs_more;
  not_lent = same ∙ short.not_lent;
  full = rw is short.full;
}

-- ---- why it is over

pub ends_late : {S N : Type 0} (s : Ghosts S N) (c : Served S) → IsWaiting s c → IsEnd s Late c
ends_late s c waits = elim waits [ inl stuck ↦ inr stuck.1 | inr idle ↦ inl idle.1 ]

limit_given : (limit since : Option ℕ) (now : ℕ) → has_passed limit since now ≡ true → IsSome limit
limit_given None since now h = absurd (let e = h in cc)
limit_given (Some patience) since now h = refl

loan_given : (ready : Bool) (loan : Option Loan) (passed : Loan → Bool)
    → (ready && option_map_or passed loan false) ≡ true → IsSome loan
loan_given ready None passed h = absurd (none ready h)
  where
    none : (ready : Bool) → (ready && false) ≡ true → ⊥
    none true e = let h = e in cc
    none false e = let h = e in cc
loan_given ready (Some loan) passed h = refl

either : (a b : Bool) → (a || b) ≡ true → (a ≡ true) ⊎ (b ≡ true)
either true b h = inl refl
either false b h = inr h

both : (a b : Bool) → (a && b) ≡ true → b ≡ true
both true b h = h
both false b h = absurd (let e = h in cc)

pub late_reason : {S : Type 0} (hall : Hall S) (c : Served S) (now : ℕ) → is_late hall c now ≡ true
    → patience hall.deadlines ≡ hall.bounds.patience → IsSome hall.bounds.patience ⊎ IsSome c.loan
late_reason hall c now late limit =
    elim (either (has_passed (patience hall.deadlines) c.since now) (is_short hall.loans && has_passed_term c now)
    late) [
      | inl passed ↦ inl (subst (λ (o : Option ℕ). IsSome o) limit
          (limit_given (patience hall.deadlines) c.since now passed))
      | inr term ↦ inr (loan_given (is_none c.ready) c.loan _ (both (is_short hall.loans) (has_passed_term c now) term))
    ]

-- it was told its answers, and no memory was left for one more
pub cut_off : {S N : Type 0} (s : Ghosts S N) (answers : List Answer) (c c' : Served S)
    → c' ≡ record c { owed = c'.owed } → c'.owed.items ≡ c.owed.items → IsServed s answers c → IsCutOff s answers c'
cut_off s answers c c' is same told =
    subst (λ (it : Served _). IsCutOff s answers it) (sym is)
    (told_unkept _ _ _ answers c (record c { owed = c'.owed }) refl same told)

-- ---- it went on

pub bounded_on : {S : Type 0} (answers : List Answer) (c c' : Served S) (room : ℕ) → room ≤ 16384
    → ((read : ℕ) → room ≤ read → HoldsWithin read c → HoldsWithin read c')
    → ((most : ℕ) → length interim ≤ most → vec_len c.owed ≤ most → vec_len c'.owed ≤ most) → IsBounded answers c
    → IsBounded answers c'
bounded_on answers c c' room small held owed bounded = record {
  held = held 16384 small bounded.held;
  owed = owed (longest answers) (longest_some answers) bounded.owed;
}

pub hand_after : {S N : Type 0} (s : Ghosts S N) (answers : List Answer) (old new : Hall S) (place : ℕ) (c c' :
    Served S)
    → new.left ≡ old.left → new.bounds ≡ old.bounds → KeepsStanding s c c' → IsServed s answers c'
    → IsBounded answers c'
    → IsInHand s answers old place c → IsInHand s answers new place c'
hand_after s answers old new place c c' left bounds same served bounded hand = record {
  served = served;
  watched = same.place ∙ hand.watched;
  bounded = bounded;
  come = rw (same.number, left, bounds) hand.come;
}

-- a note on the stream changes nothing of what it was told
pub served_noted : {S N : Type 0} (s : Ghosts S N) (answers : List Answer) (c : Served S) (stream : S)
    → s.came stream ≡ s.came c.stream → s.went stream ≡ s.went c.stream → s.is_ended stream ≡ s.is_ended c.stream
    → IsServed s answers c → IsServed s answers (record c { stream = stream })
served_noted s answers c stream came went ended told = record {
  bytes = told.bytes;
  read = told.read;
  came_is = rw came told.came_is;
  went_is = rw went told.went_is;
  ends = told.ends;
  over = told.over;
  shut = told.shut;
  ended = told.ended ∙ sym ended;
  rest = λ is. let rest = told.rest is in record { rest = rest.rest; interim = rest.interim };
  early = told.early;
  ready = ready_noted c.ready told.ready;
}
  where
    ready_noted : (ready : Option Ready) → IfSome ready (IsReady c)
        → IfSome ready (IsReady (record c { stream = stream }))
    ready_noted None h = tt
    ready_noted (Some ready) h = record {
      next = h.next;
      owes_nothing = h.owes_nothing;
      open_still = h.open_still;
    }

-- one that is to be answered owes nothing
pub ready_owes : {S N : Type 0} (s : Ghosts S N) (answers : List Answer) (c : Served S) (arrived : Arrival)
    → arrival c ≡ Some arrived → IsServed s answers c → vec_len c.owed ≡ 0
ready_owes s answers c arrived is told = c.owed.ok.0 ∙ ap length (none c.ready is told.ready)
  where
    none : (ready : Option Ready) → arrival_of ready (lent c.machine) ≡ Some arrived → IfSome ready (IsReady c)
        → c.owed.items ≡ []
    none None is h = absurd (let e = is in cc)
    none (Some ready) is h = h.owes_nothing

-- it went on in its turn, and owes an interim response more at most
pub went_on : {S N : Type 0} (s : Ghosts S N) (answers : List Answer) (called called' : ℕ → Bool) (old new : Hall S)
    (traffic : Option (Traffic S)) (c c' : Served S) → new.places.items ≡ old.places.items → new.bounds ≡ old.bounds
    → new.left ≡ old.left → new.loans ≡ old.loans → new.deadlines ≡ old.deadlines
    → new.owed ≡ min (old.owed + 25) 18446744073709551615 → ((i : ℕ) → called i ≡ true → called' i ≡ true)
    → KeepsStanding s c c'
    → ((most : ℕ) → length interim ≤ most → vec_len c.owed ≤ most → vec_len c'.owed ≤ most)
    → AreRunning s answers (Some c) called old traffic → AreRunning s answers (Some c') called' new traffic
went_on s answers called called' old new traffic c c' places bounds left loans deadlines owed_is turns same grows
    running =
    changed s answers called called' old new traffic c c' places (frames_same old new bounds left loans deadlines) left
    same.number
    (λ all. ap lent_of loans ∙ all
    ∙ ap (λ (o : Option Loan). lent_places old.places.items + (if is_some o then 1 else 0)) (sym same.loan))
    (λ h.
    let more = grows (vec_len c.owed + 25) (omega (arith, interim_len)) (omega arith) in
    omega (arith, h, more, owed_is)) turns (λ i it low short. inr (short_same s old new it loans short)) running
  where
    interim_len : length interim ≡ 25
    interim_len = refl

-- what it wrote does not depend on its loan
pub written_lent : {S N : Type 0} (s : Ghosts S N) (c : Served S) (slot : Option (Served S))
    → IfSome slot (λ c'. c' ≡ record c { loan = c'.loan; since = c'.since }) → HasWritten s c
    → IfSome slot (HasWritten s)
written_lent s c None same written = tt
written_lent s c (Some c') same written = rw same written

-- ---- it goes on

pub slot_is : {S : Type 0} (P : Served S → Type 0) (slot : Option (Served S)) (c : Served S) → slot ≡ Some c → P c
    → IfSome slot P
slot_is P slot c is at = rw is at

-- it rests, since its peer is waited for
pub goes_to_rest : {S N : Type 0} (s : Ghosts S N) (hall : Hall S) (was c : Served S) (since : ℕ)
    (slot : Option (Served S)) → IfSome slot (λ c'. c' ≡ record c { since = Some since }) → IsWaiting s c
    → IfSome slot (Advances s hall was)
goes_to_rest s hall was c since None same waits = tt
goes_to_rest s hall was c since (Some c') same waits =
    inr (inr (inl (waits_lent s c c' (lent_is c c' c.loan (Some since) same) waits, rw same refl)))

-- it got a loan, or is short of one
pub goes_with_loan : {S N : Type 0} (s : Ghosts S N) (hall : Hall S) (was c : Served S) (slot : Option (Served S))
    → IfSome slot (λ c'. IsSome c'.loan ⊎ IsShort hall c') → was.loan ≡ None → IfSome slot (Advances s hall was)
goes_with_loan s hall was c None lent none = tt
goes_with_loan s hall was c (Some c') lent none = elim lent [
  | inl has ↦ inr (inl (none, has))
  | inr short ↦ inr (inr (inr (inl short)))
]

pub not_laden : (most owed : ℕ) → owed ≤ most → nat_lt most owed ≡ false
not_laden most owed low = grind (arith, nat_tests)
