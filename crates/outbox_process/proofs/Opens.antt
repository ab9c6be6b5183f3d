-- Open entries, by their ids.
use Rattle.std.proofs.Common.{◌≡◌, ◌≢◌, ◌∙◌, ℕ, zero, suc, ◌+◌, ◌<◌, Bool, true, false, cond, List, [], ◌∷◌, map}
use Rattle.std.proofs.Common.{filter, find, slice_get, Some, option_map, refl, sym, ap, arith}
use Rattle.std.specs.Prelude.{IfSome}
use Rattle.std.specs.List.{AllByRecursion}
use Rattle.filing_model.specs.Numbered.{changed_at}
use Rattle.filing_model.specs.Outbox.{Entry, State, Open, Confirmed, Refused, Clashed}
use Rattle.filing_model.specs.declared.state.State.{State as Stored}
use Rattle.outbox_tables.specs.Entries.{numbered, numbered_from, entry_at}
use Rattle.outbox_core.specs.Entries.{first_open, in_state, is_open, is_open_state, set_state}
use Rattle.outbox_core.specs.Reading.{view_pair, id_and_state}
use Rattle.outbox_core.proofs.EntryLemmas.{found_at}
use Rattle.outbox_process.specs.Rounds.{is_open_pair, open_ids, AreToSend}
use Rattle.outbox_process.specs.Sending.{IsOpenAt}
use Rattle.outbox_process.specs.Showing.{AreTold}

pub open_state : (state : State) → is_open_state state ≡ true → state ≡ Open
open_state Open is = refl
open_state (Confirmed n) is = cc
open_state Refused is = cc
open_state Clashed is = cc

-- ---- the first

passes : {X : Type 0} (p : X → Bool) (xs : List X) (x : X) → find p xs ≡ Some x → p x ≡ true
passes p [] x found = cc
passes p (y ∷ ys) x found = go (p y) refl found (passes p ys x)
  where
    go : (b : Bool) → p y ≡ b → cond b (Some y) (find p ys) ≡ Some x → (find p ys ≡ Some x → p x ≡ true) → p x ≡ true
    go true is same rest = let here : y ≡ x = cc in sym (ap p here) ∙ is
    go false is same rest = rest same

pub first_is_open : (entries : List Entry) (id : ℕ) (entry : Entry) → first_open entries ≡ Some (id, entry)
    → IsOpenAt entries id
first_is_open entries id entry found =
    let all : IfSome (find is_open (numbered entries)) (λ (x : ℕ × Entry). entry_at entries x.0 ≡ Some x.1) =
    found_at is_open entries in
    let at : entry_at entries id ≡ Some entry = rw found at all in
    let is : entry.state ≡ Open = open_state entry.state (passes is_open (numbered entries) (id, entry) found) in
    ap (option_map (λ (e : Entry). e.state)) at ∙ ap Some is

-- ---- all of them

abbrev open_from : ℕ → List Entry → List ℕ
open_from n es = map (λ e. e.0) (filter is_open (numbered_from n es))

later : (n m : ℕ) (es : List Entry) → m < n → AllByRecursion (λ other. other ≢ m) (open_from n es)
later n m [] less = tt
later n m (e ∷ es) less = go (is_open (n, e)) (later (suc n) m es (omega arith))
  where
    apart : n ≢ m
    apart same = omega (arith, same)

    go : (b : Bool) → AllByRecursion (λ other. other ≢ m) (open_from (suc n) es)
        → AllByRecursion (λ other. other ≢ m) (map (λ (x : ℕ × Entry). x.0)
        (cond b ((n, e) ∷ filter is_open (numbered_from (suc n) es)) (filter is_open (numbered_from (suc n) es))))
    go true rest = (apart, rest)
    go false rest = rest

to_send_from : (n k : ℕ) (all es : List Entry) → n ≡ suc k → ((i : ℕ) → slice_get all (k + i) ≡ slice_get es i)
    → AreToSend (open_from n es) all
to_send_from n k all [] at same = tt
to_send_from n k all (e ∷ es) at same =
    go (is_open (n, e)) refl (to_send_from (suc n) (suc k) all es (omega arith) (λ i. ap (slice_get all) (omega arith)
    ∙ same (suc i)))
  where
    here : entry_at all n ≡ Some e
    here = ap (entry_at all) at ∙ ap (slice_get all) (omega arith) ∙ same 0

    go : (b : Bool) → is_open (n, e) ≡ b → AreToSend (open_from (suc n) es) all
        → AreToSend (map (λ (x : ℕ × Entry). x.0) (cond b ((n, e) ∷ filter is_open (numbered_from (suc n) es))
        (filter is_open (numbered_from (suc n) es)))) all
    go true is rest = (
      ap (option_map (λ (x : Entry). x.state)) here ∙ ap Some (open_state e.state is),
      later (suc n) n es (omega arith),
      rest,
    )
    go false is rest = rest

pub to_send : (entries : List Entry) → AreToSend (open_ids entries) entries
to_send entries = to_send_from 1 0 entries entries refl (λ i. ap (slice_get entries) (omega arith))

-- the ids of those that are told as open
among : (told : List (ℕ × Stored)) (es : List (ℕ × Entry)) → map view_pair told ≡ map id_and_state es
    → map (λ (t : ℕ × Stored). t.0) (filter is_open_pair told) ≡ map (λ (x : ℕ × Entry). x.0) (filter is_open es)
among [] [] same = refl
among [] (x ∷ es) same = cc
among (t ∷ told) [] same = cc
among (t ∷ told) (x ∷ es) same =
    let here : view_pair t ≡ id_and_state x = cc in
    let rest : map view_pair told ≡ map id_and_state es = cc in
    go here (is_open x) refl (among told es rest)
  where
    go : view_pair t ≡ id_and_state x → (b : Bool) → is_open x ≡ b
        → map (λ (t : ℕ × Stored). t.0) (filter is_open_pair told) ≡ map (λ (x : ℕ × Entry). x.0) (filter is_open es)
        → map (λ (t : ℕ × Stored). t.0) (filter is_open_pair (t ∷ told))
        ≡ map (λ (x : ℕ × Entry). x.0) (cond b (x ∷ filter is_open es) (filter is_open es))
    go here true is rest =
        let told_so : is_open_pair t ≡ true = ap (λ (p : ℕ × State). is_open_state p.1) here ∙ is in
        let id : t.0 ≡ x.0 = ap (λ (p : ℕ × State). p.0) here in
        rw told_so (ap (λ n. n ∷ map (λ (t : ℕ × Stored). t.0) (filter is_open_pair told)) id
        ∙ ap (λ ids. x.0 ∷ ids) rest)
    go here false is rest =
        let told_so : is_open_pair t ≡ false = ap (λ (p : ℕ × State). is_open_state p.1) here ∙ is in
        rw told_so rest

pub told_open : (told : List (ℕ × Stored)) (entries : List Entry) → AreTold told entries
    → map (λ (t : ℕ × Stored). t.0) (filter is_open_pair told) ≡ open_ids entries
told_open told entries same = among told (numbered entries) same

-- ---- another entry is moved

other_place : (es : List Entry) (k j : ℕ) (state : State) → j ≢ k
    → slice_get (changed_at (in_state state) es k) j ≡ slice_get es j
other_place [] k j state apart = refl
other_place (x ∷ es) zero zero state apart = absurd (apart refl)
other_place (x ∷ es) zero (suc j) state apart = refl
other_place (x ∷ es) (suc k) zero state apart = refl
other_place (x ∷ es) (suc k) (suc j) state apart = other_place es k j state (λ same. apart (ap suc same))

pub other_stays : (es : List Entry) (id other : ℕ) (state : State) → other ≢ id
    → entry_at (set_state es id state) other ≡ entry_at es other
other_stays es zero other state apart = refl
other_stays es (suc k) zero state apart = refl
other_stays es (suc k) (suc j) state apart = other_place es k j state (λ same. apart (ap suc same))
