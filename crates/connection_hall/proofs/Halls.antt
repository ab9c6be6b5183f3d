-- What one thing that happens in a hall changes of what holds of all its connections.
use Rattle.std.proofs.Common.{◌≡◌, ◌≢◌, ◌⊎◌, inl, inr, ℕ, zero, suc, ◌+◌, ◌-◌, ◌<◌, ◌≤◌, Bool, true, List, []}
use Rattle.std.proofs.Common.{◌∷◌}
use Rattle.std.proofs.Common.{◌++◌, length, get_or, set, take, Option, Some, None, IfSome, refl, sym, ap, ◌∙◌, arith}
use Rattle.std.proofs.Common.{subst, vec_len}
use Rattle.std.specs.Prelude.{option_map, min, IsSome, slice_index, if◌then◌else◌}
use Rattle.std.specs.List.{AllByRecursion, sum_by}
use Rattle.std.proofs.lemmas.Bool.Decides.{eqb_tells, leb_tells}
use Rattle.std.proofs.lemmas.List.{get_or-set_same, get_or-set_other, get_or-take, get_or_past, length-take-le}
use Rattle.std.proofs.lemmas.List.Sums.{sum_by-set, sum_by-cons, sum_by-append}
use Rattle.connection_hall.specs.declared.bounds.Bounds.{Bounds}
use Rattle.connection_hall.specs.declared.deadlines.Deadlines.{Deadlines}
use Rattle.connection_hall.specs.declared.hall.Hall.{Hall}
use Rattle.connection_hall.specs.declared.round.Round.{Round}
use Rattle.connection_hall.specs.declared.served.Served.{Served}
use Rattle.connection_hall.specs.declared.stream.Stream.{Ghosts}
use Rattle.connection_hall.specs.declared.why.Why.{Why}
use Rattle.connection_hall.specs.Answers.{Answer}
use Rattle.connection_hall.specs.Bounds.{most_lent as most_lent_of}
use Rattle.connection_hall.specs.Comings.{Traffic, Gone, one_over}
use Rattle.connection_hall.specs.Deadlines.{Awaits, patience}
use Rattle.connection_hall.specs.Lending.{lent as lent_of, most_lent, is_short}
use Rattle.connection_hall.specs.Places.{taken, taken_places, numbered, numbered_places, lent, lent_places, owed}
use Rattle.connection_hall.specs.Places.{owed_places}
use Rattle.connection_hall.specs.Rounds.{KeepsTurns, GivesTurn, has_turn, wait, count, most}
use Rattle.connection_hall.specs.Running.{HasCome, IsShort, IsResting, IsInHand, IsInPlace, WasTold, gone_numbered}
use Rattle.connection_hall.specs.Running.{AreOver}
use Rattle.connection_hall.specs.Running.{AreRunning, MayEnd, AreCalled, DelaysNone, GivesOne, turns}

-- 1 if it is so
abbrev pub count_if : Bool → ℕ
count_if b = if b then 1 else 0

-- ---- lists

all_weaker : {X : Type 0} (P Q : X → Type 0) → ((x : X) → P x → Q x) → (xs : List X) → AllByRecursion P xs
    → AllByRecursion Q xs
all_weaker P Q weaker [] all = tt
all_weaker P Q weaker (x ∷ xs) all = (weaker x all.0, all_weaker P Q weaker xs all.1)

pub all_push : {X : Type 0} (P : X → Type 0) (xs : List X) (x : X) → AllByRecursion P xs → P x
    → AllByRecursion P (xs ++ x ∷ [])
all_push P [] x all at = (at, tt)
all_push P (y ∷ xs) x all at = (all.0, all_push P xs x all.1 at)

-- what holds of each slot that is not free
pub slot_of : {X : Type 0} (P : X → Type 0) (slot : Option X) → ((x : X) → slot ≡ Some x → P x) → IfSome slot P
slot_of P None so = tt
slot_of P (Some x) so = so x refl

pub slot_at : {X : Type 0} (P : X → Type 0) (slot : Option X) (x : X) → slot ≡ Some x → IfSome slot P → P x
slot_at P slot x is at = rw is at at

-- a place that is taken is there
pub within : {X : Type 0} (xs : List (Option X)) (i : ℕ) (x : X) → get_or xs i None ≡ Some x → i < length xs
within xs i x is = elim (leb_tells (length xs) i) [
  | inl high ↦ absurd (let h : None ≡ Some x = sym (get_or_past xs i None high.1) ∙ is in cc)
  | inr low ↦ low.1
]

-- a list with one more default reads as before
pub one_more : {X : Type 0} (xs : List X) (d : X) (i : ℕ) → get_or (xs ++ d ∷ []) i d ≡ get_or xs i d
one_more [] d zero = refl
one_more [] d (suc i) = refl
one_more (x ∷ xs) d zero = refl
one_more (x ∷ xs) d (suc i) = one_more xs d i

-- no turn is taken
pub turns_after : (a b c : Round) → KeepsTurns a b → KeepsTurns b c → KeepsTurns a c
turns_after a b c one two = record {
  turns = λ i is. two.turns i (one.turns i is);
  waits = λ i. two.waits i ∙ one.waits i;
  count = two.count ∙ one.count;
  most = two.most ∙ one.most;
  left = two.left ∙ one.left;
}

-- nothing is changed of the turns
pub turns_same : (a b : Round) → b ≡ a → KeepsTurns a b
turns_same a b same = record {
  turns = λ i is. ap (λ (r : Round). has_turn r i) same ∙ is;
  waits = λ i. ap (λ (r : Round). wait r i) same;
  count = ap count same;
  most = ap most same;
  left = ap (λ (r : Round). r.left) same;
}

-- the turn was given, and the place has it again
pub called_again : (a b c : Round) (place : ℕ) → GivesTurn a b place → has_turn c place ≡ true → KeepsTurns b c
    → (i : ℕ) → has_turn a i ≡ true → has_turn c i ≡ true
called_again a b c place gives here kept i is = elim (eqb_tells i place) [
  | inl same ↦ ap (has_turn c) same.1 ∙ here
  | inr other ↦ kept.turns i (gives.others i other.1 ∙ is)
]

module _ {S : Type 0} where
  -- one turn was given, and no other was taken
  pub gives_one : (old new : Hall S) (round : Round) (place : ℕ) → GivesTurn old.round round place
      → KeepsTurns round new.round → GivesOne old new place
  gives_one old new round place gives kept = record {
    had = gives.had;
    kept = λ i other is. kept.turns i (gives.others i other ∙ is);
    nearer = λ i other low is.
        let near = gives.nearer i other low is in let same = kept.waits i in omega (arith, near, same);
    left = ap (λ n. n + 1) kept.left ∙ gives.left;
  }

  -- where none is taken nothing counts
  pub zero_taken : (places : List (Option (Served S)))
      → ((i : ℕ) → i < length places → get_or places i None ≡ None) → taken_places places ≡ 0
  zero_taken [] none = refl
  zero_taken (place ∷ places) none =
      let h = sum_by-cons taken place places in
      let here = ap taken (none 0 (omega arith)) in
      let e = zero_taken places (λ i low. none (suc i) (omega (arith, low))) in
      omega (arith, h, here, e)

  -- behind the last place that is taken nothing counts
  pub sum_used : (f : Option (Served S) → ℕ) (places : List (Option (Served S))) (used : ℕ) → f None ≡ 0
      → ((i : ℕ) → used ≤ i → get_or places i None ≡ None) → sum_by f (take used places) ≡ sum_by f places
  sum_used f [] zero none free = refl
  sum_used f [] (suc used) none free = refl
  sum_used f (place ∷ places) zero none free =
      let rest = sum_used f places zero none (λ i low. free (suc i) (omega arith)) in
      let first = sum_by-cons f place places in
      let here = ap f (free 0 (omega arith)) ∙ none in
      omega (arith, rest, first, here)
  sum_used f (place ∷ places) (suc used) none free =
      let rest = sum_used f places used none (λ i low. free (suc i) (omega (arith, low))) in
      let all = sum_by-cons f place places in
      let some = sum_by-cons f place (take used places) in
      omega (arith, rest, all, some)

  -- they read as before
  pub get_used : (places : List (Option (Served S))) (used : ℕ) → used ≤ length places
      → ((i : ℕ) → used ≤ i → get_or places i None ≡ None) → (i : ℕ)
      → get_or (take used places) i None ≡ get_or places i None
  get_used places used low free i = elim (leb_tells used i) [
    | inl high ↦ get_or_past (take used places) i None (omega (arith, length-take-le used places low, high.1))
        ∙ sym (free i high.1)
    | inr below ↦ get_or-take used places i None below.1
  ]

  -- the place of one that is taken is before the end of those that are used
  pub below_used : (places : List (Option (Served S))) (used i : ℕ) (c : Served S)
      → ((i : ℕ) → used ≤ i → get_or places i None ≡ None) → get_or places i None ≡ Some c → i < used
  below_used places used i c free is = elim (leb_tells used i) [
    | inl high ↦ absurd (let h : None ≡ Some c = sym (free i high.1) ∙ is in cc)
    | inr below ↦ below.1
  ]

  -- a free place more does not count
  pub sum_more : (f : Option (Served S) → ℕ) (places : List (Option (Served S))) → f None ≡ 0
      → sum_by f (places ++ None ∷ []) ≡ sum_by f places
  sum_more f places none =
      let all = sum_by-append f places (None ∷ []) in
      let last = sum_by-cons f None [] in
      omega (arith, all, last, none)

  -- those that are called are called still
  pub called_still : (old new : Hall S) (named : List ℕ)
      → ((i : ℕ) → get_or new.places.items i None ≡ get_or old.places.items i None)
      → ((i : ℕ) → turns old i ≡ true → turns new i ≡ true) → AreCalled named old → AreCalled named new
  called_still old new named places turn called k at there =
      turn (slice_index named k) (called k at (rw (places (slice_index named k)) at there))

  -- those that are called are called still, and one that came is too
  pub called_too : (old new : Hall S) (named : List ℕ) (place : ℕ)
      → ((i : ℕ) → i ≢ place → get_or new.places.items i None ≡ get_or old.places.items i None)
      → turns new place ≡ true
      → ((i : ℕ) → turns old i ≡ true → turns new i ≡ true) → AreCalled named old → AreCalled named new
  called_too old new named place places here turn called k at there = elim (eqb_tells (slice_index named k) place) [
    | inl same ↦ ap (λ (i : ℕ). turns new i) same.1 ∙ here
    | inr other ↦
        turn (slice_index named k) (called k at (rw (places (slice_index named k) other.1) at there))
  ]

  -- one that is taken is before the end of those that are used
  pub some_used : (places : List (Option (Served S))) (used i : ℕ) → ((i : ℕ) → used ≤ i → get_or places i None ≡ None)
      → IsSome (get_or places i None) → i < used
  some_used places used i free some = elim (leb_tells used i) [
    | inl high ↦ absurd (let h = rw (free i high.1) at some in cc)
    | inr below ↦ below.1
  ]

  -- no place waits longer
  pub delays_turns : (old new : Hall S) → new.places ≡ old.places → KeepsTurns old.round new.round → DelaysNone old new
  delays_turns old new places kept = record {
    taken = λ i some. rw (ap (λ v. get_or v.items i None) places) some;
    turns = λ i some is. kept.turns i is;
    waits = λ i some. let same = kept.waits i in omega (arith, same);
  }

  pub delays_self : (hall : Hall S) → DelaysNone hall hall
  delays_self hall = record { taken = λ i some. some; turns = λ i some is. is; waits = λ i some. omega arith }

  pub delays_after : (a b c : Hall S) → DelaysNone a b → DelaysNone b c → DelaysNone a c
  delays_after a b c one two = record {
    taken = λ i some. two.taken i (one.taken i some);
    turns = λ i some is. two.turns i (one.taken i some) (one.turns i some is);
    waits = λ i some.
        let h = one.waits i some in let k = two.waits i (one.taken i some) in omega (arith, h, k);
  }

  -- one came into a place
  pub delays_came : (old new : Hall S) (place : ℕ) (c : Served S) → get_or new.places.items place None ≡ Some c
      → ((i : ℕ) → i ≢ place → get_or new.places.items i None ≡ get_or old.places.items i None)
      → KeepsTurns old.round new.round → DelaysNone old new
  delays_came old new place c here others kept = record {
    taken = λ i some. elim (eqb_tells i place) [
      | inl same ↦ rw same.1 (rw here refl)
      | inr other ↦ rw (others i other.1) some
    ];
    turns = λ i some is. kept.turns i is;
    waits = λ i some. let same = kept.waits i in omega (arith, same);
  }

  -- The bounds stay, and no more are to come; as many may have a loan, and no deadline is forgotten.
  pub record Frames (old new : Hall S) : Type 0 where
    pub bounds : new.bounds ≡ old.bounds
    pub left : new.left ≤ old.left
    pub most : most_lent new.loans ≡ most_lent old.loans
    pub limit : patience new.deadlines ≡ patience old.deadlines
    pub noted : (since : Option ℕ) → Awaits old.deadlines since → Awaits new.deadlines since

  -- the same, but for the deadlines
  pub record Stays (old new : Hall S) : Type 0 where
    pub bounds : new.bounds ≡ old.bounds
    pub left : new.left ≤ old.left
    pub most : most_lent new.loans ≡ most_lent old.loans
    pub limit : patience new.deadlines ≡ patience old.deadlines

  stays : (old new : Hall S) → Frames old new → Stays old new
  stays old new f = record { bounds = f.bounds; left = f.left; most = f.most; limit = f.limit }

  -- nothing of that is changed
  pub frames_same : (old new : Hall S) → new.bounds ≡ old.bounds → new.left ≡ old.left → new.loans ≡ old.loans
      → new.deadlines ≡ old.deadlines → Frames old new
  frames_same old new bounds left loans deadlines = record {
    bounds = bounds;
    left = omega (arith, left);
    most = ap most_lent loans;
    limit = ap patience deadlines;
    noted = λ since noted. subst (λ (d : Deadlines). Awaits d since) (sym deadlines) noted;
  }

  come_on : (old new : Hall S) (n : ℕ) → Stays old new → HasCome old n → HasCome new n
  come_on old new n f come = omega (arith, come, f.left, ap (λ (b : Bounds). b.connections) f.bounds)

module _ {S N : Type 0} (s : Ghosts S N) where
  -- ---- one connection

  pub hand_on : (answers : List Answer) (old new : Hall S) (place : ℕ) (c : Served S) → Stays old new
      → IsInHand s answers old place c → IsInHand s answers new place c
  hand_on answers old new place c f hand = record {
    served = hand.served;
    watched = hand.watched;
    bounded = hand.bounded;
    come = come_on old new c.number f hand.come;
  }

  -- it has its turn still, or rests still
  pub awake_on : (c : Served S) (b b' : Bool) (old new : Hall S) → (b ≡ true → b' ≡ true)
      → (IsShort old c → (b' ≡ true) ⊎ IsShort new c) → (b ≡ true) ⊎ IsResting s old c → (b' ≡ true) ⊎ IsResting s new c
  awake_on c b b' old new turn short awake = elim awake [
    | inl is ↦ inl (turn is)
    | inr rests ↦ elim rests [
      | inl waits ↦ inr (inl waits)
      | inr other ↦ elim other [
        | inl is ↦ elim (short is) [ inl woken ↦ inl woken | inr still ↦ inr (inr (inl still)) ]
        | inr ready ↦ inr (inr (inr ready))
      ]
    ]
  ]

  -- none is short otherwise if the loans are the same
  pub short_same : (old new : Hall S) (c : Served S) → new.loans ≡ old.loans → IsShort old c → IsShort new c
  short_same old new c same short = (
    short.0,
    ap is_short same ∙ short.1,
    ap lent_of same ∙ short.2 ∙ sym (ap most_lent same),
  )

  place_on : (answers : List Answer) (called called' : ℕ → Bool) (old new : Hall S) (i : ℕ) (c : Served S)
      → Frames old new → ((called i ≡ true) ⊎ IsResting s old c → (called' i ≡ true) ⊎ IsResting s new c)
      → IsInPlace s answers called old i c → IsInPlace s answers called' new i c
  place_on answers called called' old new i c f awake at = record {
    hand = hand_on answers old new i c (stays old new f) at.hand;
    noted = f.noted c.since at.noted;
    awake = awake at.awake;
  }

  -- ---- all of them

  over_on : (answers : List Answer) (hand hand' : Option (Served S)) (old new : Hall S) (traffic : Option (Traffic S))
      → new.bounds ≡ old.bounds → new.left ≡ old.left
      → ((n : ℕ) → numbered_places n new.places.items + numbered n hand'
      ≡ numbered_places n old.places.items + numbered n hand)
      → IfSome traffic (AreOver s answers hand old) → IfSome traffic (AreOver s answers hand' new)
  over_on answers hand hand' old new None bounds left count h = tt
  over_on answers hand hand' old new (Some known) bounds left count h = record {
    told = subst (λ (b : Bounds). AllByRecursion (WasTold s b.patience answers) known.over) (sym bounds) h.told;
    each = λ n. ap (λ k. sum_by (gone_numbered n) known.over + k) (count n) ∙ h.each n;
    in_all = omega (arith, h.in_all, left, ap (λ (b : Bounds). b.connections) bounds);
  }

  rebuild : (answers : List Answer) (hand hand' : Option (Served S)) (called called' : ℕ → Bool) (old new : Hall S)
      (traffic traffic' : Option (Traffic S)) → Stays old new
      → ((n : ℕ) → numbered_places n new.places.items + numbered n hand' ≤ 1)
      → lent_of new.loans ≡ lent_places new.places.items + lent hand'
      → min (owed_places new.places.items + owed hand') 18446744073709551615 ≤ new.owed
      → ((i : ℕ) (c : Served S) → get_or new.places.items i None ≡ Some c → IsInPlace s answers called' new i c)
      → IfSome traffic' (AreOver s answers hand' new) → AreRunning s answers hand called old traffic
      → AreRunning s answers hand' called' new traffic'
  rebuild answers hand hand' called called' old new traffic traffic' f once lent_is counted at over running = record {
    once = once;
    lent_is = lent_is;
    most_is = f.most ∙ running.most_is ∙ sym (ap (λ (b : Bounds). most_lent_of b.memory) f.bounds);
    counted = counted;
    limit = f.limit ∙ running.limit ∙ sym (ap (λ (b : Bounds). b.patience) f.bounds);
    numbers = all_weaker (λ (answer : Answer). HasCome old answer.on) (λ (answer : Answer). HasCome new answer.on)
        (λ answer come. come_on old new answer.on f come) answers running.numbers;
    in_place = λ i. slot_of (IsInPlace s answers called' new i) (get_or new.places.items i None) (at i);
    over = over;
  }

  -- the connection in a place was taken out
  pub left_place : (answers : List Answer) (called called' : ℕ → Bool) (old new : Hall S) (traffic : Option (Traffic S))
      (place : ℕ) (slot : Option (Served S)) → get_or old.places.items place None ≡ slot
      → place < length old.places.items → new.places.items ≡ set old.places.items place None
      → Frames old new → new.left ≡ old.left → new.loans ≡ old.loans → new.owed ≡ old.owed
      → ((i : ℕ) → i ≢ place → called i ≡ true → called' i ≡ true) → AreRunning s answers None called old traffic
      → AreRunning s answers slot called' new traffic
  left_place answers called called' old new traffic place slot was low places f left loans owed_is turns running =
      rebuild answers None slot called called' old new traffic traffic (stays old new f)
      (λ n. let e = sums (numbered n) in let h = running.once n in omega (arith, e, h))
      (let e = sums lent in let h = running.lent_is in omega (arith, e, h, ap lent_of loans))
      (let e = sums owed in let h = running.counted in omega (arith, e, h, owed_is))
      at (over_on answers None slot old new traffic f.bounds left (λ n. sums (numbered n)) running.over) running
    where
      sums : (f : Option (Served S) → ℕ) → sum_by f new.places.items + f slot ≡ sum_by f old.places.items + f None
      sums f =
          ap (λ l. sum_by f l + f slot) places ∙ ap (λ o. sum_by f (set old.places.items place None) + f o) (sym was)
          ∙ sum_by-set f old.places.items place None None low

      at : (i : ℕ) (c : Served S) → get_or new.places.items i None ≡ Some c → IsInPlace s answers called' new i c
      at i c is = elim (eqb_tells i place) [
        | inl same ↦ absurd (let h : None ≡ Some c =
            sym (get_or-set_same old.places.items place None None low) ∙ ap (λ l. get_or l place None) (sym places)
            ∙ ap (λ k. get_or new.places.items k None) (sym same.1) ∙ is in cc)
        | inr other ↦
            let there : get_or old.places.items i None ≡ Some c =
            sym (get_or-set_other old.places.items place i None None other.1) ∙ ap (λ l. get_or l i None) (sym places)
            ∙ is in
            place_on answers called called' old new i c f
            (awake_on c (called i) (called' i) old new (turns i other.1) (λ short. inr (short_same old new c loans
            short)))
            (slot_at (IsInPlace s answers called old i) (get_or old.places.items i None) c there (running.in_place i))
      ]

  -- what is in hand was put into a place that is free
  pub entered : (answers : List Answer) (called called' : ℕ → Bool) (old new : Hall S) (traffic : Option (Traffic S))
      (place : ℕ) (c : Served S) → place < length old.places.items
      → new.places.items ≡ set old.places.items place (Some c) → get_or old.places.items place None ≡ None
      → Frames old new → new.left ≡ old.left → new.loans ≡ old.loans → new.owed ≡ old.owed
      → ((i : ℕ) → called i ≡ true → called' i ≡ true) → IsInHand s answers old place c
      → Awaits new.deadlines c.since → (called' place ≡ true) ⊎ IsResting s old c
      → AreRunning s answers (Some c) called old traffic → AreRunning s answers None called' new traffic
  entered answers called called' old new traffic place c low places free f left loans owed_is turns hand noted awake
      running =
      rebuild answers (Some c) None called called' old new traffic traffic (stays old new f)
      (λ n. let e = sums (numbered n) in let h = running.once n in omega (arith, e, h))
      (let e = sums lent in let h = running.lent_is in omega (arith, e, h, ap lent_of loans))
      (let e = sums owed in let h = running.counted in omega (arith, e, h, owed_is))
      at (over_on answers (Some c) None old new traffic f.bounds left (λ n. sums (numbered n)) running.over) running
    where
      sums : (f : Option (Served S) → ℕ)
          → sum_by f new.places.items + f None ≡ sum_by f old.places.items + f (Some c)
      sums f =
          ap (λ l. sum_by f l + f None) places ∙ ap (λ o. sum_by f (set old.places.items place (Some c)) + f o) (sym
          free)
          ∙ sum_by-set f old.places.items place (Some c) None low

      same_place : (i : ℕ) → i ≡ place → IsInPlace s answers called' new i c
      same_place i is = subst (λ (k : ℕ). IsInPlace s answers called' new k c) (sym is) (record {
        hand = hand_on answers old new place c (stays old new f) hand;
        noted = noted;
        awake = awake_on c (called' place) (called' place) old new (λ h. h)
            (λ short. inr (short_same old new c loans short)) awake;
      })

      at : (i : ℕ) (it : Served S) → get_or new.places.items i None ≡ Some it → IsInPlace s answers called' new i it
      at i it is = elim (eqb_tells i place) [
        | inl same ↦
            let h : Some c ≡ Some it =
            sym (get_or-set_same old.places.items place (Some c) None low) ∙ ap (λ l. get_or l place None) (sym places)
            ∙ ap (λ k. get_or new.places.items k None) (sym same.1) ∙ is in
            let e : c ≡ it = cc in
            subst (λ (k : Served S). IsInPlace s answers called' new i k) e (same_place i same.1)
        | inr other ↦
            let there : get_or old.places.items i None ≡ Some it =
            sym (get_or-set_other old.places.items place i (Some c) None other.1)
            ∙ ap (λ l. get_or l i None) (sym places) ∙ is in
            place_on answers called called' old new i it f
            (awake_on it (called i) (called' i) old new (turns i) (λ short. inr (short_same old new it loans short)))
            (slot_at (IsInPlace s answers called old i) (get_or old.places.items i None) it there (running.in_place i))
      ]

  -- the places stay, and what is in hand is changed
  pub moved : (answers : List Answer) (hand hand' : Option (Served S)) (called called' : ℕ → Bool) (old new : Hall S)
      (traffic traffic' : Option (Traffic S)) → new.places.items ≡ old.places.items → Frames old new
      → ((n : ℕ) → numbered_places n old.places.items + numbered n hand' ≤ 1)
      → lent_of new.loans ≡ lent_places old.places.items + lent hand'
      → min (owed_places old.places.items + owed hand') 18446744073709551615 ≤ new.owed
      → ((i : ℕ) (c : Served S) → get_or old.places.items i None ≡ Some c
      → (called i ≡ true) ⊎ IsResting s old c → (called' i ≡ true) ⊎ IsResting s new c)
      → (IfSome traffic (AreOver s answers hand old) → IfSome traffic' (AreOver s answers hand' new))
      → AreRunning s answers hand called old traffic → AreRunning s answers hand' called' new traffic'
  moved answers hand hand' called called' old new traffic traffic' places f once lent_is counted awake over running =
      rebuild answers hand hand' called called' old new traffic traffic' (stays old new f)
      (λ n. let e = ap (numbered_places n) places in let h = once n in omega (arith, e, h))
      (lent_is ∙ ap (λ l. lent_places l + lent hand') (sym places))
      (let e = ap owed_places places in omega (arith, e, counted))
      (λ i c is.
      let there : get_or old.places.items i None ≡ Some c = ap (λ l. get_or l i None) (sym places) ∙ is in
      place_on answers called called' old new i c f (awake i c there)
      (slot_at (IsInPlace s answers called old i) (get_or old.places.items i None) c there (running.in_place i)))
      (over running.over) running

  -- more places have their turn, or more deadlines are noted
  pub called_more : (answers : List Answer) (called called' : ℕ → Bool) (old new : Hall S)
      (traffic : Option (Traffic S)) → new.places.items ≡ old.places.items → Frames old new → new.left ≡ old.left
      → new.loans ≡ old.loans
      → (min (owed_places old.places.items) 18446744073709551615 ≤ old.owed
      → min (owed_places old.places.items) 18446744073709551615 ≤ new.owed)
      → ((i : ℕ) → called i ≡ true → called' i ≡ true) → AreRunning s answers None called old traffic
      → AreRunning s answers None called' new traffic
  called_more answers called called' old new traffic places f left loans counted turns running =
      moved answers None None called called' old new traffic traffic places f running.once
      (ap lent_of loans ∙ running.lent_is)
      (let h = counted (let k = running.counted in omega (arith, k)) in omega (arith, h))
      (λ i c is.
      awake_on c (called i) (called' i) old new (turns i) (λ short. inr (short_same old new c loans short)))
      (over_on answers None None old new traffic f.bounds left
      (λ n. ap (λ l. numbered_places n l + 0) places)) running

  -- what is in hand went on
  pub changed : (answers : List Answer) (called called' : ℕ → Bool) (old new : Hall S) (traffic : Option (Traffic S))
      (c c' : Served S) → new.places.items ≡ old.places.items → Frames old new → new.left ≡ old.left
      → c'.number ≡ c.number → (lent_of old.loans ≡ lent_places old.places.items + lent (Some c)
      → lent_of new.loans ≡ lent_places old.places.items + lent (Some c'))
      → (min (owed_places old.places.items + vec_len c.owed) 18446744073709551615 ≤ old.owed
      → min (owed_places old.places.items + vec_len c'.owed) 18446744073709551615 ≤ new.owed)
      → ((i : ℕ) → called i ≡ true → called' i ≡ true)
      → ((i : ℕ) (it : Served S) → i < length old.places.items → IsShort old it → (called' i ≡ true) ⊎ IsShort new it)
      → AreRunning s answers (Some c) called old traffic → AreRunning s answers (Some c') called' new traffic
  changed answers called called' old new traffic c c' places f left number lent_is counted turns short running =
      moved answers (Some c) (Some c') called called' old new traffic traffic places f
      (λ n. let h = running.once n in omega (arith, h, numbers n))
      (lent_is running.lent_is) (counted running.counted)
      (λ i it is. awake_on it (called i) (called' i) old new (turns i) (short i it (within old.places.items i it is)))
      (over_on answers (Some c) (Some c') old new traffic f.bounds left
      (λ n. omega (arith, numbers n, ap (numbered_places n) places))) running
    where
      numbers : (n : ℕ) → numbered n (Some c') ≡ numbered n (Some c)
      numbers n = rw number refl

  -- what is in hand is over
  pub ended : (answers : List Answer) (called called' : ℕ
      → Bool) (old new : Hall S) (traffic traffic' : Option (Traffic S))
      (c : Served S) (why : Why) → new.places.items ≡ old.places.items → Frames old new → new.left ≡ old.left
      → lent_of new.loans ≡ lent_of old.loans - lent (Some c) → new.owed ≡ old.owed
      → traffic' ≡ option_map (one_over c.stream c.number why) traffic → MayEnd s answers old why c
      → ((i : ℕ) → called i ≡ true → called' i ≡ true)
      → ((i : ℕ) (it : Served S) → i < length old.places.items → IsShort old it → (called' i ≡ true) ⊎ IsShort new it)
      → AreRunning s answers (Some c) called old traffic → AreRunning s answers None called' new traffic'
  ended answers called called' old new traffic traffic' c why places f left loans owed_is ends end turns short running =
      moved answers (Some c) None called called' old new traffic traffic' places f
      (λ n. let h = running.once n in omega (arith, h))
      (let h = running.lent_is in omega (arith, h, loans)) (let h = running.counted in omega (arith, h, owed_is))
      (λ i it is. awake_on it (called i) (called' i) old new (turns i) (short i it (within old.places.items i it is)))
      (λ h. rw ends (over traffic h)) running
    where
      gone : Gone S
      gone = record { stream = c.stream; number = c.number; why = why }

      over : (traffic : Option (Traffic S)) → IfSome traffic (AreOver s answers (Some c) old)
          → IfSome (option_map (one_over c.stream c.number why) traffic) (AreOver s answers None new)
      over None h = tt
      over (Some known) h = record {
        told = subst (λ (b : Bounds). AllByRecursion (WasTold s b.patience answers) (known.over ++ gone ∷ []))
            (sym f.bounds)
            (all_push (WasTold s old.bounds.patience answers) known.over gone h.told (record {
              c = c;
              stream = refl;
              number = refl;
              served = end.served;
              why = end.why_is;
              late = end.late;
            }));
        each = λ n.
            let more = sum_by-append (gone_numbered n) known.over (gone ∷ []) in
            let one = sum_by-cons (gone_numbered n) gone [] in
            let all = h.each n in
            let e = ap (numbered_places n) places in
            omega (arith, more, one, all, e);
        in_all = omega (arith, h.in_all, left, ap (λ (b : Bounds). b.connections) f.bounds);
      }

  -- free places behind the last one that is taken were left out or added
  pub lined : (answers : List Answer) (called called' : ℕ → Bool) (old new : Hall S) (traffic : Option (Traffic S))
      → ((i : ℕ) → get_or new.places.items i None ≡ get_or old.places.items i None)
      → ((f : Option (Served S) → ℕ) → f None ≡ 0 → sum_by f new.places.items ≡ sum_by f old.places.items)
      → new.bounds ≡ old.bounds → new.left ≡ old.left → new.loans ≡ old.loans → new.deadlines ≡ old.deadlines
      → new.owed ≡ old.owed
      → ((i : ℕ) (c : Served S) → get_or old.places.items i None ≡ Some c → called i ≡ true → called' i ≡ true)
      → AreRunning s answers None called old traffic → AreRunning s answers None called' new traffic
  lined answers called called' old new traffic places sums bounds left loans deadlines owed_is turns running =
      rebuild answers None None called called' old new traffic traffic (stays old new f)
      (λ n. let e = sums (numbered n) refl in let h = running.once n in omega (arith, e, h))
      (let e = sums lent refl in let h = running.lent_is in omega (arith, e, h, ap lent_of loans))
      (let e = sums owed refl in let h = running.counted in omega (arith, e, h, owed_is))
      (λ i c is.
      let there : get_or old.places.items i None ≡ Some c = sym (places i) ∙ is in
      place_on answers called called' old new i c f
      (awake_on c (called i) (called' i) old new (turns i c there) (λ short. inr (short_same old new c loans short)))
      (slot_at (IsInPlace s answers called old i) (get_or old.places.items i None) c there (running.in_place i)))
      (over_on answers None None old new traffic bounds left (λ n. ap (λ k. k + 0) (sums (numbered n) refl))
      running.over) running
    where
      f : Frames old new
      f = frames_same old new bounds left loans deadlines

  -- each deadline is noted anew, and more places have their turn
  pub renoted : (answers : List Answer) (called called' : ℕ → Bool) (old new : Hall S) (traffic : Option (Traffic S))
      → new.places.items ≡ old.places.items → Stays old new → new.left ≡ old.left → new.loans ≡ old.loans
      → new.owed ≡ old.owed
      → ((i : ℕ) (c : Served S) → get_or old.places.items i None ≡ Some c → Awaits new.deadlines c.since)
      → ((i : ℕ) → called i ≡ true → called' i ≡ true) → AreRunning s answers None called old traffic
      → AreRunning s answers None called' new traffic
  renoted answers called called' old new traffic places f left loans owed_is noted turns running =
      rebuild answers None None called called' old new traffic traffic f
      (λ n. let e = ap (numbered_places n) places in let h = running.once n in omega (arith, e, h))
      (let e = ap lent_places places in let h = running.lent_is in omega (arith, e, h, ap lent_of loans))
      (let e = ap owed_places places in let h = running.counted in omega (arith, e, h, owed_is))
      (λ i c is.
      let there : get_or old.places.items i None ≡ Some c = ap (λ l. get_or l i None) (sym places) ∙ is in
      let at : IsInPlace s answers called old i c =
      slot_at (IsInPlace s answers called old i) (get_or old.places.items i None) c there (running.in_place i) in
      record {
        hand = hand_on answers old new i c f at.hand;
        noted = noted i c there;
        awake = awake_on c (called i) (called' i) old new (turns i) (λ short. inr (short_same old new c loans short))
            at.awake;
      })
      (over_on answers None None old new traffic f.bounds left (λ n. ap (λ l. numbered_places n l + 0) places)
      running.over) running

  -- what is owed was counted, and more places have their turn
  pub counted_more : (answers : List Answer) (called called' : ℕ → Bool) (old new : Hall S)
      (traffic : Option (Traffic S)) → new.places ≡ old.places → new.bounds ≡ old.bounds → new.left ≡ old.left
      → new.loans ≡ old.loans → new.deadlines ≡ old.deadlines
      → (min (owed_places old.places.items) 18446744073709551615 ≤ old.owed
      → min (owed_places old.places.items) 18446744073709551615 ≤ new.owed)
      → ((i : ℕ) → called i ≡ true → called' i ≡ true) → AreRunning s answers None called old traffic
      → AreRunning s answers None called' new traffic
  counted_more answers called called' old new traffic places bounds left loans deadlines counted turns running =
      called_more answers called called' old new traffic (ap (λ v. v.items) places)
      (frames_same old new bounds left loans deadlines) left loans counted turns running
