-- An answer on one connection changes nothing of the others.
use Rattle.std.proofs.Common.{◌≡◌, ◌≢◌, inl, inr, ℕ, zero, suc, ◌+◌, ◌<◌, ◌≤◌, Bool, true, false, List, [], ◌∷◌}
use Rattle.std.proofs.Common.{◌++◌}
use Rattle.std.proofs.Common.{get_or, Option, Some, None, IfSome, refl, sym, ap, ◌∙◌, arith, subst}
use Rattle.std.specs.Prelude.{nat_eq, nat_lt, option_map}
use Rattle.std.proofs.Common.{vec_len, rules}
use Rattle.std.proofs.lemmas.Bool.Decides.{leb_tells, nat_tests}
use Rattle.std.specs.List.{AllByRecursion, sum_by}
use Rattle.std.proofs.lemmas.Bool.Decides.{eqb_tells}
use Rattle.std.proofs.lemmas.List.Sums.{sum_by-cons}
use Rattle.connection_hall.specs.declared.bounds.Bounds.{Bounds}
use Rattle.connection_hall.specs.declared.deadlines.Deadlines.{Deadlines}
use Rattle.connection_hall.specs.declared.hall.Hall.{Hall}
use Rattle.connection_hall.specs.declared.served.Served.{Served}
use Rattle.connection_hall.specs.declared.stream.Stream.{Ghosts}
use Rattle.connection_hall.specs.declared.why.Why.{Why}
use Rattle.connection_hall.specs.declared.why.Why.TheVariants.{Done, Broken, NoMemory, Late}
use Rattle.connection_hall.specs.Answers.{Answer, own}
use Rattle.connection_hall.specs.Deadlines.{Awaits, patience}
use Rattle.connection_hall.specs.Lending.{lent as lent_of, most_lent}
use Rattle.connection_hall.specs.Comings.{Traffic, Gone, one_came}
use Rattle.connection_hall.specs.Places.{numbered, numbered_places, lent}
use Rattle.connection_hall.specs.Running.{HasCome, IsInPlace, WasTold, gone_numbered, AreOver, AreRunning}
use Rattle.connection_hall.specs.TurnsTaken.{WasServed}
use Rattle.connection_hall.proofs.Told.{told_other}
use Rattle.connection_hall.proofs.Hands.{longest_more}
use Rattle.connection_hall.proofs.Halls.{count_if, all_push, slot_of, slot_at, Frames, moved, awake_on, short_same}

-- ---- counts of none

zero_at : {X : Type 0} (f : Option X → ℕ) (xs : List (Option X)) (i : ℕ) → f None ≡ 0 → sum_by f xs ≡ 0
    → f (get_or xs i None) ≡ 0
zero_at f [] i none h = none
zero_at f (x ∷ xs) zero none h = let e = sum_by-cons f x xs in omega (arith, e, h)
zero_at f (x ∷ xs) (suc i) none h =
    zero_at f xs i none (let e = sum_by-cons f x xs in omega (arith, e, h))

-- one that does not count has another number
other_number : (a b : ℕ) → count_if (nat_eq a b) ≡ 0 → nat_eq b a ≡ false
other_number a b none = elim (eqb_tells b a) [
  | inl same ↦ absurd (let e : count_if (nat_eq a b) ≡ 1 = rw same.1 (one a) in omega (arith, e, none))
  | inr other ↦ other.0
]
  where
    one : (n : ℕ) → count_if (nat_eq n n) ≡ 1
    one n = search rules

at_most_one : (b : Bool) → count_if b ≤ 1
at_most_one true = omega arith
at_most_one false = omega arith

counts_one : (n : ℕ) → count_if (nat_eq n n) ≡ 1
counts_one n = search rules

module _ {S N : Type 0} (s : Ghosts S N) where
  was_other : (answers : List Answer) (last : Answer) (why : Why) (c : Served S) → nat_eq last.on c.number ≡ false
      → WasServed s why answers c → WasServed s why (answers ++ last ∷ []) c
  was_other answers last Done c other was = told_other _ _ _ answers c last other was
  was_other answers last Broken c other was = told_other _ _ _ answers c last other was
  was_other answers last NoMemory c other was = (was.0, was.1, told_other _ _ _ answers c last other was.2)
  was_other answers last Late c other was = told_other _ _ _ answers c last other was

  gone_others : (limit : Option ℕ) (answers : List Answer) (last : Answer) (over : List (Gone S))
      → sum_by (gone_numbered last.on) over ≡ 0 → AllByRecursion (WasTold s limit answers) over
      → AllByRecursion (WasTold s limit (answers ++ last ∷ [])) over
  gone_others limit answers last [] none told = tt
  gone_others limit answers last (gone ∷ over) none told = (
    record {
      c = told.0.c;
      stream = told.0.stream;
      number = told.0.number;
      served = was_other answers last gone.why told.0.c
          (subst (λ (n : ℕ). nat_eq last.on n ≡ false) (sym told.0.number) (other_number gone.number last.on
          (let e = sum_by-cons (gone_numbered last.on) gone over in omega (arith, e, none)))) told.0.served;
      why = told.0.why;
      late = told.0.late;
    },
    gone_others limit answers last over
        (let e = sum_by-cons (gone_numbered last.on) gone over in omega (arith, e, none)) told.1,
  )

  -- the connection in hand was answered, so the others are told as before
  pub more_answers : (answers : List Answer) (last : Answer) (c : Served S) (called : ℕ → Bool) (hall : Hall S)
      (traffic : Option (Traffic S)) → last.on ≡ c.number → HasCome hall c.number
      → AreRunning s answers (Some c) called hall traffic
      → AreRunning s (answers ++ last ∷ []) (Some c) called hall traffic
  more_answers answers last c called hall traffic on come running = record {
    once = running.once;
    lent_is = running.lent_is;
    most_is = running.most_is;
    counted = running.counted;
    limit = running.limit;
    numbers = all_push (λ (answer : Answer). HasCome hall answer.on) answers last running.numbers (rw on come);
    in_place = λ i.
        slot_of (IsInPlace s (answers ++ last ∷ []) called hall i) (get_or hall.places.items i None)
        (λ it is. other i it is (slot_at (IsInPlace s answers called hall i) (get_or hall.places.items i None) it is
        (running.in_place i)));
    over = over traffic running.over;
  }
    where
      here : numbered last.on (Some c) ≡ 1
      here = rw on (counts_one c.number)

      none : numbered_places last.on hall.places.items ≡ 0
      none = let h = running.once last.on in omega (arith, h, here)

      other : (i : ℕ) (it : Served S) → get_or hall.places.items i None ≡ Some it → IsInPlace s answers called hall i it
          → IsInPlace s (answers ++ last ∷ []) called hall i it
      other i it is at = record {
        hand = record {
          served = told_other _ _ _ answers it last
              (other_number it.number last.on
              (rw is at (zero_at (numbered last.on) hall.places.items i refl none))) at.hand.served;
          watched = at.hand.watched;
          bounded = record {
            held = at.hand.bounded.held;
            owed = let h = longest_more answers (last ∷ []) in let k = at.hand.bounded.owed in omega (arith, h, k);
          };
          come = at.hand.come;
        };
        noted = at.noted;
        awake = at.awake;
      }

      over : (traffic : Option (Traffic S)) → IfSome traffic (AreOver s answers (Some c) hall)
          → IfSome traffic (AreOver s (answers ++ last ∷ []) (Some c) hall)
      over None h = tt
      over (Some known) h = record {
        told = gone_others hall.bounds.patience answers last known.over
            (let each = h.each last.on in let most = at_most_one (nat_lt last.on known.came) in
            omega (arith, each, most, here)) h.told;
        each = h.each;
        in_all = h.in_all;
      }

-- ---- a connection came

zero_sum : {X : Type 0} (f : Option X → ℕ) (xs : List (Option X)) → ((i : ℕ) → f (get_or xs i None) ≡ 0)
    → sum_by f xs ≡ 0
zero_sum f [] none = refl
zero_sum f (x ∷ xs) none =
    let e = sum_by-cons f x xs in
    let here = none 0 in
    let rest = zero_sum f xs (λ i. none (suc i)) in
    omega (arith, e, here, rest)

counts_none : (a b : ℕ) → a ≢ b → count_if (nat_eq a b) ≡ 0
counts_none a b other = elim (eqb_tells a b) [
  | inl same ↦ absurd (other same.1)
  | inr apart ↦ rw apart.0 refl
]

counts_below : (n k : ℕ) → n < k → count_if (nat_lt n k) ≡ 1
counts_below n k low = grind (arith, nat_tests)

counts_past : (n k : ℕ) → k ≤ n → count_if (nat_lt n k) ≡ 0
counts_past n k high = grind (arith, nat_tests)

module _ {S N : Type 0} (s : Ghosts S N) where
  -- nothing was answered on a connection that is still to come
  pub none_own : (hall : Hall S) (number : ℕ) (answers : List Answer) → hall.bounds.connections ≤ number + hall.left
      → AllByRecursion (λ answer. HasCome hall answer.on) answers → own number answers ≡ []
  none_own hall number [] high all = refl
  none_own hall number (answer ∷ answers) high all = elim (eqb_tells answer.on number) [
    | inl same ↦ absurd (omega (arith, same.1, high, all.0))
    | inr other ↦ rw other.0 (none_own hall number answers high all.1)
  ]

  pub came : (answers : List Answer) (called called' : ℕ
      → Bool) (old new : Hall S) (traffic traffic' : Option (Traffic S))
      (c : Served S) → new.places.items ≡ old.places.items → new.bounds ≡ old.bounds → new.left + 1 ≡ old.left
      → new.loans ≡ old.loans → new.deadlines ≡ old.deadlines → new.owed ≡ old.owed
      → c.number + old.left ≡ old.bounds.connections → c.loan ≡ None → vec_len c.owed ≡ 0
      → traffic' ≡ option_map one_came traffic → ((i : ℕ) → called i ≡ true → called' i ≡ true)
      → AreRunning s answers None called old traffic → AreRunning s answers (Some c) called' new traffic'
  came answers called called' old new traffic traffic' c places bounds left loans deadlines owed_is number none_lent
      none_owed comes turns running =
      moved s answers None (Some c) called called' old new traffic traffic' places frames fewer
      (let h = running.lent_is in omega (arith, h, ap lent_of loans, zero_lent))
      (let h = running.counted in omega (arith, h, none_owed, owed_is))
      (λ i it is.
      awake_on s it (called i) (called' i) old new (turns i) (λ short. inr (short_same s old new it loans short)))
      (λ h. rw comes (over traffic h)) running
    where
      frames : Frames old new
      frames = record {
        bounds = bounds;
        left = omega (arith, left);
        most = ap most_lent loans;
        limit = ap patience deadlines;
        noted = λ since noted. subst (λ (d : Deadlines). Awaits d since) (sym deadlines) noted;
      }

      zero_lent : lent (Some c) ≡ 0
      zero_lent = rw none_lent refl

      none : numbered_places c.number old.places.items ≡ 0
      none = zero_sum (numbered c.number) old.places.items
          (λ i. at i (get_or old.places.items i None) (running.in_place i))
        where
          at : (i : ℕ) (slot : Option (Served S)) → IfSome slot (IsInPlace s answers called old i)
              → numbered c.number slot ≡ 0
          at i None h = refl
          at i (Some it) h =
              counts_none it.number c.number (λ same. absurd (let come = h.hand.come in omega (
                arith,
                same,
                come,
                number,
              )))

      fewer : (n : ℕ) → numbered_places n old.places.items + numbered n (Some c) ≤ 1
      fewer n = elim (eqb_tells c.number n) [
        | inl same ↦
            let h = none in
            let e = ap (λ k. numbered_places k old.places.items) (sym same.1) in
            let one = at_most_one (nat_eq c.number n) in
            omega (arith, h, e, one)
        | inr other ↦ let h = running.once n in let zero = counts_none c.number n other.1 in omega (arith, h, zero)
      ]

      over : (traffic : Option (Traffic S)) → IfSome traffic (AreOver s answers None old)
          → IfSome (option_map one_came traffic) (AreOver s answers (Some c) new)
      over None h = tt
      over (Some known) h = record {
        told = subst (λ (b : Bounds). AllByRecursion (WasTold s b.patience answers) known.over) (sym bounds) h.told;
        each = λ n.
            let e = ap (numbered_places n) places in
            let was = h.each n in
            let all = h.in_all in
            elim (eqb_tells c.number n) [
              | inl same ↦
                  let one = counts_below n (known.came + 1) (omega (arith, same.1, number, all)) in
                  let past = counts_past n known.came (omega (arith, same.1, number, all)) in
                  let here : numbered n (Some c) ≡ 1 = rw same.1 (counts_one n) in
                  omega (arith, e, was, one, past, here)
              | inr other ↦
                  let zero = counts_none c.number n other.1 in
                  let same = still n known.came (λ is. other.1 (omega (arith, is, number, all))) in
                  omega (arith, e, was, zero, same)
            ];
        in_all = let all = h.in_all in
            let k = ap (λ (b : Bounds). b.connections) bounds in omega (arith, all, left, k);
      }
        where
          still : (n k : ℕ) → n ≢ k → count_if (nat_lt n (k + 1)) ≡ count_if (nat_lt n k)
          still n k other = elim (leb_tells k n) [
            | inl high ↦ counts_past n (k + 1) (omega (arith, high.1, other)) ∙ sym (counts_past n k high.1)
            | inr low ↦ counts_below n (k + 1) (omega (arith, low.1)) ∙ sym (counts_below n k low.1)
          ]
