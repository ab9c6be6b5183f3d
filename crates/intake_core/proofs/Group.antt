-- Several requests are decided one behind another.
use Rattle.std.proofs.Common.{◌≡◌, ◌⊎◌, ◌↔◌, ◌≤◌, ◌+◌, ℕ, true, false, List, [], ◌∷◌, ◌++◌, take, drop, map, length}
use Rattle.std.proofs.Common.{zero, suc}
use Rattle.std.proofs.Common.{Ok, Err, refl, sym, ap, ◌∙◌, subst, ⊎_elim, arith, length-append, Vec}
use Rattle.std.proofs.Common.{append_assoc, inl, inr, vec_len, vec_capacity}
use Rattle.std.proofs.lemmas.Bool.{cases_Bool}
use Rattle.std.proofs.lemmas.List.{take-append-drop, take-append-le, length-take-le}
use Rattle.std.specs.List.{AllByRecursion, zip}
use Rattle.std.specs.Result.{IsErr, is_err}
use Rattle.std.specs.declared.alloc.Global.{Global}
use Rattle.sqlite.specs.Store.{Ghosts}
use Rattle.sqlite.specs.Tree.{Trees}
use Rattle.sqlite.proofs.StateLemmas.{survives_then, survives_weaker}
use Rattle.table_rows.proofs.StepLemmas.{nothing_yet}
use Rattle.filing_model.specs.Request.{Request, firsts, has_key}
use Rattle.filing_model.proofs.Firsts.{firsts_repeat, firsts-firsts}
use Rattle.register_tables.specs.Registers.{LeavesRegister}
use Rattle.intake_core.specs.declared.intake.Intake.{Intake}
use Rattle.intake_core.specs.declared.intake.Unavailable.TheVariants.{Down}
use Rattle.intake_core.specs.Calls.{DecidesRequest}
use Rattle.intake_core.specs.Group.{after, after_one, AreDecidedInTurn, Decided, DecidesEach, DecidesEachIf}
use Rattle.intake_core.specs.Group.{EndAtFailure}
use Rattle.intake_core.specs.Group.{Given, HasFailed, LeavesHeld, LeavesSome}
use Rattle.intake_core.specs.Held.{shows, limit_of, old_style_of, old_style_in, has_stopped, HoldsRequests, SurvivesAs}
use Rattle.intake_core.specs.Held.{with_request}
use Rattle.intake_core.specs.Moments.{DatesAllIf, DatesRequest}
use Rattle.intake_core.specs.Together.{AddsResults, AddsResultsIf}
use Rattle.intake_core.proofs.Dating.{after-append, append-three, dates_none, dates_one, dates_then}
use Rattle.intake_core.proofs.Deciding.{firsts-more}

-- ---- lists

pub all-append : {X : Type 0} (P : X → Type 0) (xs ys : List X) → AllByRecursion P xs → AllByRecursion P ys
    → AllByRecursion P (xs ++ ys)
all-append P [] ys h k = k
all-append P (x ∷ xs) ys h k = (h.0, all-append P xs ys h.1 k)

all-parts : {X : Type 0} (P : X → Type 0) (xs ys : List X) → AllByRecursion P (xs ++ ys)
    → AllByRecursion P xs × AllByRecursion P ys
all-parts P [] ys h = (tt, h)
all-parts P (x ∷ xs) ys h = let rest = all-parts P xs ys h.1 in ((h.0, rest.0), rest.1)

pub all-weaker : {X : Type 0} (P Q : X → Type 0) (xs : List X) → ((x : X) → P x → Q x) → AllByRecursion P xs
    → AllByRecursion Q xs
all-weaker P Q [] f h = tt
all-weaker P Q (x ∷ xs) f h = (f x h.0, all-weaker P Q xs f h.1)

pub append_nil : {X : Type 0} (xs : List X) → xs ++ [] ≡ xs
append_nil [] = refl
append_nil (x ∷ xs) = ap (λ ys. x ∷ ys) (append_nil xs)

zip-append : {X Y : Type 0} (xs xs' : List X) (ys ys' : List Y) → length ys ≡ length xs
    → zip (xs ++ xs') (ys ++ ys') ≡ zip xs ys ++ zip xs' ys'
zip-append [] xs' [] ys' h = refl
zip-append [] xs' (y ∷ ys) ys' h = absurd (omega (arith, h))
zip-append (x ∷ xs) xs' [] ys' h = absurd (omega (arith, h))
zip-append (x ∷ xs) xs' (y ∷ ys) ys' h = ap (λ ps. (x, y) ∷ ps) (zip-append xs xs' ys ys' (omega (arith, h)))

length_zipped : {X Y : Type 0} (xs : List X) (ys : List Y) → length ys ≡ length xs → length (zip xs ys) ≡ length xs
length_zipped [] [] h = refl
length_zipped [] (y ∷ ys) h = refl
length_zipped (x ∷ xs) [] h = absurd (omega (arith, h))
length_zipped (x ∷ xs) (y ∷ ys) h = ap suc (length_zipped xs ys (omega (arith, h)))

take-none : {X : Type 0} (n : ℕ) → take {0} {A = X} n [] ≡ []
take-none zero = refl
take-none (suc n) = refl

take-both : {X : Type 0} (n m : ℕ) (xs : List X) → take n xs ++ take m (drop n xs) ≡ take (n + m) xs
take-both zero m xs = let same : m ≡ 0 + m = omega arith in ap (λ k. take k xs) same
take-both (suc n) m [] = take-none m ∙ sym (take-none (suc n + m))
take-both (suc n) m (x ∷ xs) =
    let same : suc (n + m) ≡ suc n + m = omega arith in
    ap (λ ys. x ∷ ys) (take-both n m xs) ∙ ap (λ k. take k (x ∷ xs)) same

-- ---- what is held after them

-- each is still the first of its filer and key, and those that were there first are the same
abbrev Keeps : ℕ → List Request → List Request → Type 0
Keeps n F G = (take n G ≡ take n F) × (firsts G ≡ G) × (n ≤ length G)

keeps_one : (n : ℕ) (F : List Request) (r : Request) (result : Given) → n ≤ length F → firsts F ≡ F
    → Keeps n F (after_one F r result)
keeps_one n F r (Err e) few are = (refl, are, few)
keeps_one n F r (Ok a) few are = ⊎_elim
    (λ (h : has_key F r ≡ true). subst (Keeps n F) (sym (firsts_repeat F r h ∙ are)) (refl, are, few))
    (λ (h : has_key F r ≡ false). subst (Keeps n F) (sym (firsts-more F r are h)) (
      take-append-le n F (r ∷ []) few,
      firsts-more F r are h,
      omega (arith, few, length-append F (r ∷ [])),
    ))
    (cases_Bool (has_key F r))

keeps_after : (n : ℕ) (F : List Request) (ds : List Decided) → n ≤ length F → firsts F ≡ F → Keeps n F (after F ds)
keeps_after n F [] few are = (refl, are, few)
keeps_after n F (d ∷ ds) few are =
    let one = keeps_one n F d.0 d.1 few are in
    let rest = keeps_after n (after_one F d.0 d.1) ds one.2 one.1 in
    (rest.0 ∙ one.0, rest.1, rest.2)

-- ---- one part behind another

pub turn-append : (limit : ℕ) (old_style F : List Request) (xs ys : List Decided)
    → AreDecidedInTurn limit old_style F xs → AreDecidedInTurn limit old_style (after F xs) ys
    → AreDecidedInTurn limit old_style F (xs ++ ys)
turn-append limit old_style F [] ys h k = k
turn-append limit old_style F (d ∷ xs) ys h k = (h.0, turn-append limit old_style (after_one F d.0 d.1) xs ys h.1 k)

leaves-first : (n : ℕ) (F : List Request) (xs ys : List Decided) (trees : Trees) → LeavesSome n F xs trees
    → LeavesSome n F (xs ++ ys) trees
leaves-first n F xs ys trees h = record {
  before = h.before;
  next = h.next;
  more = h.more;
  rest = h.rest ++ ys;
  are =
      ap (λ ds. ds ++ ys) h.are
      ∙ append_assoc (h.before ++ h.next ∷ h.more) h.rest ys;
  leaves = h.leaves;
}

leaves-second : (n : ℕ) (F : List Request) (xs ys : List Decided) (trees : Trees) → LeavesSome n (after F xs) ys trees
    → LeavesSome n F (xs ++ ys) trees
leaves-second n F xs ys trees h = record {
  before = xs ++ h.before;
  next = h.next;
  more = h.more;
  rest = h.rest;
  are = ap (λ ds. xs ++ ds) h.are ∙ append-three xs h.before (h.next ∷ h.more) h.rest;
  leaves =
      subst (λ G. LeavesRegister n (firsts (G ++ h.next.0 ∷ map (λ (d : Decided). d.0) h.more)) trees)
      (sym (after-append F xs h.before)) h.leaves;
}

held-first : (n : ℕ) (F : List Request) (xs ys : List Decided) (trees : Trees)
    → after (after F xs) ys ≡ after F xs → LeavesHeld n F xs trees → LeavesHeld n F (xs ++ ys) trees
held-first n F xs ys trees same h = record {
  before = h.before;
  part = h.part;
  rest = h.rest ++ ys;
  are =
      ap (λ ds. ds ++ ys) h.are
      ∙ append_assoc (h.before ++ h.part) h.rest ys;
  leaves =
      subst (λ G. LeavesRegister n (firsts (G ++ map (λ (d : Decided). d.0) h.part)) trees)
      (sym (after-append F xs ys ∙ same)) h.leaves;
}

held-second : (n : ℕ) (F : List Request) (xs ys : List Decided) (trees : Trees) → LeavesHeld n (after F xs) ys trees
    → LeavesHeld n F (xs ++ ys) trees
held-second n F xs ys trees h = record {
  before = xs ++ h.before;
  part = h.part;
  rest = h.rest;
  are = ap (λ ds. xs ++ ds) h.are ∙ append-three xs h.before h.part h.rest;
  leaves =
      subst (λ G. LeavesRegister n (firsts (G ++ map (λ (d : Decided). d.0) h.part)) trees)
      (sym (after-append F xs ys)) h.leaves;
}

-- what is held, and no more
pub held_exactly : (n : ℕ) (F : List Request) (ds : List Decided) (trees : Trees)
    → firsts (after F ds) ≡ after F ds → LeavesRegister n (after F ds) trees → LeavesHeld n F ds trees
held_exactly n F ds trees are l = record {
  before = [];
  part = [];
  rest = ds;
  are = refl;
  leaves =
      subst (λ (G : List Request). LeavesRegister n G trees) (sym (ap firsts (append_nil (after F ds)) ∙ are)) l;
}

failed-append : (xs ys : List Decided) → HasFailed (xs ++ ys) → HasFailed xs ⊎ HasFailed ys
failed-append [] ys h = inr h
failed-append (d ∷ xs) ys (inl h) = inl (inl h)
failed-append (d ∷ xs) ys (inr h) = elim (failed-append xs ys h) [ inl k ↦ inl (inr k) | inr k ↦ inr k ]

failed-first : (xs ys : List Decided) → HasFailed xs → HasFailed (xs ++ ys)
failed-first [] ys h = absurd h
failed-first (d ∷ xs) ys (inl h) = inl h
failed-first (d ∷ xs) ys (inr h) = inr (failed-first xs ys h)

failed-second : (xs ys : List Decided) → HasFailed ys → HasFailed (xs ++ ys)
failed-second [] ys h = h
failed-second (d ∷ xs) ys h = inr (failed-second xs ys h)

abbrev GetNoAnswer : List Decided → Type 0
GetNoAnswer = AllByRecursion (λ d. IsErr d.1)

ends-append : (xs ys : List Decided) → EndAtFailure xs → EndAtFailure ys → (HasFailed xs → GetNoAnswer ys)
    → EndAtFailure (xs ++ ys)
ends-append [] ys h k f = k
ends-append (d ∷ xs) ys h k f = (
  λ failed. all-append (λ e. IsErr e.1) xs ys (h.0 failed) (f (inl failed)),
  ends-append xs ys h.1 k (λ failed. f (inr failed)),
)

down_is_none : (d : Decided) → d.1 ≡ Err Down → IsErr d.1
down_is_none d is = ap is_err is

module _ {S : Type 0} {g : Ghosts S} where
  pub decides_then : (Open : Type 0) (Holds : List Request → Type 0) (xs ys : List Decided) (old mid new : Intake S)
      → DecidesEachIf g Open Holds xs old mid → DecidesEach g ys mid new
      → DecidesEachIf g Open Holds (xs ++ ys) old new
  decides_then Open Holds xs ys old mid new one two = record {
    answers = λ clean F h is.
        let first = one.answers (two.setting.clean clean) F h is in
        let second = two.answers clean (after F xs) first.1 tt in
        let style : old_style_in mid (after F xs) ≡ old_style_in old F =
        ap (λ n. take n (after F xs)) one.setting.old_style
        ∙ (keeps_after (old_style_of old) F xs h.rows.within h.firsts').0 in (
          turn-append (limit_of old) (old_style_in old F) F xs ys first.0
              (subst (λ old_style. AreDecidedInTurn (limit_of old) old_style (after F xs) ys) style
              (subst (λ n. AreDecidedInTurn n (old_style_in mid (after F xs)) (after F xs) ys) one.setting.limit
              second.0)),
          subst (HoldsRequests g new) (sym (after-append F xs ys)) second.1,
        );
    setting = record {
      clean = λ clean. one.setting.clean (two.setting.clean clean);
      limit = two.setting.limit ∙ one.setting.limit;
      old_style = two.setting.old_style ∙ one.setting.old_style;
    };
    crash = survives_then (shows g old) (shows g mid) (shows g new) _ _ _
        (λ clean trees left F h alive is. leaves-first (old_style_of old) F xs ys trees (left F h alive is))
        (λ clean trees left F h alive is.
        leaves-second (old_style_of old) F xs ys trees
        (subst (λ n. LeavesSome n (after F xs) ys trees) one.setting.old_style
        (left (after F xs) (one.answers (two.setting.clean clean) F h is).1 tt tt)))
        one.crash two.crash;
    durable = λ clean F h alive is trees left.
        let cleaned = two.setting.clean clean in
        let first = one.answers cleaned F h is in
        elim (two.durable clean (after F xs) first.1 tt tt trees left) [
          | inl same ↦ elim (one.durable cleaned F h alive is trees same.0) [
            | inl was ↦ inl (was.0, after-append F xs ys ∙ same.1 ∙ was.1)
            | inr held ↦ inr (held-first (old_style_of old) F xs ys trees same.1 held)
          ]
          | inr held ↦ inr (held-second (old_style_of old) F xs ys trees
              (subst (λ n. LeavesHeld n (after F xs) ys trees) one.setting.old_style held))
        ];
    ends = ends-append xs ys one.ends two.ends
        (λ failed. all-weaker (λ d. d.1 ≡ Err Down) (λ d. IsErr d.1) ys down_is_none
        (two.down (one.stops.1 (inr failed))).0);
    down = λ stopped.
        let first = one.down stopped in
        let second = two.down (ap has_stopped first.1 ∙ stopped) in
        (all-append (λ d. d.1 ≡ Err Down) xs ys first.0 second.0, second.1 ∙ first.1);
    stops = (
      λ stopped. elim (two.stops.0 stopped) [
        | inl earlier ↦ elim (one.stops.0 earlier) [ inl was ↦ inl was | inr failed ↦ inr (failed-first xs ys failed) ]
        | inr failed ↦ inr (failed-second xs ys failed)
      ],
      λ cause. elim cause [
        | inl was ↦ two.stops.1 (inl (one.stops.1 (inl was)))
        | inr failed ↦ elim (failed-append xs ys failed) [
          | inl first ↦ two.stops.1 (inl (one.stops.1 (inr first)))
          | inr second ↦ two.stops.1 (inr second)
        ]
      ],
    );
    up = all-append (λ d. d.1 ≡ Err Down → has_stopped new ≡ true) xs ys
        (all-weaker (λ d. d.1 ≡ Err Down → has_stopped mid ≡ true) (λ d. d.1 ≡ Err Down → has_stopped new ≡ true) xs
        (λ d f is. two.stops.1 (inl (f is))) one.up) two.up;
  }

  alone : {r : Request} {old new : Intake S} (result : Given) → DecidesRequest g r old new result
      → SurvivesAs g old new (λ F trees. Unit {0} → Unit {0}
      → LeavesSome (old_style_of old) F ((r, result) ∷ []) trees)
  alone {r} {old} {new} result d =
      survives_weaker (shows g old) (shows g new) _ _
      (λ clean trees left F h _ _. record {
        before = [];
        next = (r, result);
        more = [];
        rest = [];
        are = refl;
        leaves = left F h;
      }) d.crash

  one_stops : {r : Request} {old new : Intake S} (result : Given) → DecidesRequest g r old new result
      → (has_stopped new ≡ true) ↔ ((has_stopped old ≡ true) ⊎ HasFailed ((r, result) ∷ []))
  one_stops result d = (
    λ stopped. elim (d.stops.0 stopped) [ inl was ↦ inl was | inr failed ↦ inr (inl failed) ],
    λ cause. elim cause [
      | inl was ↦ d.stops.1 (inl was)
      | inr failed ↦ elim failed [ inl this ↦ d.stops.1 (inr this) | inr none ↦ absurd none ]
    ],
  )

  -- one request
  pub decides_one : (r : Request) (result : Given) (old new : Intake S) → DecidesRequest g r old new result
      → DecidesEach g ((r, result) ∷ []) old new
  decides_one r (Ok a) old new d = record {
    answers = λ clean F h _.
        let told = d.answer clean F h in
        ((record { answer = told.0; full = d.full clean F h; room = d.room clean F h }, tt), told.1);
    setting = d.setting;
    crash = alone (Ok a) d;
    durable = λ clean F h _ _ trees left. ⊎_elim
        (λ (known : has_key F r ≡ true). elim (d.crash.crash clean trees left) [
          | inl was ↦ inl (was, firsts_repeat F r known ∙ h.firsts')
          | inr made ↦ inr (exactly F trees (made F h))
        ])
        (λ (fresh : has_key F r ≡ false). inr (exactly F trees ((d.durable clean F h (inr fresh)).1 trees left)))
        (cases_Bool (has_key F r));
    ends = (λ failed. tt, tt);
    down = λ stopped. let both = d.down stopped in ((both.0, tt), both.1);
    stops = one_stops (Ok a) d;
    up = (λ is. d.stops.1 (inl (d.up is)), tt);
  }
    where
      exactly : (F : List Request) (trees : Trees) → LeavesRegister (old_style_of old) (with_request F r) trees
          → LeavesHeld (old_style_of old) F ((r, Ok a) ∷ []) trees
      exactly F trees l =
          held_exactly (old_style_of old) F ((r, Ok a) ∷ []) trees (firsts-firsts (F ++ r ∷ [])) l
  decides_one r (Err e) old new d = record {
    answers = λ clean F h _.
        ((record { answer = tt; full = d.full clean F h; room = tt }, tt), d.err clean F h);
    setting = d.setting;
    crash = alone (Err e) d;
    durable = λ clean F h _ _ trees left. elim (d.crash.crash clean trees left) [
      | inl was ↦ inl (was, refl)
      | inr made ↦ inr (record {
        before = [];
        part = (r, Err e) ∷ [];
        rest = [];
        are = refl;
        leaves = made F h;
      })
    ];
    ends = (λ failed. tt, tt);
    down = λ stopped. let both = d.down stopped in ((both.0, tt), both.1);
    stops = one_stops (Err e) d;
    up = (λ is. d.stops.1 (inl (d.up is)), tt);
  }

  pub decides_none : (i : Intake S) → DecidesEach g [] i i
  decides_none i = record {
    answers = λ clean F h _. (tt, h);
    setting = record { clean = λ clean. clean; limit = refl; old_style = refl };
    crash = survives_weaker (shows g i) (shows g i) _ _ (λ clean trees none. absurd none) (nothing_yet (shows g i));
    durable = λ clean F h _ _ trees left. inl (left, refl);
    ends = tt;
    down = λ stopped. (tt, refl);
    stops = (λ stopped. inl stopped, λ cause. elim cause [ inl was ↦ was | inr none ↦ absurd none ]);
    up = tt;
  }

  -- ---- the results

  pub adds_none : (i : Intake S) (results : Vec Given Global) → AddsResults g [] [] i i results results
  adds_none i results = record {
    given = [];
    are = sym (append_nil results.items);
    each = refl;
    len = omega arith;
    decides = decides_none i;
    dates = dates_none i;
    room = refl;
  }

  pub adds_one : (r : Request) (m : ℕ) (result : Given) (old new : Intake S) (results results' : Vec Given Global)
      → DecidesRequest g r old new result → DatesRequest g r m old new result
      → results'.items ≡ results.items ++ result ∷ []
      → vec_len results' ≡ vec_len results + 1 → vec_capacity results' ≡ vec_capacity results
      → AddsResults g (r ∷ []) (m ∷ []) old new results results'
  adds_one r m result old new results results' decides dates are len room = record {
    given = result ∷ [];
    are = are;
    each = refl;
    len = len;
    decides = decides_one r result old new decides;
    dates = dates_one r result m old new dates;
    room = room;
  }

  pub adds_then : (Open : Type 0) (Holds : List Request → Type 0) (rs ss : List Request) (ms ms' : List ℕ)
      (old mid new : Intake S) (a b c : Vec Given Global) → length ms ≡ length rs
      → AddsResultsIf g Open Holds rs ms old mid a b → AddsResults g ss ms' mid new b c
      → AddsResultsIf g Open Holds (rs ++ ss) (ms ++ ms') old new a c
  adds_then Open Holds rs ss ms ms' old mid new a b c long one two = record {
    given = one.given ++ two.given;
    are = two.are ∙ ap (λ xs. xs ++ two.given) one.are ∙ append_assoc a.items one.given two.given;
    each = omega (arith, length-append one.given two.given, length-append rs ss, one.each, two.each);
    len = omega (arith, length-append one.given two.given, one.len, two.len);
    decides =
        subst (λ ds. DecidesEachIf g Open Holds ds old new) (sym (zip-append rs ss one.given two.given one.each))
        (decides_then Open Holds (zip rs one.given) (zip ss two.given) old mid new one.decides two.decides);
    dates =
        subst (λ ds. DatesAllIf g Open Holds ds (ms ++ ms') old new) (sym (zip-append rs ss one.given two.given
        one.each))
        (dates_then Open Holds (zip rs one.given) (zip ss two.given) ms ms' old mid new
        (long ∙ sym (length_zipped rs one.given one.each))
        one.decides two.decides one.dates two.dates);
    room = two.room ∙ one.room;
  }

  -- what is so if less is needed for it
  pub adds_weaker : {Open Open' : Type 0} {Holds Holds' : List Request → Type 0} {rs : List Request} {ms : List ℕ}
      {old new : Intake S} {a b : Vec Given Global} → (Open' → Open) → ((F : List Request) → Holds' F → Holds F)
      → AddsResultsIf g Open Holds rs ms old new a b → AddsResultsIf g Open' Holds' rs ms old new a b
  adds_weaker {old = old} {new = new} opened holds h = record {
    given = h.given;
    are = h.are;
    each = h.each;
    len = h.len;
    room = h.room;
    decides = record {
      answers = λ clean F held is. h.decides.answers clean F held (holds F is);
      setting = h.decides.setting;
      crash = survives_weaker (shows g old) (shows g new) _ _
          (λ clean trees left F held alive is. left F held (opened alive) (holds F is)) h.decides.crash;
      durable = λ clean F held alive is. h.decides.durable clean F held (opened alive) (holds F is);
      ends = h.decides.ends;
      down = h.decides.down;
      stops = h.decides.stops;
      up = h.decides.up;
    };
    dates = record {
      dated = λ clean F held moments had is. h.dates.dated clean F held moments had (holds F is);
      crash = survives_weaker (shows g old) (shows g new) _ _
          (λ clean trees left F moments held had alive is. left F moments held had (opened alive) (holds F is))
          h.dates.crash;
      next = h.dates.next;
    };
  }

  -- what is so in any case
  pub adds_if : (Open : Type 0) (Holds : List Request → Type 0) {rs : List Request} {ms : List ℕ} {old new : Intake S}
      {a b : Vec Given Global} → AddsResults g rs ms old new a b → AddsResultsIf g Open Holds rs ms old new a b
  adds_if Open Holds = adds_weaker (λ _. tt) (λ F _. tt)

  -- those that come next
  pub adds_next : (requests : List Request) (ms : List ℕ) {rest : List Request} {ms' : List ℕ} (at count : ℕ)
      (old mid new : Intake S) (a b c : Vec Given Global) → length ms ≡ length requests
      → AddsResults g (take at requests) (take at ms) old mid a b
      → AddsResults g (take count rest) (take count ms') mid new b c → count ≤ length rest → rest ≡ drop at requests
      → ms' ≡ drop at ms → at ≤ length requests
      → (vec_len c ≡ vec_len b + count) × AddsResults g (take (at + count) requests) (take (at + count) ms) old new a c
  adds_next requests ms {rest} {ms'} at count old mid new a b c long_ms one two few is ms_is within = (
    omega (arith, two.len, two.each, length-take-le count rest few),
    subst (λ ms. AddsResults g (take (at + count) requests) ms old new a c)
        (ap (λ (rest : List ℕ). take at ms ++ take count rest) ms_is ∙ take-both at count ms)
        (subst (λ rs. AddsResults g rs (take at ms ++ take count ms') old new a c)
        (ap (λ (rest : List Request). take at requests ++ take count rest) is ∙ take-both at count requests)
        (adds_then (Unit {0}) (λ F. Unit {0}) (take at requests) (take count rest) (take at ms) (take count ms') old mid
        new a b c
        (length-take-le at ms (omega (arith, long_ms, within)) ∙ sym (length-take-le at requests within)) one two)),
  )

  -- the first of them, and the others
  pub adds_rest : (Open : Type 0) (Holds : List Request → Type 0) (requests : List Request) (ms : List ℕ)
      {rest : List Request} {ms' : List ℕ} (count : ℕ) (old mid new : Intake S) (a b c : Vec Given Global)
      → length ms ≡ length requests
      → AddsResultsIf g Open Holds (take count requests) (take count ms) old mid a b
      → AddsResults g rest ms' mid new b c → rest ≡ drop count requests → ms' ≡ drop count ms
      → count ≤ length requests → AddsResultsIf g Open Holds requests ms old new a c
  adds_rest Open Holds requests ms {rest} {ms'} count old mid new a b c long_ms one two is ms_is within =
      subst (λ ms. AddsResultsIf g Open Holds requests ms old new a c)
      (ap (λ (rest : List ℕ). take count ms ++ rest) ms_is ∙ take-append-drop count ms)
      (subst (λ rs. AddsResultsIf g Open Holds rs (take count ms ++ ms') old new a c)
      (ap (λ (rest : List Request). take count requests ++ rest) is ∙ take-append-drop count requests)
      (adds_then Open Holds (take count requests) rest (take count ms) ms' old mid new a b c
      (length-take-le count ms (omega (arith, long_ms, within)) ∙ sym (length-take-le count requests within)) one two))
