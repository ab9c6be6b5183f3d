-- Rows of `received`, and the moments that they say.
use Rattle.std.proofs.Common.{◌≡◌, ◌≢◌, ◌≤◌, ◌<◌, ◌⊎◌, inl, inr, ⊎_elim, ℕ, suc, ◌+◌, ◌-◌, List, [], ◌∷◌, ◌++◌}
use Rattle.std.proofs.Common.{length, length-append, append-nil, refl, sym, ap, subst, ◌∙◌, arith, map, replicate}
use Rattle.std.proofs.Common.{take, drop, get_or}
use Rattle.std.proofs.Common.{Option, Some, None}
use Rattle.std.specs.Prelude.{unwrap_or}
use Rattle.std.specs.List.{AllByRecursion}
use Rattle.std.proofs.lemmas.List.{length-map, length-replicate, take_more, take_all, drop_more, take-append-drop}
use Rattle.sqlite.specs.Order.{Row, column}
use Rattle.table_rows.specs.Rows.{counted_from}
use Rattle.table_rows.proofs.StepLemmas.{counted_push}
use Rattle.register_rows.specs.declared.dates.Dates.{Dates}
use Rattle.register_rows.specs.Columns.{number_in}
use Rattle.register_rows.specs.Dated.{AreDatedFrom}
use Rattle.register_rows.specs.Dates.{AreDates, BeginsBehind, IsUndatedAt, SaysMoments, SaysNoMoments}
use Rattle.register_rows.specs.Received.{IsMoment, received_row, all_moments}
use Rattle.register_rows.proofs.SegmentLemmas.{length_counted}

pub length-all_moments : (undated : ℕ) (dated : List ℕ) → length (all_moments undated dated) ≡ undated + length dated
length-all_moments undated dated =
    let both = length-append (replicate {A = Option ℕ} undated None) (map Some dated) in
    let front = length-replicate {A = Option ℕ} undated None in
    let back = length-map dated (λ (x : ℕ). Some x) in
    omega (arith, both, front, back)

pub same_place : (m n x y : ℕ) → received_row m x ≡ received_row n y → m ≡ n
same_place m n x y e = ap (λ r. unwrap_or (number_in (column r 0)) 0) e

pub same_moment : (m n x y : ℕ) → received_row m x ≡ received_row n y → x ≡ y
same_moment m n x y e = ap (λ r. unwrap_or (number_in (column r 1)) 0) e

-- ---- rows that are those of no moments

-- behind some moments the rows do not go on with the next one, though there is a next one
not_dated : (first : ℕ) (before : List ℕ) (rest : List Row) (dated : List ℕ) → length before < length dated
    → ((moment : ℕ) (more : List Row) → IsMoment moment → rest ≢ received_row (first + length before) moment ∷ more)
    → AllByRecursion IsMoment dated
    → counted_from received_row first before ++ rest ≡ counted_from received_row first dated → ⊥
not_dated first [] rest [] low none within same = absurd (omega (arith, low))
not_dated first [] rest (x ∷ dated) low none within same =
    let here : first ≡ first + 0 = omega arith in
    none x (counted_from received_row (first + 1) dated) within.0
    (same ∙ ap (λ n. received_row n x ∷ counted_from received_row (first + 1) dated) here)
not_dated first (y ∷ before) rest [] low none within same = absurd (omega (arith, low))
not_dated first (y ∷ before) rest (x ∷ dated) low none within same =
    let behind : counted_from received_row (first + 1) before ++ rest ≡ counted_from received_row (first + 1) dated =
    cc in
    let place : first + 1 + length before ≡ first + suc (length before) = omega arith in
    not_dated (first + 1) before rest dated (omega (arith, low))
    (λ moment more is e. none moment more is (e ∙ ap (λ n. received_row n moment ∷ more) place)) within.1 behind

-- where two lists of rows are one, they begin at one place
same_first : (m n : ℕ) (before dated : List ℕ) (rest : List Row) → 0 < length before
    → counted_from received_row m before ++ rest ≡ counted_from received_row n dated → m ≡ n
same_first m n [] dated rest some same = absurd (omega (arith, some))
same_first m n (y ∷ before) [] rest some same = absurd cc
same_first m n (y ∷ before) (x ∷ dated) rest some same =
    let one : received_row m y ≡ received_row n x = cc in same_place m n y x one

pub undated_none : (kept_are row : ℕ) (rows : List Row) → IsUndatedAt kept_are rows row → SaysNoMoments kept_are rows
undated_none kept_are row rows (inl many) moments says =
    let long = ap length says.rows_are in
    let each = length_counted received_row (says.undated + 1) says.dated in
    absurd (omega (arith, many.1, long, each, says.one_each))
undated_none kept_are row rows (inr found) moments says =
    let f = found.1 in
    let start = starts f.before refl in
    let place : row ≡ f.first + length f.before = f.place in
    not_dated f.first f.before f.rest says.dated (omega (arith, f.place, f.is_kept, start, says.one_each))
    (λ moment more is e. f.none moment more is (e ∙ ap (λ n. received_row n moment ∷ more) (sym place))) says.within
    (sym f.rows_are ∙ says.rows_are ∙ ap (λ n. counted_from received_row n says.dated) (sym start))
  where
    starts : (before : List ℕ) → before ≡ found.1.before → found.1.first ≡ says.undated + 1
    starts [] is =
        let alone = (found.1.alone (sym is)).0 in
        let none = ap length is in
        let long = ap length says.rows_are in
        let each = length_counted received_row (says.undated + 1) says.dated in
        omega (arith, alone, none, found.0, found.1.place, long, each, says.one_each)
    starts (y ∷ before) is =
        let some = ap length is in
        same_first found.1.first (says.undated + 1) found.1.before says.dated found.1.rest (omega (arith, some))
        (sym found.1.rows_are ∙ says.rows_are)

-- ---- rows looked through, one after another

-- the first rows, so many, are those of the kept requests from this place on
pub record AreDatedSoFar (first : ℕ) (rows : List Row) (at : ℕ) : Type 0 where
  pub before : List ℕ
  pub within : AllByRecursion IsMoment before
  pub many_is : at ≡ length before
  pub front_is : take at rows ≡ counted_from received_row first before

pub none_so_far : (first : ℕ) (rows : List Row) → AreDatedSoFar first rows 0
none_so_far first rows = record { before = []; within = tt; many_is = refl; front_is = refl }

within_more : (xs : List ℕ) (x : ℕ) → AllByRecursion IsMoment xs → IsMoment x → AllByRecursion IsMoment (xs ++ x ∷ [])
within_more [] x all one = (one, tt)
within_more (y ∷ xs) x all one = (all.0, within_more xs x all.1 one)

module _ (first : ℕ) (rows : List Row) (at : ℕ) (row : Row) (low : at < length rows) (is : row ≡ get_or rows at row)
    (so_far : AreDatedSoFar first rows at) where
  pub more_so_far : (moment : ℕ) → IsMoment moment → row ≡ received_row (first + at) moment
      → AreDatedSoFar first rows (at + 1)
  more_so_far moment fits dated =
      let long = length-append so_far.before (moment ∷ []) in
      let place : first + at ≡ first + length so_far.before = ap (λ n. first + n) so_far.many_is in
      record {
        before = so_far.before ++ moment ∷ [];
        within = within_more so_far.before moment so_far.within fits;
        many_is = omega (arith, so_far.many_is, long);
        front_is = take_more rows at row low ∙ ap (λ l. l ++ get_or rows at row ∷ []) so_far.front_is
            ∙ ap (λ r. counted_from received_row first so_far.before ++ r ∷ []) (sym is ∙ dated
            ∙ ap (λ n. received_row n moment) place)
            ∙ sym (counted_push received_row first so_far.before moment);
      }

  pub ends_here : ((moment : ℕ) → IsMoment moment → row ≢ received_row (first + at) moment)
      → AreDatedFrom first rows at
  ends_here undated = record {
    before = so_far.before;
    rest = drop at rows;
    within = so_far.within;
    rows_are = sym (take-append-drop at rows) ∙ ap (λ l. l ++ drop at rows) so_far.front_is;
    many_is = so_far.many_is;
    ends = λ moment more fits e. let split : row ∷ drop (at + 1) rows ≡ received_row (first + at) moment ∷ more =
        ap (λ r. r ∷ drop (at + 1) rows) is ∙ sym (drop_more rows at row low) ∙ e in
        undated moment fits cc;
  }

pub ends_with_all : (first : ℕ) (rows : List Row) (at : ℕ) → length rows ≤ at → AreDatedSoFar first rows at
    → AreDatedFrom first rows (length rows)
ends_with_all first rows at all so_far =
    let whole : rows ≡ counted_from received_row first so_far.before =
    sym (take_all at rows all) ∙ so_far.front_is in
    record {
      before = so_far.before;
      rest = [];
      within = so_far.within;
      rows_are = whole ∙ sym (append-nil _);
      many_is = ap length whole ∙ length_counted received_row first so_far.before;
      ends = λ moment more fits e. absurd cc;
    }

-- the first row is not among them
pub none_dated : (first : ℕ) (rows : List Row)
    → ((seq moment : ℕ) (more : List Row) → IsMoment moment → rows ≢ received_row seq moment ∷ more)
    → AreDatedFrom first rows 0
none_dated first rows none = record {
  before = [];
  rest = rows;
  within = tt;
  rows_are = refl;
  many_is = refl;
  ends = λ moment more fits e. none (first + 0) moment more fits e;
}

-- it is
pub some_dated : (first : ℕ) (rows : List Row) (many : ℕ) → AreDatedFrom first rows many
    → (moment : ℕ) (more : List Row) → IsMoment moment → rows ≡ received_row first moment ∷ more → many ≢ 0
some_dated first rows many are moment more fits is zero = go are.before are.many_is are.rows_are
  where
    go : (before : List ℕ) → many ≡ length before → rows ≡ counted_from received_row first before ++ are.rest → ⊥
    go [] none rest_is =
        let here : first ≡ first + many = omega (arith, zero) in
        are.ends moment more fits (sym rest_is ∙ is ∙ ap (λ n. received_row n moment ∷ more) here)
    go (x ∷ xs) some rest_is = absurd (omega (arith, zero, some))

-- ---- what code keeps of rows

no_rows : (rows : List Row) → length rows ≡ 0 → rows ≡ []
no_rows [] none = refl
no_rows (r ∷ rows) none = absurd (omega (arith, none))

module _ (rows : List Row) (d : Dates) (are : AreDates rows d) where
  long : length rows ≡ length are.sound_are.before + length are.sound_are.rest
  long =
      let all = ap length are.sound_are.rows_are in
      let both = length-append (counted_from received_row d.first are.sound_are.before) are.sound_are.rest in
      let front = length_counted received_row d.first are.sound_are.before in
      omega (arith, all, both, front)

  -- there are none
  pub says_none : (kept_are : ℕ) → d.rows ≡ 0 → (moments : List (Option ℕ)) × SaysMoments kept_are rows moments
  says_none kept_are none = (
    all_moments kept_are [],
    record {
      undated = kept_are;
      dated = [];
      is = refl;
      one_each =
          omega arith;
      within = tt;
      rows_are = no_rows rows (sym are.many ∙ none);
    },
  )

  -- they are those of the last kept requests
  pub says_all : (kept_are : ℕ) → d.rows ≤ kept_are → 0 < d.rows → d.first ≤ kept_are - d.rows + 1
      → kept_are - d.first < d.sound → (moments : List (Option ℕ)) × SaysMoments kept_are rows moments
  says_all kept_are few some early all =
      let total = long in
      let s = are.sound_are in
      let first : d.first ≡ kept_are - d.rows + 1 = omega (arith, few, some, early, all, total, s.many_is, are.many) in
      let nothing : s.rest ≡ [] = no_rows s.rest (omega (arith, few, some, early, all, total, s.many_is, are.many)) in (
        all_moments (kept_are - d.rows) s.before,
        record {
          undated = kept_are - d.rows;
          dated = s.before;
          is = refl;
          one_each = omega (arith, few, some, early, all, total, s.many_is, are.many);
          within = s.within;
          rows_are =
              s.rows_are ∙ ap (λ l. counted_from received_row d.first s.before ++ l) nothing
              ∙ append-nil _ ∙ ap (λ n. counted_from received_row n s.before) first;
        },
      )

  -- there are more than kept requests
  pub told_many : (kept_are : ℕ) → kept_are < d.rows → IsUndatedAt kept_are rows 0
  told_many kept_are many = inl (refl, subst (λ n. kept_are < n) are.many many)

  -- the first is not that of the first kept request which should have one, nor of one before it
  pub told_first : (kept_are : ℕ) → d.rows ≤ kept_are → 0 < d.rows
      → (d.sound ≡ 0) ⊎ (kept_are - d.rows + 1 < d.first) → IsUndatedAt kept_are rows (kept_are - d.rows + 1)
  told_first kept_are few some why =
      inr (
        subst (λ n. n ≤ kept_are) are.many few,
        record {
          first = kept_are - d.rows + 1;
          before = [];
          rest = rows;
          within = tt;
          rows_are = refl;
          place = omega arith;
          is_kept = omega (arith, few, some);
          alone = λ _. (omega (arith, are.many), begins);
          none = λ moment more is e. let behind = begins (kept_are - d.rows + 1) moment more is e in
              absurd (omega (arith, behind));
        },
      )
    where
      elsewhere : (before : List ℕ) → before ≡ are.sound_are.before → kept_are - d.rows + 1 < d.first
          → BeginsBehind (kept_are - d.rows + 1) rows
      elsewhere [] is later seq moment more fits e =
          absurd (are.none (are.sound_are.many_is ∙ ap length (sym is)) seq moment more fits e)
      elsewhere (x ∷ xs) is later seq moment more fits e =
          let mine : rows ≡ counted_from received_row d.first (x ∷ xs) ++ are.sound_are.rest =
          are.sound_are.rows_are ∙ ap (λ l. counted_from received_row d.first l ++ are.sound_are.rest) (sym is) in
          let one : received_row d.first x ≡ received_row seq moment = cc in
          omega (arith, later, same_place d.first seq x moment one)

      begins : BeginsBehind (kept_are - d.rows + 1) rows
      begins seq moment more is e =
          ⊎_elim (λ zero. absurd (are.none zero seq moment more is e))
          (λ later. elsewhere are.sound_are.before refl later seq moment more is e) why

  -- the rows from the first on end before the last kept request
  pub told_later : (kept_are : ℕ) → d.rows ≤ kept_are → 0 < d.sound → d.first + d.sound ≤ kept_are
      → IsUndatedAt kept_are rows (d.first + d.sound)
  told_later kept_are few some low =
      let s = are.sound_are in
      inr (
        subst (λ n. n ≤ kept_are) are.many few,
        record {
          first = d.first;
          before = s.before;
          rest = s.rest;
          within = s.within;
          rows_are = s.rows_are;
          place = ap (λ n. d.first + n) s.many_is;
          is_kept = low;
          alone = λ none. let n = ap length none in absurd (omega (arith, n, some, s.many_is));
          none = λ moment more is e. s.ends moment more is e;
        },
      )
