-- The calendar and the clock of the definitions are those of jiff.
use Rattle.std.proofs.Common.{◌≡◌, ◌<◌, ◌≤◌, ◌==◌, ◌+◌, ℕ, List, length, drop, drop-cons, add-one, subst, slice_index}
use Rattle.std.proofs.Common.{pos, Bool, true, false, nat_le, ◌&&◌, ◌↔◌, refl, sym, arith, true≢false}
use Rattle.std.specs.List.{list_any}
use Rattle.std.specs.Char.{is_ascii_digit}
use Rattle.std.proofs.Math.ListN.{drop_of_length-le}
use Rattle.std.proofs.lemmas.Bool.{and_from}
use Rattle.std.proofs.lemmas.Int.{ints}
use Rattle.std.proofs.lemmas.Bool.Decides.{nat_tests}
use Rattle.jiff_core.specs.Calendar.{IsDate, days_in_month}
use Rattle.jiff_core.specs.Time.{IsTime}
use Rattle.xbrl_values.specs.Period.{has_date_time_form, are_two_digits, is_on_calendar, is_on_clock, days_of_month}
use Rattle.xbrl_values.specs.Period.{is_date_time, is_slash}
use Rattle.xbrl_values.proofs.Bools.{left_of, right_of}

below : (a b : ℕ) → nat_le a b ≡ true → a ≤ b
below a b e = grind (arith, nat_tests)

below_test : (a b : ℕ) → a ≤ b → nat_le a b ≡ true
below_test a b h = grind (arith, nat_tests)

all_three : (a b c : Bool) → (a && b && c) ≡ true → (a ≡ true) × (b ≡ true) × (c ≡ true)
all_three true true true h = (refl, refl, refl)
all_three true true false h = absurd (true≢false (sym h))
all_three true false c h = absurd (true≢false (sym h))
all_three false b c h = absurd (true≢false (sym h))

all_four : (a b c d : Bool) → (a && b && c && d) ≡ true → (a ≡ true) × (b ≡ true) × (c ≡ true) × (d ≡ true)
all_four true true true true h = (refl, refl, refl, refl)
all_four true true true false h = absurd (true≢false (sym h))
all_four true true false d h = absurd (true≢false (sym h))
all_four true false c d h = absurd (true≢false (sym h))
all_four false b c d h = absurd (true≢false (sym h))

pub date-from_test : (year month day : ℕ) → year < 10000 → is_on_calendar year month day ≡ true
    → IsDate (pos year) (pos month) (pos day)
unfolding is_on_calendar
date-from_test year month day bound h =
    let p = all_four (nat_le 1 month) (nat_le month 12) (nat_le 1 day) (nat_le day (days_of_month year month)) h in
    let m1 = below 1 month p.0 in
    let m2 = below month 12 p.1 in
    let d1 = below 1 day p.2 in
    let d2 : day ≤ days_in_month (pos year) month = below day (days_of_month year month) p.3 in (
      (omega (arith, ints), omega (arith, ints)),
      (omega (arith, ints), omega (arith, ints)),
      (omega (arith, ints), omega (arith, ints)),
    )

pub test-from_date : (year month day : ℕ) → IsDate (pos year) (pos month) (pos day)
    → is_on_calendar year month day ≡ true
unfolding is_on_calendar
test-from_date year month day h =
    let m1 : 1 ≤ month = omega (arith, ints, h.1.0) in
    let m2 : month ≤ 12 = omega (arith, ints, h.1.1) in
    let d1 : 1 ≤ day = omega (arith, ints, h.2.0) in
    let d2 : day ≤ days_in_month (pos year) month = omega (arith, ints, h.2.1) in
    and_from (nat_le 1 month && nat_le month 12 && nat_le 1 day) _
    (and_from (nat_le 1 month && nat_le month 12) _
    (and_from (nat_le 1 month) _ (below_test 1 month m1) (below_test month 12 m2)) (below_test 1 day d1))
    (below_test day (days_of_month year month) d2)

pub time-from_test : (hour minute second : ℕ) → is_on_clock hour minute second ≡ true
    → IsTime (pos hour) (pos minute) (pos second) (pos 0)
unfolding is_on_clock
time-from_test hour minute second h =
    let p = all_three (nat_le hour 23) (nat_le minute 59) (nat_le second 59) h in
    let a = below hour 23 p.0 in
    let b = below minute 59 p.1 in
    let c = below second 59 p.2 in (
      (omega (arith, ints), omega (arith, ints)),
      (omega (arith, ints), omega (arith, ints)),
      (omega (arith, ints), omega (arith, ints)),
      (omega (arith, ints), omega (arith, ints)),
    )

pub test-from_time : (hour minute second : ℕ) → IsTime (pos hour) (pos minute) (pos second) (pos 0)
    → is_on_clock hour minute second ≡ true
unfolding is_on_clock
test-from_time hour minute second h =
    let a : hour ≤ 23 = omega (arith, ints, h.0.1) in
    let b : minute ≤ 59 = omega (arith, ints, h.1.1) in
    let c : second ≤ 59 = omega (arith, ints, h.2.1) in
    and_from (nat_le hour 23 && nat_le minute 59) _
    (and_from (nat_le hour 23) _ (below_test hour 23 a) (below_test minute 59 b)) (below_test second 59 c)

same_tests : (a b : Bool) → (a ≡ true → b ≡ true) → (b ≡ true → a ≡ true) → a ≡ b
same_tests true b f g = sym (f refl)
same_tests false true f g = g refl
same_tests false false f g = refl

-- jiff has the date and the time exactly where the definitions do
pub exists : (answer : Bool) (year month day hour minute second : ℕ) → year < 10000
    → (answer ≡ true) ↔ (IsDate (pos year) (pos month) (pos day) × IsTime (pos hour) (pos minute) (pos second) (pos 0))
    → answer ≡ (is_on_calendar year month day && is_on_clock hour minute second)
exists answer year month day hour minute second bound s =
    same_tests answer _
    (λ yes. let h = s.0 yes in
    and_from (is_on_calendar year month day) _ (test-from_date year month day h.0)
    (test-from_time hour minute second h.1))
    (λ h. s.1 (
      date-from_test year month day bound (left_of _ (is_on_clock hour minute second) h),
      time-from_test hour minute second (right_of (is_on_calendar year month day) _ h),
    ))

-- what the form of a date-time says
pub record Form (s : List ℕ) : Type 0 where
  pub long : length s ≡ 19
  pub at0 : are_two_digits s 0 ≡ true
  pub at2 : are_two_digits s 2 ≡ true
  pub at5 : are_two_digits s 5 ≡ true
  pub at8 : are_two_digits s 8 ≡ true
  pub at11 : are_two_digits s 11 ≡ true
  pub at14 : are_two_digits s 14 ≡ true
  pub at17 : are_two_digits s 17 ≡ true
  pub at4 : (slice_index s 4 == 45) ≡ true
  pub at7 : (slice_index s 7 == 45) ≡ true
  pub at10 : (slice_index s 10 == 84) ≡ true
  pub at13 : (slice_index s 13 == 58) ≡ true
  pub at16 : (slice_index s 16 == 58) ≡ true

same_length : (a b : ℕ) → (a == b) ≡ true → a ≡ b
same_length a b e = grind (arith, nat_tests)

pub form : (s : List ℕ) → has_date_time_form s ≡ true → Form s
unfolding has_date_time_form
form s h =
    let a1 = left_of _ (are_two_digits s 17) h in
    let a2 = left_of _ (are_two_digits s 14) a1 in
    let a3 = left_of _ (are_two_digits s 11) a2 in
    let a4 = left_of _ (are_two_digits s 8) a3 in
    let a5 = left_of _ (are_two_digits s 5) a4 in
    let a6 = left_of _ (are_two_digits s 2) a5 in
    let a7 = left_of _ (are_two_digits s 0) a6 in
    let a8 = left_of _ (slice_index s 16 == 58) a7 in
    let a9 = left_of _ (slice_index s 13 == 58) a8 in
    let a10 = left_of _ (slice_index s 10 == 84) a9 in
    let a11 = left_of _ (slice_index s 7 == 45) a10 in
    let a12 = left_of _ (slice_index s 4 == 45) a11 in
    record {
      long = same_length (length s) 19 a12;
      at0 = right_of _ (are_two_digits s 0) a6;
      at2 = right_of _ (are_two_digits s 2) a5;
      at5 = right_of _ (are_two_digits s 5) a4;
      at8 = right_of _ (are_two_digits s 8) a3;
      at11 = right_of _ (are_two_digits s 11) a2;
      at14 = right_of _ (are_two_digits s 14) a1;
      at17 = right_of _ (are_two_digits s 17) h;
      at4 = right_of _ (slice_index s 4 == 45) a11;
      at7 = right_of _ (slice_index s 7 == 45) a10;
      at10 = right_of _ (slice_index s 10 == 84) a9;
      at13 = right_of _ (slice_index s 13 == 58) a8;
      at16 = right_of _ (slice_index s 16 == 58) a7;
    }

-- ---- a date-time has no slash

no_slash_from : List ℕ → ℕ → Type 0
no_slash_from s i = list_any is_slash (drop i s) ≡ false

another_byte : (s : List ℕ) (i : ℕ) → i < length s → is_slash (slice_index s i) ≡ false → no_slash_from s (i + 1)
    → no_slash_from s i
unfolding no_slash_from
another_byte s i within other rest =
    rw (drop-cons s i 0 within, other) (subst (λ n. list_any is_slash (drop n s) ≡ false) (add-one i) rest)

digit_is_other : (b : ℕ) → is_ascii_digit b ≡ true → is_slash b ≡ false
digit_is_other b h = grind (arith, nat_tests)

mark_is_other : (b mark : ℕ) → (b == mark) ≡ true → is_slash mark ≡ false → is_slash b ≡ false
mark_is_other b mark h other = grind (arith, nat_tests)

two_digits_more : (s : List ℕ) (i : ℕ) → i + 1 < length s → are_two_digits s i ≡ true → no_slash_from s ((i + 1) + 1)
    → no_slash_from s i
two_digits_more s i within h rest =
    another_byte s i (omega arith) (digit_is_other _ (left_of _ (is_ascii_digit (slice_index s (i + 1))) h))
    (another_byte s (i + 1) within (digit_is_other _ (right_of (is_ascii_digit (slice_index s i)) _ h)) rest)

mark_more : (s : List ℕ) (i mark : ℕ) → i < length s → (slice_index s i == mark) ≡ true → is_slash mark ≡ false
    → no_slash_from s (i + 1) → no_slash_from s i
mark_more s i mark within h other rest = another_byte s i within (mark_is_other _ mark h other) rest

pub moment-no_slash : (s : List ℕ) → is_date_time s ≡ true → list_any is_slash s ≡ false
unfolding no_slash_from
moment-no_slash s h =
    let f = form s (left_of (has_date_time_form s) _ h) in
    let long : length s ≡ 19 = f.long in
    let past : length s ≤ 19 = omega arith in
    let end : no_slash_from s 19 = rw (drop_of_length-le s past) refl in
    two_digits_more s 0 (omega arith) f.at0
    (two_digits_more s 2 (omega arith) f.at2
    (mark_more s 4 45 (omega arith) f.at4 refl
    (two_digits_more s 5 (omega arith) f.at5
    (mark_more s 7 45 (omega arith) f.at7 refl
    (two_digits_more s 8 (omega arith) f.at8
    (mark_more s 10 84 (omega arith) f.at10 refl
    (two_digits_more s 11 (omega arith) f.at11
    (mark_more s 13 58 (omega arith) f.at13 refl
    (two_digits_more s 14 (omega arith) f.at14
    (mark_more s 16 58 (omega arith) f.at16 refl
    (two_digits_more s 17 (omega arith) f.at17 end)))))))))))
