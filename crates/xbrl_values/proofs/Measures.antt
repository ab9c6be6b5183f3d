-- A unit of one measure.
use Rattle.std.proofs.Common.{◌≡◌, ℕ, List, [], ◌∷◌, ◌||◌, Bool, true, false, eqb, None, refl, true≢false}
use Rattle.std.proofs.lemmas.Bool.{or_parts, not-true}
use Rattle.std.specs.List.{list_any}
use Rattle.xbrl_values.specs.Period.{is_slash}
use Rattle.xbrl_values.specs.QName.{is_qname}
use Rattle.xbrl_values.specs.Unit.{is_unit_mark, is_measure, is_measure_list, is_unit, factors, after_opening, inside}
use Rattle.xbrl_values.specs.Unit.{over, under}
use Rattle.xbrl_values.proofs.Bools.{left_of, right_of}

-- what a byte that is no mark is not
unmarked : (star slash opening closing : Bool) → ((star || slash || opening || closing) ≡ false)
    → (star ≡ false) × (slash ≡ false) × (opening ≡ false)
unmarked false false false closing h = (refl, refl, refl)
unmarked false false true closing h = absurd (true≢false h)
unmarked false true opening closing h = absurd (true≢false h)
unmarked true slash opening closing h = absurd (true≢false h)

no_slash : (s : List ℕ) → list_any is_unit_mark s ≡ false → list_any is_slash s ≡ false
no_slash [] h = refl
no_slash (x ∷ xs) h =
    let n = or_parts (is_unit_mark x) (list_any is_unit_mark xs) h in
    let u = unmarked (eqb x 42) (eqb x 47) (eqb x 40) (eqb x 41) n.0 in
    rw u.1 (no_slash xs n.1)

one_factor : (s : List ℕ) → list_any is_unit_mark s ≡ false → factors s ≡ s ∷ []
one_factor [] h = refl
one_factor (x ∷ xs) h =
    let n = or_parts (is_unit_mark x) (list_any is_unit_mark xs) h in
    let u = unmarked (eqb x 42) (eqb x 47) (eqb x 40) (eqb x 41) n.0 in
    rw (u.0, one_factor xs n.1) refl

not_opened : (s : List ℕ) → list_any is_unit_mark s ≡ false → after_opening s ≡ None
not_opened [] h = refl
not_opened (x ∷ xs) h =
    let n = or_parts (is_unit_mark x) (list_any is_unit_mark xs) h in
    let u = unmarked (eqb x 42) (eqb x 47) (eqb x 40) (eqb x 41) n.0 in
    rw u.2 refl

module _ (s : List ℕ) (measure : is_measure s ≡ true) where
  pub measure-is_qname : is_qname s ≡ true
  unfolding is_measure
  measure-is_qname = left_of (is_qname s) _ measure

  plain : list_any is_unit_mark s ≡ false
  unfolding is_measure
  plain = not-true (list_any is_unit_mark s) (right_of (is_qname s) _ measure)

  pub measure-is_unit : is_unit s ≡ true
  unfolding is_unit is_measure_list
  measure-is_unit = rw (no_slash s plain, one_factor s plain, measure) refl

  pub measure-over : over s ≡ s ∷ []
  unfolding over inside
  measure-over = rw (no_slash s plain, not_opened s plain) (one_factor s plain)

  pub measure-under : under s ≡ []
  unfolding under
  measure-under = rw (no_slash s plain) refl
