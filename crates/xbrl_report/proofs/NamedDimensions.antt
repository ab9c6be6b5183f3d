-- The pairs of a dimension that is there, by its name.
use Rattle.std.proofs.Common.{◌≡◌, ◌≢◌, ℕ, List, [], ◌∷◌, ◌++◌, append-nil, codes, Bool, true, false, ◌&&◌, ◌||◌, not}
use Rattle.std.proofs.Common.{Option, Some, None, refl, sym, true≢false, if◌then◌else◌}
use Rattle.std.proofs.Math.Bool.{or-false, and-false, and-true}
use Rattle.std.specs.List.{list_any}
use Rattle.std.specs.Cmp.Lexicographic.{same_text}
use Rattle.serde_json.specs.Data.{Data}
use Rattle.serde_json.specs.Find.{as_str}
use Rattle.xbrl_values.specs.Language.{is_language}
use Rattle.xbrl_values.specs.Period.{is_period, is_backward, is_slash}
use Rattle.xbrl_values.specs.QName.{is_qname, is_entity, local_of}
use Rattle.xbrl_values.specs.Text.{same}
use Rattle.xbrl_values.specs.Unit.{is_unit}
use Rattle.xbrl_report.specs.declared.code.Code.TheVariants.{DimensionValue, Name, UnboundPrefix, NotTheFiler, Period}
use Rattle.xbrl_report.specs.declared.code.Code.TheVariants.{PeriodOrder, UnitForm, Language, UnknownDimension}
use Rattle.xbrl_report.specs.Dimension.{has_colon, is_core, has_wrong_value, has_wrong_name, has_unbound_prefix}
use Rattle.xbrl_report.specs.Dimension.{is_unbound_qname, is_unbound_entity, is_unbound_unit, is_not_the_filer}
use Rattle.xbrl_report.specs.Dimension.{is_no_period, is_no_ascending_period, is_no_unit, is_no_language}
use Rattle.xbrl_report.specs.Pair.{Pair, pair_at}
use Rattle.xbrl_report.specs.Paths as path
use Rattle.xbrl_report.specs.Tree.{is_text, is_null}
use Rattle.xbrl_report.specs.Walk.{pair_if, dimension_pairs}

module _ (filer : List ℕ) (namespaces : Option Data) (id : List ℕ) (v : Data) where
  abbrev pub concept_of : Option (List ℕ) → List Pair
  concept_of None = pair_at (path.concept id) DimensionValue ∷ []
  concept_of (Some s) =
      pair_if (not (is_qname s)) (path.concept id) Name
      ++ pair_if (is_unbound_qname namespaces s) (path.concept id) UnboundPrefix

  pub of_concept : (text : Option (List ℕ)) → text ≡ as_str v
      → dimension_pairs filer namespaces id (codes "concept", v) ≡ concept_of text
  unfolding dimension_pairs is_core has_wrong_value has_wrong_name has_unbound_prefix is_not_the_filer is_no_period
      is_no_ascending_period is_no_unit is_no_language
  of_concept None e = rw (← e) refl
  of_concept (Some s) e = rw (← e) (simp (or-false, append-nil))

  abbrev pub entity_of : Option (List ℕ) → List Pair
  entity_of None = pair_at (path.entity id) DimensionValue ∷ []
  entity_of (Some s) =
      pair_if (not (is_entity s)) (path.entity id) Name
      ++ (pair_if (is_unbound_entity namespaces s) (path.entity id) UnboundPrefix
      ++ pair_if (is_entity s && not (same (local_of s) filer)) (path.entity id) NotTheFiler)

  pub of_entity : (text : Option (List ℕ)) → text ≡ as_str v
      → dimension_pairs filer namespaces id (codes "entity", v) ≡ entity_of text
  unfolding dimension_pairs is_core has_wrong_value has_wrong_name has_unbound_prefix is_not_the_filer is_no_period
      is_no_ascending_period is_no_unit is_no_language
  of_entity None e = rw (← e) refl
  of_entity (Some s) e = rw (← e) (simp (or-false, append-nil))

  abbrev pub period_of : Option (List ℕ) → List Pair
  period_of None = pair_at (path.dimension id (codes "period")) DimensionValue ∷ []
  period_of (Some s) =
      pair_if (not (is_period s)) (path.dimension id (codes "period")) Period
      ++ pair_if (is_backward s) (path.dimension id (codes "period")) PeriodOrder

  pub of_period : (text : Option (List ℕ)) → text ≡ as_str v
      → dimension_pairs filer namespaces id (codes "period", v) ≡ period_of text
  unfolding dimension_pairs is_core has_wrong_value has_wrong_name has_unbound_prefix is_not_the_filer is_no_period
      is_no_ascending_period is_no_unit is_no_language
  of_period None e = rw (← e) refl
  of_period (Some s) e = rw (← e) (simp append-nil)

  abbrev pub unit_of : Option (List ℕ) → List Pair
  unit_of None = pair_at (path.unit id) DimensionValue ∷ []
  unit_of (Some s) =
      pair_if (is_unbound_unit namespaces s) (path.unit id) UnboundPrefix
      ++ pair_if (not (is_unit s)) (path.unit id) UnitForm

  pub of_unit : (text : Option (List ℕ)) → text ≡ as_str v
      → dimension_pairs filer namespaces id (codes "unit", v) ≡ unit_of text
  unfolding dimension_pairs is_core has_wrong_value has_wrong_name has_unbound_prefix is_not_the_filer is_no_period
      is_no_ascending_period is_no_unit is_no_language
  of_unit None e = rw (← e) refl
  of_unit (Some s) e = rw (← e) (simp append-nil)

  abbrev pub language_of : Option (List ℕ) → List Pair
  language_of None = pair_at (path.dimension id (codes "language")) DimensionValue ∷ []
  language_of (Some s) = pair_if (not (is_language s)) (path.dimension id (codes "language")) Language

  pub of_language : (text : Option (List ℕ)) → text ≡ as_str v
      → dimension_pairs filer namespaces id (codes "language", v) ≡ language_of text
  unfolding dimension_pairs is_core has_wrong_value has_wrong_name has_unbound_prefix is_not_the_filer is_no_period
      is_no_ascending_period is_no_unit is_no_language
  of_language None e = rw (← e) refl
  of_language (Some s) e = rw (← e) (simp append-nil)

  pub of_note : dimension_pairs filer namespaces id (codes "noteId", v)
      ≡ pair_if (not (is_text (Some v))) (path.note id) DimensionValue
  unfolding dimension_pairs is_core has_wrong_value has_wrong_name has_unbound_prefix is_not_the_filer is_no_period
      is_no_ascending_period is_no_unit is_no_language
  of_note = simp (and-true, append-nil)

-- ---- a period that isn't backward

no_span : (slash : Bool) (span one rest : Bool) → (if slash then (slash && span) else one) ≡ false
    → ((slash && span) && rest) ≡ false
no_span true false one rest h = refl
no_span true true one rest h = absurd (true≢false h)
no_span false span one rest h = refl

pub forward-no_period : (s : List ℕ) → is_period s ≡ false → is_backward s ≡ false
unfolding is_backward
forward-no_period s h = no_span (list_any is_slash s) _ _ _ h

pub forward-one : (s : List ℕ) → list_any is_slash s ≡ false → is_backward s ≡ false
unfolding is_backward
forward-one s h = rw h refl

-- ---- a name that is no core dimension's

differs : (s t : List ℕ) → s ≢ t → same s t ≡ false
differs s t h = told (same s t) refl
  where
    told : (b : Bool) → same s t ≡ b → b ≡ false
    told true e = absurd (h (same_text s t (sym e)))
    told false e = refl

none_true : (a b c d e f : Bool) → (a || b || c || d || e || f) ≡ false
    → (a ≡ false) × (b ≡ false) × (c ≡ false) × (d ≡ false) × (e ≡ false) × (f ≡ false)
none_true false false false false false false h = (refl, refl, refl, refl, refl, refl)
none_true false false false false false true h = absurd (true≢false h)
none_true false false false false true f h = absurd (true≢false h)
none_true false false false true e f h = absurd (true≢false h)
none_true false false true d e f h = absurd (true≢false h)
none_true false true c d e f h = absurd (true≢false h)
none_true true b c d e f h = absurd (true≢false h)

-- a name that is none of these
pub other_name : (name : List ℕ) → name ≢ codes "concept" → name ≢ codes "entity" → name ≢ codes "period"
    → name ≢ codes "unit" → name ≢ codes "language" → name ≢ codes "noteId" → is_core name ≡ false
unfolding is_core
other_name name concept entity period unit language note =
    rw (
      differs _ _ concept,
      differs _ _ entity,
      differs _ _ period,
      differs _ _ unit,
      differs _ _ language,
      differs _ _ note,
    ) refl

module _ (filer : List ℕ) (namespaces : Option Data) (id name : List ℕ) (v : Data) (other : is_core name ≡ false) where
  abbrev pub named_of : Bool → List Pair
  named_of false = pair_at (path.dimension id name) UnknownDimension ∷ []
  named_of true =
      pair_if (not (is_text (Some v)) && not (is_null (Some v))) (path.dimension id name) DimensionValue
      ++ (pair_if (not (is_qname name)) (path.dimension id name) Name
      ++ pair_if (is_unbound_qname namespaces name) (path.dimension id name) UnboundPrefix)

  pub of_named : (colon : Bool) → has_colon name ≡ colon
      → dimension_pairs filer namespaces id (name, v) ≡ named_of colon
  unfolding dimension_pairs is_core has_wrong_value has_wrong_name has_unbound_prefix is_not_the_filer is_no_period
      is_no_ascending_period is_no_unit is_no_language
  of_named false e =
      let none =
      none_true (same name (codes "concept")) (same name (codes "entity")) (same name (codes "period"))
      (same name (codes "unit")) (same name (codes "language")) (same name (codes "noteId")) other in
      simp (none.0, none.1, none.2, none.3, none.4, none.5, e, and-false, append-nil)
  of_named true e =
      let none =
      none_true (same name (codes "concept")) (same name (codes "entity")) (same name (codes "period"))
      (same name (codes "unit")) (same name (codes "language")) (same name (codes "noteId")) other in
      simp (none.0, none.1, none.2, none.3, none.4, none.5, e, or-false, append-nil)
