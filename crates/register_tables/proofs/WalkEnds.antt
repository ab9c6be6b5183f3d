-- What a walk comes to, and that it comes to the end of a register that stands.
use Rattle.std.proofs.Common.{◌≡◌, ◌<◌, inl, inr, ℕ, ◌+◌, ◌++◌, suc, false, List, [], ◌∷◌, Some, length, subst}
use Rattle.std.proofs.Common.{sym, ap, ◌∙◌, append-nil, length-append, arith, refl, pos, Bool, true, int_cmp, filter}
use Rattle.std.proofs.Common.{Option, None, drop, ◌≤◌}
use Rattle.std.proofs.lemmas.Bool.Decides.{nat_tests}
use Rattle.std.specs.List.{prefix_len}
use Rattle.std.proofs.lemmas.List.{length-drop}
use Rattle.std.proofs.lemmas.List.Sums.{prefix_len-le-length}
use Rattle.sqlite.specs.declared.types.Value.TheVariants.{Int}
use Rattle.std.specs.Ordering.{is_lt}
use Rattle.std.proofs.lemmas.Int.{ints}
use Rattle.sqlite.specs.Ops.{binary, is_true, from_truth}
use Rattle.sqlite_value.proofs.OrderLemmas.{value_cmp-Int}
use Rattle.table_rows.proofs.OrderLemmas.{and_true}
use Rattle.std.proofs.lemmas.List.{append_cancel_left}
use Rattle.std.proofs.lemmas.List.Sorted.{length_permutation}
use Rattle.sqlite.specs.Order.{Row}
use Rattle.sqlite.specs.Table.{Table}
use Rattle.sqlite.specs.Effect.{Database}
use Rattle.sqlite_keyed.proofs.ListLemmas.{IsPermutation-filter}
use Rattle.filing_model.specs.Request.{Request}
use Rattle.filing_model.specs.Register.{Kept, kept, judged}
use Rattle.table_rows.specs.Picking.{HasLeft, rows_in}
use Rattle.table_rows.specs.Rows.{TableHas, counted_from}
use Rattle.table_rows.proofs.TakeLemmas.{all_taken}
use Rattle.register_rows.specs.Catalogue.{catalogue_of, view_lines}
use Rattle.register_rows.specs.declared.catalogue.Catalogue.{Catalogue}
use Rattle.register_rows.specs.Outcomes.{filings_by}
use Rattle.register_rows.specs.Register.{amends_rows, amends_rows_by, finding_rows, filing_rows, fact_rows}
use Rattle.register_rows.specs.Register.{joined_from, kept_row}
use Rattle.register_rows.specs.Schema.{kept_table, finding_table, filing_table, fact_table}
use Rattle.register_rows.proofs.MoreRequests.{kept_length}
use Rattle.register_rows.proofs.SegmentLemmas.{length_counted}
use Rattle.register_rows.proofs.StepsOfTargets.{no_amends}
use Rattle.register_tables.specs.declared.opening.walk.Left.{Left}
use Rattle.register_tables.specs.declared.opening.walk.Totals.{Totals}
use Rattle.register_tables.specs.Reads.{is_early, HasEarly}
use Rattle.register_tables.specs.Walk.{AreAllOf, AreAllPassed, Amounts, HasFactRows, IsFirstUnsound, IsUnsound}
use Rattle.register_tables.specs.Walk.{NonePasses, Passes, Walked, is_stray, of_requests}
use Rattle.register_tables.proofs.Leading.{alone_is, amends_left, behind, completed_is, facts_picked, filing_picked}
use Rattle.register_tables.proofs.Leading.{findings_picked, kept_picked, rows_left}

module _ (db : Database) (table : Table) (rows : List Row) where
  -- the table has these rows and no others
  none_left : (n : ℕ) → n ≡ 0 → HasLeft table rows n db → TableHas db table rows
  none_left n none has = all_taken table db rows (subst (λ m. HasLeft table rows m db) none has)

  -- where it has them all, none is left
  pub nothing_left : (n : ℕ) → HasLeft table rows n db → TableHas db table rows → n ≡ 0
  nothing_left n has whole =
      let all = length_permutation _ _ whole in
      let had = length_permutation _ _ has.all in
      let parts = length-append rows has.rest in
      let many = has.many in
      omega (arith, all, had, parts, many)

-- the requests that were walked past are all, and the counts are theirs
pub all_walked : (amends_are : List Row) (total : ℕ) (left : Left) (db : Database) (F : List Request)
    → Walked amends_are total total left db F → (catalogue : Catalogue) → view_lines catalogue ≡ catalogue_of F
    → (counts : Totals) → (counts.kept ≡ total) × (left.findings ≡ 0) × (left.filings ≡ 0) × (left.facts ≡ 0)
    × (left.number ≡ counts.filings + 1) × (left.amends.now ≡ []) × (counts.catalogue ≡ catalogue)
    → Amounts counts amends_are db
all_walked amends_are total left db F w catalogue lines counts says =
    let had = w.number_is in
    let next = says.4 in
    let all = w.in_all in
    record {
      requests = F;
      are = record {
        distinct = w.distinct;
        completed = w.completed;
        kept_is = none_left db kept_table _ w.kept_left (omega (arith, all)) w.kept_is;
        finding_is = none_left db finding_table _ left.findings says.1 w.finding_is;
        filing_is = none_left db filing_table _ left.filings says.2 w.filing_is;
        fact_is = none_left db fact_table _ left.facts says.3 w.fact_is;
        amends_is = w.amends_is ∙ ap (λ l. joined_from amends_rows 1 (kept F) ++ l) says.5 ∙ append-nil _;
      };
      kept_is = says.0 ∙ sym w.many;
      filings_is = omega (arith, had, next);
      catalogue_is = ap (λ c. view_lines c) says.6 ∙ lines;
    }

module _ (amends_are : List Row) (total count : ℕ) (left : Left) (db : Database) (F : List Request)
    (w : Walked amends_are total count left db F) (all : List Request) (are : AreAllOf all amends_are db) where
  -- as many are to be walked past as the requests are of which the tables have all rows
  as_many : total ≡ length all
  as_many =
      let whole = length_permutation _ _ are.kept_is in
      let had = length_permutation _ _ w.kept_is.all in
      let parts = length-append (counted_from kept_row 1 (kept F)) w.kept_is.rest in
      let many = w.kept_is.many in
      let mine = length_counted kept_row 1 (kept F) in
      let theirs = length_counted kept_row 1 (kept all) in
      let my_kept = kept_length F w.distinct in
      let their_kept = kept_length all are.distinct in
      let counted = w.many in
      let sum = w.in_all in
      omega (arith, whole, had, parts, many, mine, theirs, my_kept, their_kept, counted, sum)

  -- and none of these is unsound
  pub goes_on : count < total → NonePasses F (suc count) left db → ⊥
  goes_on within none = go (w.leads all are).0 (w.leads all are).1
    where
      go : (later : List Request) → all ≡ F ++ later → ⊥
      go [] is =
          let long = ap length is in
          let parts = length-append F [] in
          let many = as_many in
          let counted = w.many in
          omega (arith, long, parts, many, counted, within)
      go (r ∷ later) is =
          let held = subst (λ G. AreAllOf G amends_are db) is are in
          let long = kept_length F w.distinct in
          let counted = w.many in
          let seq : suc (length (kept F)) ≡ suc count = omega (arith, long, counted) in
          let once = w.distinct in
          let whole = held.distinct in
          let n = suc (length (kept F)) in
          let k = judged (kept F) r in
          let ks = behind F later r once whole in
          let rest = joined_from amends_rows (n + 1) ks in
          let tail : Left = record left {
            amends = record left.amends { now = rest };
            findings = length (joined_from finding_rows (n + 1) ks);
            filings = length (joined_from filing_rows (n + 1) ks);
            facts = length (joined_from fact_rows (n + 1) ks);
            number = left.number + filings_by k.outcome;
          } in
          let passes : Passes F n left tail db r = record {
            completed = completed_is F later r once whole amends_are db held;
            kept_is = kept_picked F later r once whole amends_are db held;
            alone = alone_is F later r once whole amends_are db held;
            beyond = record {
              finding_is = findings_picked F later r once whole amends_are db held;
              filing_is = filing_picked F later r once whole amends_are db held;
              fact_is =
                  subst (λ m. HasFactRows k.outcome m (fact_rows n k) db) (sym w.number_is)
                  (facts_picked F later r once whole amends_are db held);
              findings_left =
                  rows_left F later r once whole amends_are db held finding_table finding_rows left.findings
                  held.finding_is w.finding_is;
              filings_left =
                  rows_left F later r once whole amends_are db held filing_table filing_rows left.filings
                  held.filing_is w.filing_is;
              facts_left =
                  rows_left F later r once whole amends_are db held fact_table fact_rows left.facts held.fact_is
                  w.fact_is;
              number_is = refl;
            };
            amends_is = amends_left F later r once whole amends_are db held left.amends.now w.amends_is;
            ends = no_amends n (n + 1) ks (omega arith);
          } in
          none r tail (subst (λ m. Passes F m left tail db r) seq passes)

  -- nothing is left behind the last
  pub ends_so : count ≡ total → (left.findings ≡ 0) × (left.filings ≡ 0) × (left.facts ≡ 0) × (left.amends.now ≡ [])
  ends_so end = go (w.leads all are).0 (w.leads all are).1
    where
      same : all ≡ F → (left.findings ≡ 0) × (left.filings ≡ 0) × (left.facts ≡ 0) × (left.amends.now ≡ [])
      same is =
          let held = subst (λ G. AreAllOf G amends_are db) is are in (
            nothing_left db finding_table _ left.findings w.finding_is held.finding_is,
            nothing_left db filing_table _ left.filings w.filing_is held.filing_is,
            nothing_left db fact_table _ left.facts w.fact_is held.fact_is,
            append_cancel_left (joined_from amends_rows 1 (kept F)) _ _
                (sym w.amends_is ∙ held.amends_is ∙ sym (append-nil _)),
          )

      go : (later : List Request) → all ≡ F ++ later
          → (left.findings ≡ 0) × (left.filings ≡ 0) × (left.facts ≡ 0) × (left.amends.now ≡ [])
      go [] is = same (is ∙ append-nil F)
      go (r ∷ later) is =
          let long = ap length is in
          let parts = length-append F (r ∷ later) in
          let many = as_many in
          let counted = w.many in
          absurd (omega (arith, long, parts, many, counted, end))

-- ---- rows of `amends` that are of no request

not_stray : (seq target : ℕ) → 0 < seq → is_stray (Int (pos seq) ∷ Int (pos target) ∷ []) ≡ false
not_stray seq target low = grind (arith, nat_tests)

none_stray : (seq : ℕ) (ks : List Kept) → 0 < seq → prefix_len is_stray (joined_from amends_rows seq ks) ≡ 0
none_stray seq [] low = refl
none_stray seq (k ∷ ks) low = go k.request.target (none_stray (seq + 1) ks (omega arith))
  where
    go : (t : Option ℕ) → prefix_len is_stray (joined_from amends_rows (seq + 1) ks) ≡ 0
        → prefix_len is_stray (amends_rows_by seq t ++ joined_from amends_rows (seq + 1) ks) ≡ 0
    go None later = later
    go (Some target) later = rw (not_stray seq target low) refl

-- a register that stands has none
stands_without : (amends_are : List Row) (db : Database) (all : List Request) → AreAllOf all amends_are db
    → of_requests amends_are ≡ amends_are
stands_without amends_are db all are =
    ap (λ n. drop n amends_are) (ap (prefix_len is_stray) are.amends_is ∙ none_stray 1 (kept all) (omega arith))

-- so what it has is what is walked over
all_of_requests : (amends_are : List Row) (db : Database) (all : List Request) → AreAllOf all amends_are db
    → AreAllOf all (of_requests amends_are) db
all_of_requests amends_are db all are =
    subst (λ rows. AreAllOf all rows db) (sym (stands_without amends_are db all are)) are

-- where none is left out, all are walked over
pub none_out : (amends_are : List Row) → length amends_are ≤ length (of_requests amends_are)
    → of_requests amends_are ≡ amends_are
none_out amends_are most =
    let n = prefix_len is_stray amends_are in
    let within = prefix_len-le-length is_stray amends_are in
    let long = length-drop n amends_are in
    let none : n ≡ 0 = omega (arith, within, long, most) in
    ap (λ m. drop m amends_are) none

-- where one is unsound, the tables have the rows of no requests
pub none_stand : (amends_are : List Row) (row : ℕ) (db : Database) → IsFirstUnsound amends_are row db
    → (all : List Request) → AreAllOf all amends_are db → ⊥
none_stand amends_are row db first all are =
    goes_on amends_are first.total (length first.before) first.left db first.before first.walked all are first.within
    (subst (λ n. NonePasses first.before n first.left db) first.place first.unsound)

-- a register that stands has no kept row before the first place
truth_of : (b : Bool) → is_true (from_truth (Some b)) ≡ b
truth_of true = refl
truth_of false = refl

not_early : (at : ℕ) (k : Kept) → 0 < at → is_early (kept_row at k) ≡ false
unfolding binary
not_early at k low = and_true _ ∙ truth_of _ ∙ ap is_lt (value_cmp-Int (pos at) (pos 1)) ∙ by_numbers
  where
    by_numbers : is_lt (int_cmp (pos at) (pos 1)) ≡ false
    by_numbers = grind (arith, ints)

none_early : (at : ℕ) (ks : List Kept) → 0 < at → filter is_early (counted_from kept_row at ks) ≡ []
none_early at [] low = refl
none_early at (k ∷ ks) low = rw (not_early at k low) (none_early (at + 1) ks (omega arith))

pub early_stands_not : (amends_are : List Row) (db : Database) → HasEarly db → (all : List Request)
    → AreAllOf all amends_are db → ⊥
early_stands_not amends_are db early all are =
    let same = length_permutation _ _ (IsPermutation-filter is_early _ (rows_in db kept_table) are.kept_is) in
    let none = ap length (none_early 1 (kept all) (omega arith)) in
    omega (arith, early, same, none)

-- ---- why no amounts are found

pub unsound_first : (amends_are : List Row) (row : ℕ) (db : Database) → (HasEarly db → ⊥)
    → IsFirstUnsound (of_requests amends_are) row db → IsUnsound amends_are row db
unsound_first amends_are row db late first = record {
  none = λ all are. none_stand (of_requests amends_are) row db first all (all_of_requests amends_are db all are);
  told = inr (late, inr first);
}

pub unsound_early : (amends_are : List Row) (db : Database) → HasEarly db → IsUnsound amends_are 1 db
unsound_early amends_are db early =
    record { none = early_stands_not amends_are db early; told = inl (refl, early) }

module _ (amends_are : List Row) (total : ℕ) (left : Left) (db : Database) (late : HasEarly db → ⊥)
    (F : List Request) (w : Walked (of_requests amends_are) total total left db F) where
  all_passed : AreAllPassed (of_requests amends_are) db
  all_passed = record {
    requests = F;
    left = left;
    walked = subst (λ n. Walked (of_requests amends_are) n n left db F) (sym w.many) w;
  }

  -- rows are left over behind the last
  pub unsound_left : (left.findings ≡ 0 → left.filings ≡ 0 → left.facts ≡ 0 → left.amends.now ≡ [] → left.number ≡ 0)
      → IsUnsound amends_are 0 db
  unsound_left over = record {
    none = λ all are.
        let end =
        ends_so (of_requests amends_are) total total left db F w all (all_of_requests amends_are db all are) refl in
        let none = over end.0 end.1 end.2 end.3 in
        let next = w.number_is in
        omega (arith, none, next);
    told = inr (late, inl (refl, all_passed));
  }

  -- rows of `amends` lie before the first place
  pub unsound_stray : length (of_requests amends_are) < length amends_are → IsUnsound amends_are 0 db
  unsound_stray fewer = record {
    none = λ all are. let same = ap length (stands_without amends_are db all are) in omega (arith, fewer, same);
    told = inr (late, inl (refl, all_passed));
  }
