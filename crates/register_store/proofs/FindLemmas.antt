-- What the look-ups find of the requests that the rows stand for.
use Rattle.std.proofs.Common.{◌≡◌, ◌⊎◌, inl, inr, ◌<◌, ◌≤◌, ℕ, ◌+◌, zero, suc, pos, cond, take, true, false, List, []}
use Rattle.std.proofs.Common.{◌∷◌, ◌++◌, map, filter, length, Option, Some, None, refl, sym, ap, ap₂, subst, ◌∙◌}
use Rattle.std.proofs.Common.{IsPermutation, nat_eq, arith, append-nil, ⊎_elim}
use Rattle.std.specs.Prelude.{find, nat_lt, nat_le}
use Rattle.std.proofs.lemmas.Bool.{cases_Bool, and_parts}
use Rattle.std.proofs.lemmas.Bool.Decides.{nat_tests}
use Rattle.std.proofs.lemmas.Slice.Eq.{bytes_eq-Decides}
use Rattle.std.proofs.lemmas.List.Sorted.{length_permutation}
use Rattle.std.proofs.lemmas.List.Elements.{filter-append}
use Rattle.sqlite.specs.declared.types.Value.TheVariants.{Int}
use Rattle.sqlite.specs.Order.{Row}
use Rattle.sqlite.specs.State.{State}
use Rattle.sqlite.proofs.Callers.{one_permutation}
use Rattle.xbrl_report.specs.Pair.{Pair}
use Rattle.xbrl_report.specs.CodeNumber.{number_of}
use Rattle.xbrl_report.specs.declared.code.Code.{Code}
use Rattle.xbrl_report.specs.declared.code.Code.TheVariants.{NotJson}
use Rattle.filing_model.specs.Request.{Request, same_key, has_key, firsts}
use Rattle.filing_model.specs.Register.{Kept, kept}
use Rattle.filing_model.specs.Answer.{kept_for}
use Rattle.filing_model.specs.Style.{style_of}
use Rattle.filing_model.specs.declared.served.Style.TheVariants.{Old, Problem}
use Rattle.filing_model.specs.Views.{the_request}
use Rattle.filing_model.proofs.Firsts.{firsts_once, same_key-refl}
use Rattle.filing_model.proofs.Keeping.{requests_of_kept}
use Rattle.filing_model.proofs.Lists.{filter-map, length-map}
use Rattle.table_rows.specs.Rows.{counted_from}
use Rattle.table_rows.specs.Reading.{RisesBy, ReadsRows}
use Rattle.table_rows.specs.Standing.{HasCommitted}
use Rattle.table_rows.proofs.OrderLemmas.{counted_rise, same_number, and_true}
use Rattle.register_rows.specs.Schema.{kept_table, finding_table, amends_table}
use Rattle.register_rows.specs.Register.{kept_row, finding_row, finding_rows, findings_of, amends_rows, amends_rows_by}
use Rattle.register_rows.specs.Register.{joined_from}
use Rattle.register_tables.specs.Reads.{by_second, has_texts}
use Rattle.register_store.specs.Found.{has_seq, unsorted, found_in, pair_in, found_row, finding_in, target_alone}
use Rattle.register_store.specs.Found.{code_in, IsPlaced, IsReading, IsLookUp}
use Rattle.register_store.specs.Outcomes.{style_at}
use Rattle.register_store.specs.declared.select.found.FoundRow.{FoundRow}
use Rattle.register_tables.specs.Registers.{IsRegisterOf}
use Rattle.register_tables.proofs.WalkRows.{has_its}

-- ---- the row of a filer and key

module _ (filer key : List ℕ) (target : Option ℕ) (body : List ℕ) where
  abbrev r : Request
  r = the_request filer key target body

  -- at most one of these is so
  abbrev Few : List Kept → Type 0
  Few ks = length (filter (λ k. same_key k.request r) ks) ≤ 1

  none_of_them : (at : ℕ) (ks : List Kept) → length (filter (λ k. same_key k.request r) ks) ≡ 0
      → filter (has_texts filer key) (counted_from kept_row at ks) ≡ []
  none_of_them at [] none = refl
  none_of_them at (k ∷ ks) none = ⊎_elim
      (λ (is : same_key k.request r ≡ true). absurd (let some : suc (length (filter (λ k. same_key k.request r) ks))
      ≡ 0 = rw is at none in omega (arith, some)))
      (λ (is : same_key k.request r ≡ false). rw (has_its filer key target body at k
      ∙ is) (none_of_them (at + 1) ks (rw is at none)))
      (cases_Bool (same_key k.request r))

  -- the row of the one that has the key, or none
  pub record IsOnly (at : ℕ) (ks : List Kept) (rows : List Row) : Type 0 where
    pub seq : ℕ
    pub k : Kept
    pub placed : IsPlaced at seq ks k
    pub is : find (λ k. same_key k.request r) ks ≡ Some k
    pub so : same_key k.request r ≡ true
    pub rows_are : rows ≡ kept_row seq k ∷ []

  record IsNone (ks : List Kept) (rows : List Row) : Type 0 where
    pub is : find (λ k. same_key k.request r) ks ≡ None
    pub rows_are : rows ≡ []

  only : (at : ℕ) (ks : List Kept) → Few ks → IsNone ks (filter (has_texts filer key) (counted_from kept_row at ks))
      ⊎ IsOnly at ks (filter (has_texts filer key) (counted_from kept_row at ks))
  only at [] few = inl (record { is = refl; rows_are = refl })
  only at (k ∷ ks) few =
      ⊎_elim here (λ (is : same_key k.request r ≡ false). further is (only (at + 1) ks (rw is at few)))
      (cases_Bool (same_key k.request r))
    where
      rest : List Row
      rest = filter (has_texts filer key) (counted_from kept_row (at + 1) ks)

      all : List Row
      all = filter (has_texts filer key) (counted_from kept_row at (k ∷ ks))

      here : same_key k.request r ≡ true → IsNone (k ∷ ks) all ⊎ IsOnly at (k ∷ ks) all
      here is =
          let some : suc (length (filter (λ k. same_key k.request r) ks)) ≤ 1 = rw is at few in
          let none = none_of_them (at + 1) ks (omega (arith, some)) in
          inr (record {
            seq = at;
            k = k;
            placed = inl (refl, refl);
            is = rw is refl;
            so = is;
            rows_are =
                rw (has_its filer key target body at k ∙ is) (ap (λ l. kept_row at k ∷ l) none);
          })

      further : same_key k.request r ≡ false → IsNone ks rest ⊎ IsOnly (at + 1) ks rest
          → IsNone (k ∷ ks) all ⊎ IsOnly at (k ∷ ks) all
      further is (inl none) =
          inl (record { is = rw is none.is; rows_are = rw (has_its filer key target body at k ∙ is) none.rows_are })
      further is (inr one) =
          inr (record {
            seq = one.seq;
            k = one.k;
            placed = inr one.placed;
            is = rw is one.is;
            so = one.so;
            rows_are =
                rw (has_its filer key target body at k ∙ is) one.rows_are;
          })

few_kept : (F : List Request) (r : Request) → length (filter (λ k. same_key k.request r) (kept F)) ≤ 1
few_kept F r =
    let as_firsts : map (λ k. k.request) (filter (λ k. same_key k.request r) (kept F))
    ≡ filter (λ s. same_key s r) (firsts F)
    = sym (filter-map (λ (k : Kept). k.request) (λ s. same_key s r) (kept F))
    ∙ ap (filter (λ s. same_key s r)) (requests_of_kept F) in
    omega (
      arith,
      length-map (λ (k : Kept). k.request) (filter (λ k. same_key k.request r) (kept F)),
      ap length as_firsts,
      firsts_once F r,
    )

pub nothing : (rows : List Row) → IsPermutation [] rows → rows ≡ []
nothing [] same = refl
nothing (r ∷ rows) same = absurd (omega (arith, length_permutation _ _ same))

-- one row, which is that of the kept request
pub record IsThere (filer key : List ℕ) (F : List Request) (rows : List Row) : Type 0 where
  pub k : Kept
  pub seq : ℕ
  pub placed : IsPlaced 1 seq (kept F) k
  pub is : (target : Option ℕ) (body : List ℕ) → kept_for (kept F) (the_request filer key target body) ≡ Some k
  pub filer_is : k.request.filer ≡ filer
  pub key_is : k.request.key ≡ key
  pub rows_are : rows ≡ found_row seq k ∷ []

-- what the rows of a filer and key say
abbrev pub IsRead : List ℕ → List ℕ → List Request → List Row → Type 0
IsRead filer key F rows =
    (((target : Option ℕ) (body : List ℕ) → kept_for (kept F) (the_request filer key target body) ≡ None) × (rows ≡ []))
    ⊎ IsThere filer key F rows

module _ {old_style : ℕ} (filer key : List ℕ) (F : List Request) (old new : State) (rows : List Row)
    (was : HasCommitted (IsRegisterOf old_style F) old) where
  its_row : IsNone filer key None [] (kept F) (filter (has_texts filer key) (counted_from kept_row 1 (kept F)))
      ⊎ IsOnly filer key None [] 1 (kept F) (filter (has_texts filer key) (counted_from kept_row 1 (kept F)))
      → IsPermutation (map found_in (filter (has_texts filer key) (counted_from kept_row 1 (kept F)))) rows
      → IsRead filer key F rows
  its_row (inl none) same = inl ((λ target body. none.is), nothing rows (rw none.rows_are at same))
  its_row (inr one) same =
      let both = and_parts _ _ one.so in
      inr (record {
        k = one.k;
        seq = one.seq;
        placed = one.placed;
        is = λ target body. one.is;
        filer_is = (bytes_eq-Decides one.k.request.filer filer).0 both.0;
        key_is = (bytes_eq-Decides one.k.request.key key).0 both.1;
        rows_are = one_permutation (found_row one.seq one.k) rows (rw one.rows_are at same);
      })

  pub key_read : ReadsRows kept_table (has_texts filer key) unsorted found_in rows old new → IsRead filer key F rows
  key_read h =
      its_row (only filer key None [] 1 (kept F) (few_kept F (the_request filer key None [])))
      (h.any (counted_from kept_row 1 (kept F)) (was.now h.same.0.was_open).rows.rows.kept_is)

looked_up : (filer key : List ℕ) (F : List Request) (rows : List Row) → IsRead filer key F rows
    → (found : Option FoundRow) → IsReading rows found → IsLookUp filer key F found
looked_up filer key F rows (inl none) None h = none.0
looked_up filer key F rows (inl none) (Some found) h = absurd (h.0 none.1)
looked_up filer key F rows (inr one) None h = absurd (let rows_are = one.rows_are in cc)
looked_up filer key F rows (inr one) (Some found) h =
    let says = h.1 one.seq one.k one.rows_are in
    record {
      k = one.k;
      seq = one.seq;
      placed = one.placed;
      is = one.is;
      request =
          λ i. record {
            filer = one.filer_is i;
            key = one.key_is i;
            target = one.k.request.target;
            body =
                sym says.1 i;
          };
      seq_is = says.0;
      number_is = says.2;
    }

-- the answer of a look-up
pub key_found : {old_style : ℕ} (filer key : List ℕ) (F : List Request) (old new : State) (rows : List Row)
    → HasCommitted (IsRegisterOf old_style F) old
    → ReadsRows kept_table (has_texts filer key) unsorted found_in rows old new
    → (found : Option FoundRow) → IsReading rows found → IsLookUp filer key F found
key_found filer key F old new rows was h found reading =
    looked_up filer key F rows (key_read filer key F old new rows was h) found reading

-- ---- the findings at a place

module _ (seq : ℕ) where
  its_seq : (at pos' : ℕ) (f : Pair) → has_seq (pos seq) (finding_row at pos' f) ≡ nat_eq at seq
  its_seq at pos' f = and_true _ ∙ same_number at seq

  all_its : (at : ℕ) (fs : List Pair) → filter (has_seq (pos seq)) (counted_from (finding_row seq) at fs)
      ≡ counted_from (finding_row seq) at fs
  all_its at [] = refl
  all_its at (f ∷ fs) = let here : nat_eq seq seq ≡ true = grind (arith, nat_tests) in
      rw (its_seq seq at f ∙ here) (ap (λ l. finding_row seq at f ∷ l) (all_its (at + 1) fs))

  none_its : (m at : ℕ) (fs : List Pair) → nat_eq m seq ≡ false
      → filter (has_seq (pos seq)) (counted_from (finding_row m) at fs) ≡ []
  none_its m at [] apart = refl
  none_its m at (f ∷ fs) apart = rw (its_seq m at f ∙ apart) (none_its m (at + 1) fs apart)

  none_later : (at : ℕ) (ks : List Kept) → seq < at → filter (has_seq (pos seq)) (joined_from finding_rows at ks) ≡ []
  none_later at [] low = refl
  none_later at (k ∷ ks) low =
      let apart : nat_eq at seq ≡ false = grind (arith, nat_tests) in
      filter-append (has_seq (pos seq)) (finding_rows at k) (joined_from finding_rows (at + 1) ks)
      ∙ ap₂ ◌++◌ (none_its at 1 (findings_of k.outcome) apart) (none_later (at + 1) ks (omega arith))

  pub placed_from : (at : ℕ) (ks : List Kept) (k : Kept) → IsPlaced at seq ks k → at ≤ seq
  placed_from at [] k h = absurd h
  placed_from at (x ∷ ks) k (inl here) = omega (arith, here.0)
  placed_from at (x ∷ ks) k (inr later) = omega (arith, placed_from (at + 1) ks k later)

  -- the rows of a place are those of the request that stands there
  pub its_rows : (at : ℕ) (ks : List Kept) (k : Kept) → IsPlaced at seq ks k
      → filter (has_seq (pos seq)) (joined_from finding_rows at ks) ≡ finding_rows seq k
  its_rows at [] k h = absurd h
  its_rows at (x ∷ ks) k (inl here) =
      let low : seq < at + 1 = omega (arith, here.0) in
      filter-append (has_seq (pos seq)) (finding_rows at x) (joined_from finding_rows (at + 1) ks)
      ∙ ap₂ ◌++◌ (ap (λ n. filter (has_seq (pos seq)) (counted_from (finding_row n) 1 (findings_of x.outcome)))
      (sym here.0) ∙ all_its 1 (findings_of x.outcome)) (none_later (at + 1) ks low)
      ∙ append-nil _ ∙ ap (finding_rows seq) (sym here.1)
  its_rows at (x ∷ ks) k (inr later) =
      let above = placed_from (at + 1) ks k later in
      let apart : nat_eq at seq ≡ false = grind (arith, nat_tests) in
      filter-append (has_seq (pos seq)) (finding_rows at x) (joined_from finding_rows (at + 1) ks)
      ∙ ap₂ ◌++◌ (none_its at 1 (findings_of x.outcome) apart) (its_rows (at + 1) ks k later)

-- ---- the style of a filer and key

module _ (filer key : List ℕ) (target : Option ℕ) (body : List ℕ) where
  abbrev asked : Request
  asked = the_request filer key target body

  abbrev alike : List Kept → List Kept
  alike ks = filter (λ k. same_key k.request asked) ks

  some_placed : (at seq : ℕ) (ks : List Kept) (k : Kept) → IsPlaced at seq ks k → same_key k.request asked ≡ true
      → 1 ≤ length (alike ks)
  some_placed at seq [] k h so = absurd h
  some_placed at seq (x ∷ ks) k (inl here) so = let is : same_key x.request asked ≡ true =
      ap (λ (y : Kept). same_key y.request asked) (sym here.1) ∙ so in rw is (omega arith)
  some_placed at seq (x ∷ ks) k (inr later) so = ⊎_elim
      (λ (is : same_key x.request asked ≡ true). rw is (omega arith))
      (λ (is : same_key x.request asked ≡ false). rw is (some_placed (at + 1) seq ks k later so))
      (cases_Bool (same_key x.request asked))

  -- the first so many have them where the kept request stands among these
  among_first : (n at seq : ℕ) (ks : List Kept) (k : Kept) → length (alike ks) ≤ 1 → IsPlaced at seq ks k
      → same_key k.request asked ≡ true
      → has_key (take n (map (λ (k : Kept). k.request) ks)) asked ≡ nat_lt seq (at + n)
  among_first n at seq [] k few h so = absurd h
  among_first zero at seq (x ∷ ks) k few placed so = let above = placed_from seq at (x ∷ ks) k placed in
      grind (arith, nat_tests, above)
  among_first (suc n) at seq (x ∷ ks) k few (inl here) so =
      let is : same_key x.request asked ≡ true = ap (λ (y : Kept). same_key y.request asked) (sym here.1) ∙ so in
      let low : seq < at + suc n = omega (arith, here.0) in
      rw is (grind (arith, nat_tests, low))
  among_first (suc n) at seq (x ∷ ks) k few (inr later) so = ⊎_elim
      (λ (is : same_key x.request asked ≡ true). absurd (let less : suc (length (alike ks)) ≤ 1 = rw is at few in
      omega (arith, less, some_placed (at + 1) seq ks k later so)))
      (λ (is : same_key x.request asked ≡ false). rw is (among_first n (at + 1) seq ks k (rw is at few) later so
      ∙ ap (nat_lt seq) (omega arith)))
      (cases_Bool (same_key x.request asked))

  -- so the place of the kept request tells the style
  pub styled : (old_style : ℕ) (F : List Request) → firsts F ≡ F → (seq : ℕ) (k : Kept) → IsPlaced 1 seq (kept F) k
      → same_key k.request asked ≡ true → style_at old_style seq ≡ style_of (take old_style F) asked
  styled old_style F distinct seq k placed so =
      let has : has_key (take old_style (map (λ (k : Kept). k.request) (kept F))) asked ≡ nat_lt seq (1 + old_style) =
      among_first old_style 1 seq (kept F) k (few_kept F asked) placed so in
      let same : nat_le seq old_style ≡ nat_lt seq (1 + old_style) = grind (arith, nat_tests) in
      ap (λ b. cond b Old Problem) (same ∙ sym has ∙ ap (λ rs. has_key (take old_style rs) asked) (requests_of_kept F
      ∙ distinct))

pub has_same_key : (s : Request) (filer key : List ℕ) (target another : Option ℕ) (body other : List ℕ)
    → s ≡ the_request filer key target body → same_key s (the_request filer key another other) ≡ true
has_same_key s filer key target another body other is =
    ap (λ (r : Request). same_key r (the_request filer key another other)) is
    ∙ same_key-refl (the_request filer key target body)

-- what a row says of its finding
pub code_back : (c : Code) → code_in (Int (pos (number_of c))) ≡ c
code_back NotJson = refl
code_back _ = refl

pairs_back : (seq at : ℕ) (fs : List Pair) → map finding_in (map pair_in (counted_from (finding_row seq) at fs)) ≡ fs
pairs_back seq at [] = refl
pairs_back seq at (f ∷ fs) =
    ap₂ (λ c l. record { place = f.place; code = c } ∷ l) (code_back f.code) (pairs_back seq (at + 1) fs)

module _ {old_style : ℕ} (F : List Request) (old new : State) (rows : List Row)
    (was : HasCommitted (IsRegisterOf old_style F) old) (seq : ℕ) (k : Kept) (placed : IsPlaced 1 seq (kept F) k) where
  its_table : filter (has_seq (pos seq)) (joined_from finding_rows 1 (kept F)) ≡ finding_rows seq k
  its_table = its_rows seq 1 (kept F) k placed

  -- the rows say the findings
  pub findings_read : ReadsRows finding_table (has_seq (pos seq)) by_second pair_in rows old new
      → map finding_in rows ≡ findings_of k.outcome
  findings_read h =
      ap (map finding_in) (h.ordered (joined_from finding_rows 1 (kept F))
      (was.now h.same.0.was_open).rows.rows.finding_is
      (subst (RisesBy by_second) (sym its_table) (counted_rise (finding_row seq) by_second (λ _ _. refl) 1
      (findings_of k.outcome))) ∙ ap (map pair_in) its_table)
      ∙ pairs_back seq 1 (findings_of k.outcome)

-- ---- the filing that a request is to replace

module _ (seq : ℕ) where
  amends_its : (at : ℕ) (t : Option ℕ) → nat_eq at seq ≡ true
      → filter (has_seq (pos seq)) (amends_rows_by at t) ≡ amends_rows_by at t
  amends_its at None same = refl
  amends_its at (Some n) same = rw (and_true _ ∙ same_number at seq ∙ same) refl

  no_amends : (at : ℕ) (t : Option ℕ) → nat_eq at seq ≡ false → filter (has_seq (pos seq)) (amends_rows_by at t) ≡ []
  no_amends at None apart = refl
  no_amends at (Some n) apart = rw (and_true _ ∙ same_number at seq ∙ apart) refl

  no_later_amends : (at : ℕ) (ks : List Kept) → seq < at → filter (has_seq (pos seq)) (joined_from amends_rows at ks)
      ≡ []
  no_later_amends at [] low = refl
  no_later_amends at (k ∷ ks) low =
      let apart : nat_eq at seq ≡ false = grind (arith, nat_tests) in
      filter-append (has_seq (pos seq)) (amends_rows at k) (joined_from amends_rows (at + 1) ks)
      ∙ ap₂ ◌++◌ (no_amends at k.request.target apart) (no_later_amends (at + 1) ks (omega arith))

  -- the rows of a place are those of the request that stands there
  pub its_amends : (at : ℕ) (ks : List Kept) (k : Kept) → IsPlaced at seq ks k
      → filter (has_seq (pos seq)) (joined_from amends_rows at ks) ≡ amends_rows seq k
  its_amends at [] k h = absurd h
  its_amends at (x ∷ ks) k (inl here) =
      let low : seq < at + 1 = omega (arith, here.0) in
      let same : nat_eq at seq ≡ true = let e = here.0 in grind (arith, nat_tests, e) in
      filter-append (has_seq (pos seq)) (amends_rows at x) (joined_from amends_rows (at + 1) ks)
      ∙ ap₂ ◌++◌ (amends_its at x.request.target same) (no_later_amends (at + 1) ks low)
      ∙ append-nil _ ∙ ap (λ n. amends_rows n x) (sym here.0) ∙ ap (amends_rows seq) (sym here.1)
  its_amends at (x ∷ ks) k (inr later) =
      let above = placed_from seq (at + 1) ks k later in
      let apart : nat_eq at seq ≡ false = grind (arith, nat_tests) in
      filter-append (has_seq (pos seq)) (amends_rows at x) (joined_from amends_rows (at + 1) ks)
      ∙ ap₂ ◌++◌ (no_amends at x.request.target apart) (its_amends (at + 1) ks k later)

few_targets : (seq : ℕ) (t : Option ℕ) (rows : List Row) → IsPermutation (map target_alone (amends_rows_by seq t)) rows
    → rows ≡ map target_alone (amends_rows_by seq t)
few_targets seq None rows same = nothing rows same
few_targets seq (Some n) rows same = one_permutation (Int (pos n) ∷ []) rows same

-- the rows say the target
pub target_read : {old_style : ℕ} (F : List Request) (old new : State) (rows : List Row)
    → HasCommitted (IsRegisterOf old_style F) old → (seq : ℕ) (k : Kept) → IsPlaced 1 seq (kept F) k
    → ReadsRows amends_table (has_seq (pos seq)) unsorted target_alone rows old new
    → rows ≡ map target_alone (amends_rows_by seq k.request.target)
target_read F old new rows was seq k placed h =
    let all = h.any (joined_from amends_rows 1 (kept F)) (was.now h.same.0.was_open).rows.rows.amends_is in
    few_targets seq k.request.target rows (rw (its_amends seq 1 (kept F) k placed) at all)
