-- What the rows of facts say of the filings that they stand for.
use Rattle.std.proofs.Common.{◌≡◌, ℕ, ◌+◌, ◌<◌, ◌≤◌, ℤ, true, false, List, [], ◌∷◌, ◌++◌, map, filter, length, Option}
use Rattle.std.proofs.Common.{Some, None, IsSome, refl, sym, ap, ap₂, subst, ◌∙◌, nat_eq, arith, append-nil, ⊎_elim}
use Rattle.std.specs.Prelude.{flat_map, option_map, unwrap_or}
use Rattle.std.specs.List.{range_with_len}
use Rattle.std.proofs.lemmas.Bool.{cases_Bool}
use Rattle.std.proofs.lemmas.Bool.Decides.{nat_tests}
use Rattle.std.proofs.lemmas.List.Elements.{filter-append}
use Rattle.sqlite.specs.declared.types.Value.TheVariants.{Int, Blob}
use Rattle.sqlite.specs.Values.{or_null}
use Rattle.sqlite.specs.Order.{Row}
use Rattle.sqlite.specs.State.{State}
use Rattle.xbrl_report.specs.FactRecord.{FactRecord}
use Rattle.xbrl_report.specs.ReportParts.{facts}
use Rattle.filing_model.specs.Request.{Request}
use Rattle.filing_model.specs.Register.{Filing, kept, register}
use Rattle.filing_model.proofs.Keeping.{register_numbered}
use Rattle.table_rows.specs.Rows.{counted_from}
use Rattle.table_rows.specs.Reading.{RisesBy, ReadsRows}
use Rattle.table_rows.specs.Standing.{HasCommitted}
use Rattle.table_rows.proofs.OrderLemmas.{counted_rise, same_number, and_true}
use Rattle.register_rows.specs.Columns.{maybe_bytes_in, integer_in, fact_in}
use Rattle.register_store.specs.Numbered.{filing_numbered, facts_numbered}
use Rattle.register_tables.specs.Reads.{by_second}
use Rattle.register_store.specs.Reads.{said}
use Rattle.table_rows.specs.Picking.{has_number}
use Rattle.register_rows.specs.Register.{fact_row, fact_rows, joined_from}
use Rattle.register_rows.specs.Schema.{fact_table}
use Rattle.register_tables.specs.Registers.{IsRegisterOf}
use Rattle.register_rows.proofs.FactRows.{rows_of, table_is}

module _ (n : ℕ) where
  its : (m at : ℕ) (x : FactRecord) → has_number n (fact_row m at x) ≡ nat_eq m n
  its m at x = and_true _ ∙ same_number m n

  all_its : (at : ℕ) (xs : List FactRecord) → filter (has_number n) (counted_from (fact_row n) at xs)
      ≡ counted_from (fact_row n) at xs
  all_its at [] = refl
  all_its at (x ∷ xs) = let here : nat_eq n n ≡ true = grind (arith, nat_tests) in
      rw (its n at x ∙ here) (ap (λ l. fact_row n at x ∷ l) (all_its (at + 1) xs))

  none_its : (m at : ℕ) (xs : List FactRecord) → nat_eq m n ≡ false
      → filter (has_number n) (counted_from (fact_row m) at xs) ≡ []
  none_its m at [] apart = refl
  none_its m at (x ∷ xs) apart = rw (its m at x ∙ apart) (none_its m (at + 1) xs apart)

  -- the numbers of the filings are counted from m
  abbrev Counted : ℕ → List Filing → Type 0
  Counted m fs = map (λ (f : Filing). f.number) fs ≡ range_with_len m (length fs)

  first_is : (m : ℕ) (f : Filing) (fs : List Filing) → Counted m (f ∷ fs) → (f.number ≡ m) × Counted (m + 1) fs
  first_is m f fs h = (cc, cc)

  none_later : (m : ℕ) (fs : List Filing) → n < m → Counted m fs → filter (has_number n) (flat_map rows_of fs) ≡ []
  none_later m [] low h = refl
  none_later m (f ∷ fs) low h =
      let both = first_is m f fs h in
      let apart : nat_eq f.number n ≡ false = rw both.0 (grind (arith, nat_tests)) in
      filter-append (has_number n) (rows_of f) (flat_map rows_of fs)
      ∙ ap₂ ◌++◌ (none_its f.number 1 (facts f.request.body) apart) (none_later (m + 1) fs (omega arith) both.1)

  -- of the filings those of this number, which is one at most
  pub its_rows : (m : ℕ) (fs : List Filing) → Counted m fs
      → filter (has_number n) (flat_map rows_of fs) ≡ counted_from (fact_row n) 1 (unwrap_or (facts_numbered n fs) [])
  its_rows m [] h = refl
  its_rows m (f ∷ fs) h = ⊎_elim
      (λ (same : nat_eq f.number n ≡ true).
      let is : f.number ≡ n = grind (arith, nat_tests, same) in
      let low : n < m + 1 = omega (arith, is, both.0) in
      filter-append (has_number n) (rows_of f) (flat_map rows_of fs)
      ∙ ap₂ ◌++◌ (ap (λ k. filter (has_number n) (counted_from (fact_row k) 1 (facts f.request.body))) is
      ∙ all_its 1 (facts f.request.body)) (none_later (m + 1) fs low both.1)
      ∙ append-nil _ ∙ rw same refl)
      (λ (apart : nat_eq f.number n ≡ false).
      filter-append (has_number n) (rows_of f) (flat_map rows_of fs)
      ∙ ap₂ ◌++◌ (none_its f.number 1 (facts f.request.body) apart) (its_rows (m + 1) fs both.1) ∙ rw apart refl)
      (cases_Bool (nat_eq f.number n))
    where
      both : (f.number ≡ m) × Counted (m + 1) fs
      both = first_is m f fs h

  -- the numbers that are there, and those that are not
  pub is_there : (m : ℕ) (fs : List Filing) → Counted m fs → m ≤ n → n < m + length fs → IsSome (filing_numbered n fs)
  is_there m [] h low high = absurd (omega arith)
  is_there m (f ∷ fs) h low high = ⊎_elim
      (λ (same : nat_eq f.number n ≡ true). rw same refl)
      (λ (apart : nat_eq f.number n ≡ false).
      let both = first_is m f fs h in
      let other : m ≡ n → ⊥ =
      λ e. absurd (let here : nat_eq f.number n ≡ true = rw (both.0 ∙ e) (grind (arith, nat_tests)) in cc) in
      let next : m + 1 ≤ n = omega (arith, low, other) in
      rw apart (is_there (m + 1) fs both.1 next (omega arith)))
      (cases_Bool (nat_eq f.number n))

  pub is_absent : (m : ℕ) (fs : List Filing) → Counted m fs → ((m ≤ n) → (n < m + length fs) → ⊥)
      → filing_numbered n fs ≡ None
  is_absent m [] h out = refl
  is_absent m (f ∷ fs) h out =
      let both = first_is m f fs h in
      let apart : nat_eq f.number n ≡ false = rw both.0 (grind (arith, nat_tests, out)) in
      rw apart (is_absent (m + 1) fs both.1 (λ low high. out (omega arith) (omega arith)))

pub said_back : (n at : ℕ) (xs : List FactRecord) → map fact_in (map said (counted_from (fact_row n) at xs)) ≡ xs
said_back n at [] = refl
said_back n at (x ∷ xs) = ap₂ (λ y ys. y ∷ ys) (same x.value x.decimals) (said_back n (at + 1) xs)
  where
    back : (value : Option (List ℕ)) (decimals : Option ℤ) → maybe_bytes_in (or_null Blob value) ≡ value
    back None decimals = refl
    back (Some b) decimals = refl

    again : (decimals : Option ℤ) → integer_in (or_null Int decimals) ≡ decimals
    again None = refl
    again (Some i) = refl

    same : (value : Option (List ℕ)) (decimals : Option ℤ)
        → fact_in
        (said (fact_row n at (record {
          id = x.id;
          concept = x.concept;
          dimensions = x.dimensions;
          value =
              value;
          decimals = decimals;
        }))) ≡ record {
          id = x.id;
          concept = x.concept;
          dimensions =
              x.dimensions;
          value = value;
          decimals = decimals;
        }
    same value decimals =
        ap₂ (λ v d. record { id = x.id; concept = x.concept; dimensions = x.dimensions; value = v; decimals = d })
        (back value decimals) (again decimals)

module _ {old_style : ℕ} (F : List Request) (old new : State) (rows : List Row)
    (was : HasCommitted (IsRegisterOf old_style F) old) (n : ℕ) where
  its_table : filter (has_number n) (joined_from fact_rows 1 (kept F))
      ≡ counted_from (fact_row n) 1 (unwrap_or (facts_numbered n (register F)) [])
  its_table = ap (filter (has_number n)) (table_is 1 (kept F)) ∙ its_rows n 1 (register F) (register_numbered F)

  read_as : (show : Row → Row) → ReadsRows fact_table (has_number n) by_second show rows old new
      → rows ≡ map show (counted_from (fact_row n) 1 (unwrap_or (facts_numbered n (register F)) []))
  read_as show r =
      r.ordered (joined_from fact_rows 1 (kept F)) (was.now r.same.0.was_open).rows.rows.fact_is
      (subst (RisesBy by_second) (sym its_table) (counted_rise (fact_row n) by_second (λ _ _. refl) 1
      (unwrap_or (facts_numbered n (register F)) []))) ∙ ap (map show) its_table

  -- the rows of a filing say its facts
  pub facts_read : ReadsRows fact_table (has_number n) by_second said rows old new
      → map fact_in rows ≡ unwrap_or (facts_numbered n (register F)) []
  facts_read r = ap (map fact_in) (read_as said r) ∙ said_back n 1 (unwrap_or (facts_numbered n (register F)) [])

-- a list that was read is that of the number, where there is one
pub some_list : {X Y : Type 0} (f : X → Y) (o : Option X) (y : Y) (d : Y) → IsSome o → y ≡ unwrap_or (option_map f o) d
    → Some y ≡ option_map f o
some_list f None y d some is = absurd cc
some_list f (Some x) y d some is = ap Some is
