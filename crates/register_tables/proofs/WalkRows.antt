-- The rows of kept requests that pass a test of a walk.
use Rattle.std.proofs.Common.{◌≡◌, ◌⊎◌, inl, inr, ◌<◌, ◌≤◌, ℕ, ◌+◌, suc, pos, true, false, List, [], ◌∷◌, ◌++◌, map}
use Rattle.std.proofs.Common.{filter}
use Rattle.std.proofs.Common.{length, Option, refl, ap, ap₂, subst, ◌∙◌, nat_eq, arith}
use Rattle.std.specs.Prelude.{bytes_eq}
use Rattle.std.specs.List.{AllByRecursion, range_with_len}
use Rattle.std.proofs.lemmas.Bool.Decides.{nat_tests}
use Rattle.std.proofs.lemmas.List.Elements.{filter-append}
use Rattle.sqlite.specs.declared.types.Value.TheVariants.{Int}
use Rattle.sqlite.specs.Order.{Row}
use Rattle.xbrl_report.specs.FactRecord.{FactRecord}
use Rattle.xbrl_report.specs.Pair.{Pair}
use Rattle.xbrl_report.specs.ReportParts.{facts}
use Rattle.filing_model.specs.Request.{Request, same_key}
use Rattle.filing_model.specs.Register.{Kept, kept, Outcome, Filing, filings, register}
use Rattle.filing_model.specs.Register.Outcome.{Registered, Refused}
use Rattle.filing_model.specs.Views.{the_request}
use Rattle.filing_model.proofs.Keeping.{register_numbered}
use Rattle.table_rows.specs.Picking.{has_number}
use Rattle.table_rows.specs.Rows.{counted_from}
use Rattle.table_rows.proofs.OrderLemmas.{same_text, same_number, and_true, lower_apart}
use Rattle.register_rows.specs.Register.{kept_row, finding_row, finding_rows, findings_of, joined_from, filing_rows}
use Rattle.register_rows.specs.Register.{filing_rows_by, fact_row, fact_rows, fact_rows_by}
use Rattle.register_tables.specs.Reads.{has_second, has_texts}

-- ---- the row of a filer and key

module _ (filer key : List ℕ) (target : Option ℕ) (body : List ℕ) where
  abbrev r : Request
  r = the_request filer key target body

  pub has_its : (at : ℕ) (k : Kept) → has_texts filer key (kept_row at k) ≡ same_key k.request r
  has_its at k =
      rw (same_text k.request.filer filer, same_text k.request.key key, and_true (bytes_eq k.request.key key)) refl

-- ---- rows of requests before

pub kept_number : (n at : ℕ) (k : Kept) → has_number n (kept_row at k) ≡ nat_eq at n
kept_number n at k = and_true _ ∙ same_number at n

filing_place : (n m at : ℕ) → has_second n (Int (pos m) ∷ Int (pos at) ∷ []) ≡ nat_eq at n
filing_place n m at = and_true _ ∙ same_number at n

pub higher_apart : (n m : ℕ) → n < m → nat_eq m n ≡ false
higher_apart n m low = grind (arith, nat_tests, low)

pub itself : (n : ℕ) → nat_eq n n ≡ true
itself n = grind (arith, nat_tests)

pub no_kept : (n at : ℕ) (ks : List Kept) → at + length ks ≤ n → filter (has_number n) (counted_from kept_row at ks)
    ≡ []
no_kept n at [] low = refl
no_kept n at (k ∷ ks) low =
    rw (kept_number n at k ∙ lower_apart n at (omega (arith, low))) (no_kept n (at + 1) ks (omega (arith, low)))

-- rows that are counted under one number all have another, or have this one
module _ {X : Type 0} (n m : ℕ) (made : ℕ → X → Row) (is : (i : ℕ) (x : X) → has_number n (made i x)
    ≡ nat_eq m n) where
  none_counted : nat_eq m n ≡ false → (at : ℕ) (xs : List X) → filter (has_number n) (counted_from made at xs) ≡ []
  none_counted other at [] = refl
  none_counted other at (x ∷ xs) = rw (is at x ∙ other) (none_counted other (at + 1) xs)

  all_counted : nat_eq m n ≡ true → (at : ℕ) (xs : List X) → filter (has_number n) (counted_from made at xs)
      ≡ counted_from made at xs
  all_counted same at [] = refl
  all_counted same at (x ∷ xs) = rw (is at x ∙ same) (ap (λ l. made at x ∷ l) (all_counted same (at + 1) xs))

-- ---- findings, by place

finding_place : (n at i : ℕ) (f : Pair) → has_number n (finding_row at i f) ≡ nat_eq at n
finding_place n at i f = and_true _ ∙ same_number at n

pub no_finding : (n at : ℕ) (ks : List Kept) → at + length ks ≤ n
    → filter (has_number n) (joined_from finding_rows at ks) ≡ []
no_finding n at [] low = refl
no_finding n at (k ∷ ks) low =
    filter-append (has_number n) (finding_rows at k) (joined_from finding_rows (at + 1) ks)
    ∙ ap₂ ◌++◌ (none_counted n at (finding_row at) (finding_place n at) (lower_apart n at (omega (arith, low))) 1
    (findings_of k.outcome)) (no_finding n (at + 1) ks (omega (arith, low)))

pub no_later_finding : (n at : ℕ) (ks : List Kept) → n < at
    → filter (has_number n) (joined_from finding_rows at ks) ≡ []
no_later_finding n at [] low = refl
no_later_finding n at (k ∷ ks) low =
    filter-append (has_number n) (finding_rows at k) (joined_from finding_rows (at + 1) ks)
    ∙ ap₂ ◌++◌ (none_counted n at (finding_row at) (finding_place n at) (higher_apart n at low) 1
    (findings_of k.outcome)) (no_later_finding n (at + 1) ks (omega (arith, low)))

pub own_findings : (n : ℕ) (k : Kept) → filter (has_number n) (finding_rows n k) ≡ finding_rows n k
own_findings n k = all_counted n n (finding_row n) (finding_place n n) (itself n) 1 (findings_of k.outcome)

-- ---- filings, by place

no_filing_of : (n at : ℕ) → nat_eq at n ≡ false → (o : Outcome) → filter (has_second n) (filing_rows_by at o) ≡ []
no_filing_of n at other (Registered m) = rw (filing_place n m at ∙ other) refl
no_filing_of n at other (Refused found) = refl

pub no_filing : (n at : ℕ) (ks : List Kept) → at + length ks ≤ n
    → filter (has_second n) (joined_from filing_rows at ks) ≡ []
no_filing n at [] low = refl
no_filing n at (k ∷ ks) low =
    filter-append (has_second n) (filing_rows at k) (joined_from filing_rows (at + 1) ks)
    ∙ ap₂ ◌++◌ (no_filing_of n at (lower_apart n at (omega (arith, low))) k.outcome)
    (no_filing n (at + 1) ks (omega (arith, low)))

pub no_later_filing : (n at : ℕ) (ks : List Kept) → n < at
    → filter (has_second n) (joined_from filing_rows at ks) ≡ []
no_later_filing n at [] low = refl
no_later_filing n at (k ∷ ks) low =
    filter-append (has_second n) (filing_rows at k) (joined_from filing_rows (at + 1) ks)
    ∙ ap₂ ◌++◌ (no_filing_of n at (higher_apart n at low) k.outcome)
    (no_later_filing n (at + 1) ks (omega (arith, low)))

pub own_filing : (n : ℕ) (k : Kept) → filter (has_second n) (filing_rows n k) ≡ filing_rows n k
own_filing n k = go k.outcome
  where
    go : (o : Outcome) → filter (has_second n) (filing_rows_by n o) ≡ filing_rows_by n o
    go (Registered m) = rw (filing_place n m n ∙ itself n) refl
    go (Refused found) = refl

-- ---- facts, by number

fact_number : (n m i : ℕ) (f : FactRecord) → has_number n (fact_row m i f) ≡ nat_eq m n
fact_number n m i f = and_true _ ∙ same_number m n

-- the number, if it is a filing, is another
abbrev pub IsApart : ℕ → Outcome → Type 0
IsApart n (Registered m) = nat_eq m n ≡ false
IsApart n (Refused found) = Unit {0}

pub no_fact : (n at : ℕ) (ks : List Kept) → AllByRecursion (λ k. IsApart n k.outcome) ks
    → filter (has_number n) (joined_from fact_rows at ks) ≡ []
no_fact n at [] apart = refl
no_fact n at (k ∷ ks) apart =
    filter-append (has_number n) (fact_rows at k) (joined_from fact_rows (at + 1) ks)
    ∙ ap₂ ◌++◌ (one (facts k.request.body) k.outcome apart.0) (no_fact n (at + 1) ks apart.1)
  where
    one : (all : List FactRecord) (o : Outcome) → IsApart n o → filter (has_number n) (fact_rows_by all o) ≡ []
    one all (Registered m) other = none_counted n m (fact_row m) (fact_number n m) other 1 all
    one all (Refused found) other = refl

pub own_facts : (n : ℕ) (all : List FactRecord) → filter (has_number n) (counted_from (fact_row n) 1 all)
    ≡ counted_from (fact_row n) 1 all
own_facts n all = all_counted n n (fact_row n) (fact_number n n) (itself n) 1 all

abbrev Counted : ℕ → List Filing → Type 0
Counted m fs = map (λ (f : Filing). f.number) fs ≡ range_with_len m (length fs)

-- numbers that are counted up to this one are others, and so are those that are counted from behind it
numbers_apart : (m n : ℕ) (ks : List Kept) → Counted m (filings ks) → (m + length (filings ks) ≤ n) ⊎ (n < m)
    → AllByRecursion (λ (k : Kept). IsApart n k.outcome) ks
unfolding filings
numbers_apart m n [] counted low = tt
numbers_apart m n (k ∷ ks) counted low = go k.outcome (numbers_apart (m + 1) n ks) (numbers_apart m n ks) counted low
  where
    go : (o : Outcome) → (Counted (m + 1) (filings ks) → ((m + 1) + length (filings ks) ≤ n) ⊎ (n < m + 1)
        → AllByRecursion (λ (k : Kept). IsApart n k.outcome) ks)
        → (Counted m (filings ks) → (m + length (filings ks) ≤ n) ⊎ (n < m)
        → AllByRecursion (λ (k : Kept). IsApart n k.outcome) ks)
        → Counted m (filings (record { request = k.request; outcome = o } ∷ ks))
        → (m + length (filings (record { request = k.request; outcome = o } ∷ ks)) ≤ n) ⊎ (n < m)
        → IsApart n o × AllByRecursion (λ (k : Kept). IsApart n k.outcome) ks
    go (Registered number) more same c (inl l) =
        let first : number ≡ m = cc in
        let rest : Counted (m + 1) (filings ks) = cc in
        (lower_apart n number (omega (arith, first, l)), more rest (inl (omega (arith, l))))
    go (Registered number) more same c (inr l) =
        let first : number ≡ m = cc in
        let rest : Counted (m + 1) (filings ks) = cc in
        (higher_apart n number (omega (arith, first, l)), more rest (inr (omega (arith, l))))
    go (Refused found) more same c l = (tt, same c l)

pub all_apart : (F : List Request)
    → AllByRecursion (λ (k : Kept). IsApart (suc (length (register F))) k.outcome) (kept F)
all_apart F = numbers_apart 1 (suc (length (register F))) (kept F) (register_numbered F) (inl (omega arith))

-- the numbers behind the first ones
counted_behind : (m : ℕ) (front ks : List Kept) → Counted m (filings (front ++ ks))
    → Counted (m + length (filings front)) (filings ks)
unfolding filings
counted_behind m [] ks counted = subst (λ n. Counted n (filings ks)) (omega arith) counted
counted_behind m (k ∷ front) ks counted = go k.outcome (counted_behind (m + 1) front ks)
    (counted_behind m front ks) counted
  where
    go : (o : Outcome) → (Counted (m + 1) (filings (front ++ ks))
        → Counted ((m + 1) + length (filings front)) (filings ks))
        → (Counted m (filings (front ++ ks)) → Counted (m + length (filings front)) (filings ks))
        → Counted m (filings (record { request = k.request; outcome = o } ∷ (front ++ ks)))
        → Counted (m + length (filings (record { request = k.request; outcome = o } ∷ front))) (filings ks)
    go (Registered number) more same c =
        let rest : Counted (m + 1) (filings (front ++ ks)) = cc in
        subst (λ n. Counted n (filings ks)) (omega arith) (more rest)
    go (Refused found) more same c = same c

-- behind a registered request the numbers are higher
pub later_apart : (F G : List Request) (k : Kept) (ks : List Kept) (n : ℕ) → kept G ≡ kept F ++ k ∷ ks
    → k.outcome ≡ Registered n → n ≡ suc (length (register F))
    → AllByRecursion (λ (x : Kept). IsApart n x.outcome) ks
unfolding filings
later_apart F G k ks n are is next =
    let behind : Counted (1 + length (register F)) (filings (k ∷ ks)) =
    counted_behind 1 (kept F) (k ∷ ks) (subst (λ l. Counted 1 (filings l)) are (register_numbered G)) in
    numbers_apart (1 + length (register F) + 1) n ks (go k.outcome is behind) (inr (omega (arith, next)))
  where
    go : (o : Outcome) → o ≡ Registered n → Counted (1 + length (register F)) (filings (k ∷ ks))
        → Counted (1 + length (register F) + 1) (filings ks)
    go (Registered m) same c = cc
    go (Refused found) same c = absurd cc
