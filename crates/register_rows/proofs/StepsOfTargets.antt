-- The rows of `amends` beside those of kept requests, one request after another.
use Rattle.std.proofs.Common.{◌≡◌, ◌<◌, ℕ, ◌+◌, zero, suc, pos, true, false, List, [], ◌∷◌, ◌++◌, ◌≤◌, map, take}
use Rattle.std.proofs.Common.{drop, get_or, length, Option, None, Some, int_eq, refl, sym, ap, ap₂, ◌∙◌, arith}
use Rattle.std.proofs.lemmas.Int.{ints}
use Rattle.std.proofs.lemmas.List.{map-append}
use Rattle.sqlite.specs.declared.types.Value.TheVariants.{Int}
use Rattle.sqlite.specs.Order.{Row}
use Rattle.filing_model.specs.Request.{Request, firsts}
use Rattle.filing_model.specs.Register.{Kept, kept}
use Rattle.filing_model.proofs.Keeping.{requests_of_kept}
use Rattle.table_rows.specs.Rows.{counted_from}
use Rattle.register_rows.specs.Columns.{begins_with, request_in}
use Rattle.register_rows.specs.Register.{kept_row, amends_rows, amends_rows_by, joined_from}

pub other : (n m : ℕ) → n < m → int_eq (pos m) (pos n) ≡ false
other n m low = grind (arith, ints)

-- the rows of later requests are none of an earlier one's
pub no_amends : (n m : ℕ) (ks : List Kept) → n < m → begins_with 0 n (joined_from amends_rows m ks) ≡ false
no_amends n m [] low = refl
no_amends n m (k ∷ ks) low = go k.request.target (no_amends n (m + 1) ks (omega arith))
  where
    go : (t : Option ℕ) → begins_with 0 n (joined_from amends_rows (m + 1) ks) ≡ false
        → begins_with 0 n (amends_rows_by m t ++ joined_from amends_rows (m + 1) ks) ≡ false
    go None later = later
    go (Some target) later = other n m low

own : (n : ℕ) → int_eq (pos n) (pos n) ≡ true
own n = grind (arith, ints)

-- rows say one target alone, where none behind is of this place
pub only_target : (n : ℕ) (s t : Option ℕ) (l m : List Row) → begins_with 0 n l ≡ false → begins_with 0 n m ≡ false
    → amends_rows_by n s ++ l ≡ amends_rows_by n t ++ m → (s ≡ t) × (l ≡ m)
only_target n None None l m p q is = (refl, is)
only_target n None (Some b) l m p q is =
    absurd (let both : false ≡ true = sym p ∙ ap (begins_with 0 n) is ∙ own n in cc)
only_target n (Some a) None l m p q is =
    absurd (let both : false ≡ true = sym q ∙ sym (ap (begins_with 0 n) is) ∙ own n in cc)
only_target n (Some a) (Some b) l m p q is =
    let row : Int (pos n) ∷ Int (pos a) ∷ [] ≡ Int (pos n) ∷ Int (pos b) ∷ [] = cc in
    let same : a ≡ b = cc in
    (ap Some same, cc)

-- kept rows with those of `amends` say one list of requests alone
requests_alike : (m : ℕ) (ks ls : List Kept) → counted_from kept_row m ks ≡ counted_from kept_row m ls
    → joined_from amends_rows m ks ≡ joined_from amends_rows m ls
    → map (λ (k : Kept). k.request) ks ≡ map (λ (k : Kept). k.request) ls
requests_alike m [] [] rows amends = refl
requests_alike m [] (l ∷ ls) rows amends = absurd cc
requests_alike m (k ∷ ks) [] rows amends = absurd cc
requests_alike m (k ∷ ks) (l ∷ ls) rows amends =
    let first : kept_row m k ≡ kept_row m l = cc in
    let later : counted_from kept_row (m + 1) ks ≡ counted_from kept_row (m + 1) ls = cc in
    let target =
    only_target m k.request.target l.request.target (joined_from amends_rows (m + 1) ks)
    (joined_from amends_rows (m + 1) ls)
    (no_amends m (m + 1) ks (omega arith)) (no_amends m (m + 1) ls (omega arith)) amends in
    ap₂ (λ (r : Request) rs. r ∷ rs) (ap₂ request_in target.0 first) (requests_alike (m + 1) ks ls later target.1)

pub same_requests : (F G : List Request) → firsts F ≡ F → firsts G ≡ G
    → counted_from kept_row 1 (kept F) ≡ counted_from kept_row 1 (kept G)
    → joined_from amends_rows 1 (kept F) ≡ joined_from amends_rows 1 (kept G) → F ≡ G
same_requests F G once_f once_g rows amends =
    sym (requests_of_kept F ∙ once_f) ∙ requests_alike 1 (kept F) (kept G) rows amends ∙ requests_of_kept G ∙ once_g

-- what is read of the request at this place, whose row is this
pub record IsStep (ks : List Kept) (at place : ℕ) (row : Row) (target : Option ℕ) (tail : List Row) : Type 0 where
  pub k : Kept
  pub taken : take (suc at) ks ≡ take at ks ++ k ∷ []
  pub row_is : row ≡ kept_row place k
  pub target_is : k.request.target ≡ target
  pub tail_is : tail ≡ joined_from amends_rows (place + 1) (drop (suc at) ks)

-- the target and the rest are the only ones that the rows say
abbrev pub IsOnlyTarget : ℕ → List Row → Option ℕ → List Row → Type 0
IsOnlyTarget place rest target tail = (t : Option ℕ) (l : List Row) → rest ≡ amends_rows_by place t ++ l
    → begins_with 0 place l ≡ false → (t ≡ target) × (l ≡ tail)

pub step : (m : ℕ) (ks : List Kept) (at place : ℕ) (row : Row) (rest tail : List Row) (target : Option ℕ)
    → place ≡ m + at
    → at < length (counted_from kept_row m ks) → row ≡ get_or (counted_from kept_row m ks) at row
    → rest ≡ joined_from amends_rows place (drop at ks) → IsOnlyTarget place rest target tail
    → IsStep ks at place row target tail
step m [] at place row rest tail target here low is front only = absurd (omega arith)
step m (k ∷ ks) zero place row rest tail target here low is front only =
    let told =
    only k.request.target (joined_from amends_rows (place + 1) ks) front
    (no_amends place (place + 1) ks (omega arith)) in
    let same : m ≡ place = omega (arith, here) in
    record { k = k; taken = refl; row_is = is ∙ ap (λ n. kept_row n k) same; target_is = told.0; tail_is = sym told.1 }
step m (x ∷ ks) (suc at) place row rest tail target here low is front only =
    let next = step (m + 1) ks at place row rest tail target (omega (arith, here)) (omega arith) is front only in
    record {
      k = next.k;
      taken = ap (λ l. x ∷ l) next.taken;
      row_is = next.row_is;
      target_is = next.target_is;
      tail_is =
          next.tail_is;
    }

-- one request more is read
pub requests_step : (ks : List Kept) (at place : ℕ) (row : Row) (target : Option ℕ) (tail : List Row)
    (items more : List Request) (r : Request)
    → IsStep ks at place row target tail
    → items ≡ map (λ (k : Kept). k.request) (take at ks) → r ≡ request_in target row → more ≡ items ++ r ∷ []
    → more ≡ map (λ (k : Kept). k.request) (take (at + 1) ks)
requests_step ks at place row target tail items more r s had is pushed =
    let asked : request_in target row ≡ s.k.request =
    ap (request_in target) s.row_is ∙ ap (λ t. record s.k.request { target = t }) (sym s.target_is) in
    let next : suc at ≡ at + 1 = omega arith in
    pushed ∙ ap₂ (λ l x. l ++ x ∷ []) had (is ∙ asked)
    ∙ sym (map-append (λ (k : Kept). k.request) (take at ks) (s.k ∷ []))
    ∙ ap (map (λ (k : Kept). k.request)) (sym s.taken ∙ ap (λ n. take n ks) next)

-- all of them are read
pub all_taken : (m : ℕ) (ks : List Kept) (n : ℕ) → length (counted_from kept_row m ks) ≤ n → take n ks ≡ ks
all_taken m [] zero low = refl
all_taken m [] (suc n) low = refl
all_taken m (k ∷ ks) zero low = absurd (omega arith)
all_taken m (k ∷ ks) (suc n) low = ap (λ l. k ∷ l) (all_taken (m + 1) ks n (omega arith))
