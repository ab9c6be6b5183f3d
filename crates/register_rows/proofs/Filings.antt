-- Filings that count from 1, and one more.
use Rattle.std.proofs.Common.{◌≡◌, ℕ, ◌<◌, ◌≤◌, ◌+◌, ◌≢◌, ◌⊎◌, Bool, true, false, not, List, [], ◌∷◌, ◌++◌, length, map}
use Rattle.std.proofs.Common.{suc, zero, inl, inr, Option, Some, None, refl, sym, ap, ◌∙◌, ⊎_elim, length-append, arith}
use Rattle.std.specs.Prelude.{find, option_map, nat_eq, nat_lt, nat_le, bytes_eq, ◌&&◌, ◌||◌, get_or, set, is_none}
use Rattle.std.specs.Prelude.{is_some}
use Rattle.std.specs.Option.{option_or}
use Rattle.std.specs.List.{list_any, range_with_len, AllByRecursion}
use Rattle.std.proofs.Math.Bool.{and-false}
use Rattle.std.proofs.lemmas.Bool.{cases_Bool, and_parts, not-true}
use Rattle.std.proofs.lemmas.Bool.Decides.{nat_tests}
use Rattle.std.proofs.lemmas.List.{get_or-map, map-append}
use Rattle.std.proofs.lemmas.List.Folds.{find-append}
use Rattle.std.proofs.lemmas.List.FromFn.{get_or-range_with_len}
use Rattle.filing_model.proofs.Lists.{find_none}
use Rattle.xbrl_report.specs.ReportParts.{fact_count}
use Rattle.filing_model.specs.Listing.{replacing}
use Rattle.filing_model.specs.Request.{Request, same_target}
use Rattle.filing_model.specs.Register.{Filing, is_amendment_of, is_filing_of, is_replaceable, is_free}
use Rattle.register_rows.specs.Columns.{request_in}
use Rattle.register_rows.specs.Catalogue.{Entry, Placed, entry_of}

-- the filing that the request is after these
abbrev pub next_filing : List Filing → Request → Filing
next_filing filings r = record { number = suc (length filings); request = r }

-- these filings count on from this number
abbrev pub CountFrom : ℕ → List Filing → Type 0
CountFrom start fs = map (λ f. f.number) fs ≡ range_with_len start (length fs)

-- the number is not that of any of them
abbrev pub IsOutside : ℕ → ℕ → ℕ → Type 0
IsOutside n start many = (n < start) ⊎ (start + many ≤ n)

-- the filings at these places
abbrev pub placed_filings : List Placed → List Filing
placed_filings ps = map (λ (p : Placed). p.filing) ps

pub first_counts : (start : ℕ) (f : Filing) (fs : List Filing) → CountFrom start (f ∷ fs)
    → (f.number ≡ start) × CountFrom (start + 1) fs
first_counts start f fs h = (cc h, cc h)

not_number : (start n m : ℕ) (fs : List Filing) → IsOutside n start (suc m) → (start ≢ n) × IsOutside n (start + 1) m
not_number start n m fs (inl below) = (λ e. omega (arith, e, below), inl (omega (arith, below)))
not_number start n m fs (inr above) = (λ e. omega (arith, e, above), inr (omega (arith, above)))

pub other_number : (m n : ℕ) → m ≢ n → nat_eq m n ≡ false
other_number m n other =
    ⊎_elim (λ (t : nat_eq m n ≡ true). absurd (other (grind (arith, nat_tests, t)))) (λ f. f) (cases_Bool (nat_eq m n))

pub own_number : (m n : ℕ) → m ≡ n → nat_eq m n ≡ true
own_number m n e = grind (arith, nat_tests, e)

module _ (filer : List ℕ) where
  pub none_outside : (n start : ℕ) (fs : List Filing) → CountFrom start fs → IsOutside n start (length fs)
      → list_any (is_filing_of filer n) fs ≡ false
  none_outside n start [] counts outside = refl
  none_outside n start (f ∷ fs) counts outside =
      let first = first_counts start f fs counts in
      let other = not_number start n (length fs) fs outside in
      rw (first.0, other_number start n other.0, and-false (bytes_eq f.request.filer filer))
      (none_outside n (start + 1) fs first.1 other.1)

  pub one_there : (n start at : ℕ) (fs : List Filing) (none : Filing) → CountFrom start fs → at < length fs
      → n ≡ start + at
      → list_any (is_filing_of filer n) fs ≡ bytes_eq (get_or fs at none).request.filer filer
  one_there n start at [] none counts within is = absurd (omega (arith, within))
  one_there n start zero (f ∷ fs) none counts within is =
      let first = first_counts start f fs counts in
      let rest = none_outside n (start + 1) fs first.1 (inl (omega (arith, is))) in
      rw (own_number f.number n (omega (arith, first.0, is)), rest) (only_first (bytes_eq f.request.filer filer))
    where
      only_first : (b : Bool) → ((b && true) || false) ≡ b
      only_first true = refl
      only_first false = refl
  one_there n start (suc at) (f ∷ fs) none counts within is =
      let first = first_counts start f fs counts in
      rw (
        first.0,
        other_number start n (λ e. omega (arith, e, is)),
        and-false (bytes_eq f.request.filer filer),
      ) (one_there n (start + 1) at fs none first.1
      (omega (arith, within)) (omega (arith, is)))

module _ (fs : List Filing) where
  pub unreplaced : (n : ℕ) → list_any (is_amendment_of n) fs ≡ false → replacing fs n ≡ None
  unreplaced n none = ap (option_map (λ (f : Filing). f.number)) (find_none (is_amendment_of n) fs none)

  -- a filing is replaced exactly where one of these replaces it
  pub is_unreplaced : (n : ℕ) → is_none (replacing fs n) ≡ not (list_any (is_amendment_of n) fs)
  is_unreplaced n = by_any fs
    where
      by_any : (gs : List Filing) → is_none (replacing gs n) ≡ not (list_any (is_amendment_of n) gs)
      by_any [] = refl
      by_any (g ∷ gs) =
          ⊎_elim (λ (t : is_amendment_of n g ≡ true). rw t refl) (λ (t : is_amendment_of n g ≡ false). rw t (by_any gs))
          (cases_Bool (is_amendment_of n g))

-- a filing more
module _ (fs : List Filing) (f : Filing) where
  found_in_more : (n : ℕ) → replacing (fs ++ f ∷ []) n
      ≡ option_map (λ (g : Filing). g.number) (option_or (find (is_amendment_of n) fs)
      (find (is_amendment_of n) (f ∷ [])))
  found_in_more n = ap (option_map (λ (g : Filing). g.number)) (find-append (is_amendment_of n) fs (f ∷ []))

  or_none : (found : Option Filing) → option_or found None ≡ found
  or_none None = refl
  or_none (Some g) = refl

  pub replaced_as_before : (n : ℕ) → same_target f.request.target (Some n) ≡ false
      → replacing (fs ++ f ∷ []) n ≡ replacing fs n
  replaced_as_before n other =
      found_in_more n ∙ rw other (ap (option_map (λ (g : Filing). g.number)) (or_none (find (is_amendment_of n) fs)))

  pub now_replaced : (n : ℕ) → list_any (is_amendment_of n) fs ≡ false → same_target f.request.target (Some n) ≡ true
      → replacing (fs ++ f ∷ []) n ≡ Some f.number
  now_replaced n none same = found_in_more n ∙ rw (find_none (is_amendment_of n) fs none, same) refl

  pub still_replaced : (n : ℕ) → is_some (replacing fs n) ≡ true → replacing (fs ++ f ∷ []) n ≡ replacing fs n
  still_replaced n some = found_in_more n ∙ by_found (find (is_amendment_of n) fs) some
    where
      by_found : (found : Option Filing) → is_some (option_map (λ (g : Filing). g.number) found) ≡ true
          → option_map (λ (g : Filing). g.number) (option_or found (find (is_amendment_of n) (f ∷ [])))
          ≡ option_map (λ (g : Filing). g.number) found
      by_found None e = absurd (cc e)
      by_found (Some g) e = refl

  pub first_replaced : (n : ℕ) → is_some (replacing fs n) ≡ false → same_target f.request.target (Some n) ≡ true
      → replacing (fs ++ f ∷ []) n ≡ Some f.number
  first_replaced n none same = found_in_more n ∙ rw same (by_found (find (is_amendment_of n) fs) none)
    where
      by_found : (found : Option Filing) → is_some (option_map (λ (g : Filing). g.number) found) ≡ false
          → option_map (λ (g : Filing). g.number) (option_or found (Some f)) ≡ Some f.number
      by_found None e = refl
      by_found (Some g) e = absurd (cc e)

  line_as_before : (p : Placed) → same_target f.request.target (Some p.filing.number) ≡ false
      → entry_of (fs ++ f ∷ []) p ≡ entry_of fs p
  line_as_before p other =
      ap (λ (by : Option ℕ). record {
        seq = p.seq;
        facts = fact_count p.filing.request.body;
        replaces =
            p.filing.request.target;
        replaced_by = by;
      }) (replaced_as_before p.filing.number other)

  -- which replaces none
  pub lines_as_before : f.request.target ≡ None → (ps : List Placed)
      → map (entry_of (fs ++ f ∷ [])) ps ≡ map (entry_of fs) ps
  lines_as_before none [] = refl
  lines_as_before none (p ∷ ps) = rw (line_as_before p (rw none refl), lines_as_before none ps) refl

  -- which replaces one that is not among these
  lines_outside : (t start : ℕ) → f.request.target ≡ Some t → (ps : List Placed) → CountFrom start (placed_filings ps)
      → IsOutside t start (length ps) → map (entry_of (fs ++ f ∷ [])) ps ≡ map (entry_of fs) ps
  lines_outside t start is [] counts outside = refl
  lines_outside t start is (p ∷ ps) counts outside =
      let first = first_counts start p.filing (placed_filings ps) counts in
      let other = not_number start t (length ps) (placed_filings ps) outside in
      rw (
        line_as_before p (rw is (other_number t p.filing.number (λ e. other.0 (omega (arith, e, first.0))))),
        lines_outside t (start + 1) is ps first.1 other.1,
      ) refl

  -- which replaces one of these
  pub line_replaced : (t start at : ℕ) → f.request.target ≡ Some t → list_any (is_amendment_of t) fs ≡ false
      → (ps : List Placed) (line : Entry) → CountFrom start (placed_filings ps) → at < length ps
      → t ≡ start + at → line ≡ get_or (map (entry_of fs) ps) at line
      → map (entry_of (fs ++ f ∷ [])) ps ≡ set (map (entry_of fs) ps)
      at (record { seq = line.seq; facts = line.facts; replaces = line.replaces; replaced_by = Some f.number })
  line_replaced t start at is none [] line counts within place from = absurd (omega (arith, within))
  line_replaced t start zero is none (p ∷ ps) line counts within place from =
      let first = first_counts start p.filing (placed_filings ps) counts in
      let number : p.filing.number ≡ t = omega (arith, first.0, place) in
      rw (
        lines_outside t (start + 1) is ps first.1 (inl (omega (arith, place))),
        from,
        now_replaced p.filing.number (ap (λ n. list_any (is_amendment_of n) fs) number
            ∙ none) (rw is (own_number t p.filing.number (sym number))),
      ) refl
  line_replaced t start (suc at) is none (p ∷ ps) line counts within place from =
      let first = first_counts start p.filing (placed_filings ps) counts in
      rw (
        line_as_before p (rw is (other_number t p.filing.number (λ e. omega (arith, e, first.0, place)))),
        line_replaced t (start + 1) at is none ps line first.1 (omega (arith, within)) (omega (arith, place)) from,
      )
      refl

-- no filing has such a number
pub none_there : (fs : List Filing) (filer : List ℕ) (n : ℕ) → CountFrom 1 fs → IsOutside n 1 (length fs)
    → is_replaceable fs filer n ≡ false
none_there fs filer n counts outside = let none = none_outside filer n 1 fs counts outside in rw none refl

pub no_filing : Filing
no_filing = record { number = 0; request = request_in None [] }

module _ (fs : List Filing) (numbered : CountFrom 1 fs) where
  pub number_there : (at : ℕ) (f : Filing) → at < length fs → f ≡ get_or fs at f → f.number ≡ at + 1
  number_there at f within its =
      let there : get_or (map (λ (g : Filing). g.number) fs) at 0 ≡ at + 1 =
      ap (λ ns. get_or ns at 0) numbered ∙ get_or-range_with_len 1 (length fs) at 0 within ∙ omega arith in
      ap (λ (g : Filing). g.number) its ∙ sym (get_or-map (λ (g : Filing). g.number) fs at f 0 within) ∙ there

  -- what may be replaced is one of these, and none of these replaces it
  pub free_within : (filer : List ℕ) (target : Option ℕ) (n : ℕ) → is_free fs filer target ≡ true → target ≡ Some n
      → (0 < n) × (n ≤ length fs)
  free_within filer None n free is = absurd (cc)
  free_within filer (Some m) n free is =
      let same : m ≡ n = cc is in
      let there : is_replaceable fs filer n ≡ true = ap (is_replaceable fs filer) (sym same) ∙ free in (
        ⊎_elim (λ (t : nat_lt 0 n ≡ true). let low : 0 < n = grind (arith, nat_tests, t) in low)
            (λ (t : nat_lt 0 n ≡ false). let e : true ≡ false =
            sym there ∙ none_there fs filer n numbered (inl (grind (arith, nat_tests, t))) in
            absurd (cc e)) (cases_Bool (nat_lt 0 n)),
        ⊎_elim (λ (t : nat_le n (length fs) ≡ true). let low : n ≤ length fs = grind (arith, nat_tests, t) in low)
            (λ (t : nat_le n (length fs) ≡ false).
            let above : length fs < n = grind (arith, nat_tests, t) in
            let e : true ≡ false = sym there ∙ none_there fs filer n numbered (inr (omega (arith, above))) in
            absurd (cc e)) (cases_Bool (nat_le n (length fs))),
      )

pub free_unreplaced : (fs : List Filing) (filer : List ℕ) (target : Option ℕ) (n : ℕ) → is_free fs filer target ≡ true
    → target ≡ Some n → list_any (is_amendment_of n) fs ≡ false
free_unreplaced fs filer None n free is = absurd (cc)
free_unreplaced fs filer (Some m) n free is =
    let same : m ≡ n = cc is in
    ap (λ k. list_any (is_amendment_of k) fs) (sym same)
    ∙ not-true (list_any (is_amendment_of m) fs) (and_parts _ _ free).1

-- ---- in the order of their numbers

-- the filing replaces none of a number above this one
abbrev pub Reaches : ℕ → Filing → Type 0
Reaches most f = (n : ℕ) → f.request.target ≡ Some n → n ≤ most

-- these count from 1, and each replaces one of them, if any
pub record AreInOrder (fs : List Filing) : Type 0 where
  pub numbered : CountFrom 1 fs
  pub reach : AllByRecursion (Reaches (length fs)) fs

-- none replaces the next one
pub next_unreplaced : (fs : List Filing) → AllByRecursion (Reaches (length fs)) fs
    → list_any (is_amendment_of (suc (length fs))) fs ≡ false
next_unreplaced fs reach = none_reaches fs reach
  where
    none_reaches : (gs : List Filing) → AllByRecursion (Reaches (length fs)) gs
        → list_any (is_amendment_of (suc (length fs))) gs ≡ false
    none_reaches [] all = refl
    none_reaches (g ∷ gs) all = rw (not_it g.request.target refl) (none_reaches gs all.1)
      where
        not_it : (t : Option ℕ) → g.request.target ≡ t → same_target t (Some (suc (length fs))) ≡ false
        not_it None is = refl
        not_it (Some n) is = let low = all.0 n is in other_number n (suc (length fs)) (λ e. omega (arith, e, low))

-- a filing more
module _ (fs : List Filing) (r : Request) (held : AreInOrder fs) (free : is_free fs r.filer r.target ≡ true) where
  range_more : (m n k : ℕ) → k ≡ m + n → range_with_len m (suc n) ≡ range_with_len m n ++ k ∷ []
  range_more m zero k is = ap (λ j. j ∷ []) (omega (arith, is))
  range_more m (suc n) k is = ap (λ ns. m ∷ ns) (range_more (m + 1) n k (omega (arith, is)))

  -- none replaces it
  pub last_unreplaced : replacing (fs ++ next_filing fs r ∷ []) (suc (length fs)) ≡ None
  last_unreplaced =
      replaced_as_before fs (next_filing fs r) (suc (length fs)) (own r.target refl)
      ∙ unreplaced fs (suc (length fs)) (next_unreplaced fs held.reach)
    where
      own : (t : Option ℕ) → r.target ≡ t → same_target t (Some (suc (length fs))) ≡ false
      own None is = refl
      own (Some n) is = let low = (free_within fs held.numbered r.filer r.target n free is).1 in
          other_number n (suc (length fs)) (λ e. omega (arith, e, low))

  pub in_order_more : AreInOrder (fs ++ next_filing fs r ∷ [])
  in_order_more =
      record { numbered = numbered_more; reach = rw (length-append fs (next_filing fs r ∷ [])) (grown fs held.reach) }
    where
      many : length (fs ++ next_filing fs r ∷ []) ≡ suc (length fs)
      many = length-append fs (next_filing fs r ∷ []) ∙ omega arith

      numbered_more : CountFrom 1 (fs ++ next_filing fs r ∷ [])
      numbered_more =
          map-append (λ (g : Filing). g.number) fs (next_filing fs r ∷ [])
          ∙ ap (λ ns. ns ++ suc (length fs) ∷ []) held.numbered
          ∙ sym (range_more 1 (length fs) (suc (length fs)) (omega arith)) ∙ ap (range_with_len 1) (sym many)

      grown : (gs : List Filing) → AllByRecursion (Reaches (length fs)) gs
          → AllByRecursion (Reaches (length fs + 1)) (gs ++ next_filing fs r ∷ [])
      grown [] all =
          (λ n is. let low = (free_within fs held.numbered r.filer r.target n free is).1 in omega (arith, low), tt)
      grown (g ∷ gs) all = (λ n is. let low = all.0 n is in omega (arith, low), grown gs all.1)

pub none_told : {X : Type 0} (o : Option X) (b : Bool) → is_some o ≡ not b → b ≡ is_none o
none_told None true e = refl
none_told None false e = absurd (cc)
none_told (Some x) true e = absurd (cc)
none_told (Some x) false e = refl
