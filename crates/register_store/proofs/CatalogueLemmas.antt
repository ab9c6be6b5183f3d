-- What the catalogue of a register says of its filings.
use Rattle.std.proofs.Common.{append-nil, Bool, true, false, ⊎_elim, ◌≡◌, ℕ, ◌+◌, ◌<◌, ◌≤◌, zero, suc, inl, inr, map}
use Rattle.std.proofs.Common.{List, [], ◌∷◌, ◌++◌, Option, Some, None, nat_eq, refl, sym, ap, ap₂, subst, ◌∙◌, arith}
use Rattle.std.specs.Prelude.{bytes_eq, ◌&&◌, ◌||◌, filter, get_or, length, MatchOption, option_map, slice_get, take}
use Rattle.std.specs.List.{list_any}
use Rattle.std.specs.Option.{option_to_list}
use Rattle.std.specs.Ordering.{nat_cmp}
use Rattle.std.specs.declared.cmp.Ordering.TheVariants.{Less, Equal, Greater}
use Rattle.std.proofs.lemmas.Bool.{cases_Bool}
use Rattle.std.proofs.lemmas.Bool.Decides.{nat_tests}
use Rattle.xbrl_report.specs.ReportParts.{fact_count}
use Rattle.std.proofs.Math.Bool.{and-false}
use Rattle.std.proofs.lemmas.List.{map-append, take_more}
use Rattle.filing_model.specs.Listing.{listing, listings, replacing}
use Rattle.filing_model.specs.Views.{view_row}
use Rattle.filing_model.specs.declared.listing.FilingRow.{FilingRow}
use Rattle.filing_model.specs.Request.{Request}
use Rattle.filing_model.specs.Register.{Filing, Outcome, Kept, filing_of, filings, is_filing_of, kept, register}
use Rattle.filing_model.specs.Register.Outcome.{Registered, Refused}
use Rattle.filing_model.proofs.Keeping.{register_numbered}
use Rattle.register_rows.specs.Register.{number_of}
use Rattle.register_rows.proofs.Filings.{CountFrom, first_counts, none_outside, other_number, own_number}
use Rattle.register_rows.specs.Catalogue.{Entry, catalogue_of, entry_numbered, entry_of, placed_by, placed_from}
use Rattle.register_store.specs.Found.{IsPlaced}
use Rattle.register_store.specs.Numbered.{filing_numbered}
use Rattle.register_store.proofs.FiledSteps.{filing_list, filings_step}
use Rattle.register_store.proofs.FindLemmas.{placed_from as placed_above}
use Rattle.register_store.proofs.ReplaceLemmas.{no_kept}

-- one kept request stands at a place
pub same_place : (at seq : ℕ) (ks : List Kept) (k l : Kept) → IsPlaced at seq ks k → IsPlaced at seq ks l → k ≡ l
same_place at seq [] k l h j = absurd h
same_place at seq (x ∷ ks) k l (inl h) (inl j) = h.1 ∙ sym j.1
same_place at seq (x ∷ ks) k l (inl h) (inr j) =
    absurd (let above = placed_above seq (at + 1) ks l j in omega (arith, above, h.0))
same_place at seq (x ∷ ks) k l (inr h) (inl j) =
    absurd (let above = placed_above seq (at + 1) ks k h in omega (arith, above, j.0))
same_place at seq (x ∷ ks) k l (inr h) (inr j) = same_place (at + 1) seq ks k l h j

module _ (fs : List Filing) where
  -- the line of the kept request at this place, which is registered under this number
  abbrev pub entry : ℕ → Kept → ℕ → Entry
  entry seq k n =
      record { seq = seq; facts = fact_count k.request.body; replaces = k.request.target; replaced_by = replacing fs n }

  pub record IsEntry (at n : ℕ) (ks : List Kept) (line : Entry) : Type 0 where
    pub k : Kept
    pub seq : ℕ
    pub placed : IsPlaced at seq ks k
    pub number_is : number_of k.outcome ≡ Some n
    pub is : line ≡ entry seq k n

  -- each line is that of a filing
  pub back : (m at i : ℕ) (ks : List Kept) (line : Entry) → CountFrom m (filings ks)
      → slice_get (map (entry_of fs) (placed_from at ks)) i ≡ Some line → IsEntry at (m + i) ks line
  unfolding filings
  back m at i [] line counts e = absurd (cc e)
  back m at i (x ∷ ks) line counts e =
      go x.outcome refl counts (λ m i counts e. later (m + i) (back m (at + 1) i ks line counts e)) e
    where
      later : (n : ℕ) → IsEntry (at + 1) n ks line → IsEntry at n (x ∷ ks) line
      later n its = record { k = its.k; seq = its.seq; placed = inr its.placed; number_is = its.number_is; is = its.is }

      go : (o : Outcome) → x.outcome ≡ o → CountFrom m (filings (record { request = x.request; outcome = o } ∷ ks))
          → ((m i : ℕ) → CountFrom m (filings ks) → slice_get (map (entry_of fs) (placed_from (at + 1) ks)) i
          ≡ Some line → IsEntry at (m + i) (x ∷ ks) line)
          → slice_get (map (entry_of fs) (placed_by at x.request o ++ placed_from (at + 1) ks)) i ≡ Some line
          → IsEntry at (m + i) (x ∷ ks) line
      go (Registered number) so counts rest e = by_index i e
        where
          first : (number ≡ m) × CountFrom (m + 1) (filings ks)
          first = first_counts m (record { number = number; request = x.request }) (filings ks) counts

          by_index : (i : ℕ)
              → slice_get (map (entry_of fs) (placed_by at x.request (Registered number) ++ placed_from (at + 1) ks)) i
              ≡ Some line → IsEntry at (m + i) (x ∷ ks) line
          by_index zero e =
              let its : line ≡ entry at x number = cc e in
              let n : number ≡ m + 0 = omega (arith, first.0) in
              record {
                k = x;
                seq = at;
                placed = inl (refl, refl);
                number_is = ap number_of so ∙ ap Some n;
                is =
                    its ∙ ap (entry at x) n;
              }
          by_index (suc i) e = subst (λ n. IsEntry at n (x ∷ ks) line) (omega arith) (rest (m + 1) i first.1 e)
      go (Refused findings) so counts rest e = rest m i counts e

  -- and each filing has one
  pub record IsListed (m at seq n : ℕ) (ks : List Kept) (k : Kept) : Type 0 where
    pub i : ℕ
    pub number_is : n ≡ m + i
    pub line_is : slice_get (map (entry_of fs) (placed_from at ks)) i ≡ Some (entry seq k n)

  pub there : (m at seq n : ℕ) (ks : List Kept) (k : Kept) → CountFrom m (filings ks) → IsPlaced at seq ks k
      → number_of k.outcome ≡ Some n → IsListed m at seq n ks k
  unfolding filings
  there m at seq n [] k counts placed is = absurd placed
  there m at seq n (x ∷ ks) k counts placed is =
      go x.outcome refl counts (λ m counts later. there m (at + 1) seq n ks k counts later is) placed
    where
      go : (o : Outcome) (so : x.outcome ≡ o) → CountFrom m (filings (record { request = x.request; outcome = o } ∷ ks))
          → ((m : ℕ) → CountFrom m (filings ks) → IsPlaced (at + 1) seq ks k → IsListed m (at + 1) seq n ks k)
          → IsPlaced at seq (x ∷ ks) k → IsListed m at seq n (record { request = x.request; outcome = o } ∷ ks) k
      go (Registered number) so counts rest (inl here) =
          let first = first_counts m (record { number = number; request = x.request }) (filings ks) counts in
          let same : number ≡ n = cc (ap number_of (sym so ∙ ap (λ (y : Kept). y.outcome) (sym here.1)) ∙ is) in
          record {
            i = 0;
            number_is = omega (arith, same, first.0);
            line_is =
                ap Some (ap₂ (λ (r : Request) (q : ℕ × ℕ). record {
                  seq = q.0;
                  facts = fact_count r.body;
                  replaces =
                      r.target;
                  replaced_by = replacing fs q.1;
                }) (ap (λ (y : Kept). y.request) (sym here.1))
                (ap₂ (λ p n. (p, n)) (sym here.0) same));
          }
      go (Registered number) so counts rest (inr later) =
          let its =
          rest (m + 1) (first_counts m (record { number = number; request = x.request }) (filings ks) counts).1
          later in
          record { i = suc its.i; number_is = omega (arith, its.number_is); line_is = its.line_is }
      go (Refused findings) so counts rest (inl here) =
          absurd (let none : None ≡ Some n = ap number_of (sym so ∙ ap (λ (y : Kept). y.outcome) (sym here.1)) ∙ is in
          cc none)
      go (Refused findings) so counts rest (inr later) = let its = rest m counts later in
          record { i = its.i; number_is = its.number_is; line_is = its.line_is }

  -- their places rise
  above : (at i : ℕ) (ks : List Kept) (line : Entry) → slice_get (map (entry_of fs) (placed_from at ks)) i ≡ Some line
      → at ≤ line.seq
  above at i [] line e = absurd (cc e)
  above at i (x ∷ ks) line e = go x.outcome i (λ i e. above (at + 1) i ks line e) e
    where
      go : (o : Outcome) (i : ℕ) → ((i : ℕ) → slice_get (map (entry_of fs) (placed_from (at + 1) ks)) i ≡ Some line
          → at + 1 ≤ line.seq) → slice_get (map (entry_of fs) (placed_by at x.request o ++ placed_from (at + 1) ks)) i
          ≡ Some line → at ≤ line.seq
      go (Registered number) zero rest e = let its : line ≡ entry at x number = cc e in
          omega (arith, ap (λ (l : Entry). l.seq) its)
      go (Registered number) (suc i) rest e = omega (arith, rest i e)
      go (Refused findings) i rest e = omega (arith, rest i e)

  pub rising : (at i j : ℕ) (ks : List Kept) (line next : Entry) → i < j
      → slice_get (map (entry_of fs) (placed_from at ks)) i ≡ Some line
      → slice_get (map (entry_of fs) (placed_from at ks)) j ≡ Some next → line.seq < next.seq
  rising at i j [] line next less e f = absurd (cc e)
  rising at i j (x ∷ ks) line next less e f =
      go x.outcome i j less (λ i j less e f. rising (at + 1) i j ks line next less e f) e f
    where
      go : (o : Outcome) (i j : ℕ) → i < j → ((i j : ℕ) → i < j
          → slice_get (map (entry_of fs) (placed_from (at + 1) ks)) i ≡ Some line
          → slice_get (map (entry_of fs) (placed_from (at + 1) ks)) j ≡ Some next → line.seq < next.seq)
          → slice_get (map (entry_of fs) (placed_by at x.request o ++ placed_from (at + 1) ks)) i ≡ Some line
          → slice_get (map (entry_of fs) (placed_by at x.request o ++ placed_from (at + 1) ks)) j ≡ Some next
          → line.seq < next.seq
      go (Registered number) i zero less rest e f = absurd (omega (arith, less))
      go (Registered number) zero (suc j) less rest e f = let its : line ≡ entry at x number = cc e in
          omega (arith, ap (λ (l : Entry). l.seq) its, above (at + 1) j ks next f)
      go (Registered number) (suc i) (suc j) less rest e f = rest i j (omega (arith, less)) e f
      go (Refused findings) i j less rest e f = rest i j less e f

-- the filing of a number is that of the kept request which has it
pub filing_there : (m at seq n : ℕ) (ks : List Kept) (k : Kept) → CountFrom m (filings ks) → IsPlaced at seq ks k
    → number_of k.outcome ≡ Some n → filing_numbered n (filings ks) ≡ Some (record { number = n; request = k.request })
unfolding filings
filing_there m at seq n [] k counts placed is = absurd placed
filing_there m at seq n (x ∷ ks) k counts placed is =
    go x.outcome refl counts (λ m counts later. (
      filing_there m (at + 1) seq n ks k counts later is,
      later_above m (at + 1) ks counts later,
    )) placed
  where
    later_above : (m at : ℕ) (ks : List Kept) → CountFrom m (filings ks) → IsPlaced at seq ks k → m ≤ n
    later_above m at ks counts later = let its = there [] m at seq n ks k counts later is in
        omega (arith, its.number_is)

    go : (o : Outcome) → x.outcome ≡ o → CountFrom m (filings (record { request = x.request; outcome = o } ∷ ks))
        → ((m : ℕ) → CountFrom m (filings ks) → IsPlaced (at + 1) seq ks k
        → (filing_numbered n (filings ks) ≡ Some (record { number = n; request = k.request })) × (m ≤ n))
        → IsPlaced at seq (x ∷ ks) k → filing_numbered n (filings (record { request = x.request; outcome = o } ∷ ks))
        ≡ Some (record { number = n; request = k.request })
    go (Registered number) so counts rest (inl here) =
        let same : number ≡ n = cc (ap number_of (sym so ∙ ap (λ (y : Kept). y.outcome) (sym here.1)) ∙ is) in
        rw (own_number number n same)
        (ap Some (ap₂ (λ n (r : Request). record { number = n; request = r }) same
        (ap (λ (y : Kept). y.request) (sym here.1))))
    go (Registered number) so counts rest (inr later) =
        let first = first_counts m (record { number = number; request = x.request }) (filings ks) counts in
        let next = rest (m + 1) first.1 later in
        rw (other_number number n (λ e. omega (arith, e, first.0, next.1))) next.0
    go (Refused findings) so counts rest (inl here) =
        absurd (let none : None ≡ Some n = ap number_of (sym so ∙ ap (λ (y : Kept). y.outcome) (sym here.1)) ∙ is in
        cc none)
    go (Refused findings) so counts rest (inr later) = (rest m counts later).0

-- and there is none where no kept request has it
pub filing_absent : (at n : ℕ) (ks : List Kept)
    → ((k : Kept) (seq : ℕ) → IsPlaced at seq ks k → number_of k.outcome ≡ Some n → ⊥)
    → filing_numbered n (filings ks) ≡ None
unfolding filings
filing_absent at n [] none = refl
filing_absent at n (x ∷ ks) none =
    go x.outcome refl (filing_absent (at + 1) n ks (λ k seq later is. none k seq (inr later) is))
  where
    go : (o : Outcome) → x.outcome ≡ o → filing_numbered n (filings ks) ≡ None
        → filing_numbered n (filings (record { request = x.request; outcome = o } ∷ ks)) ≡ None
    go (Registered number) so rest =
        rw (other_number number n (λ e. none x at (inl (refl, refl)) (ap number_of so ∙ ap Some e))) rest
    go (Refused findings) so rest = rest

-- ---- a line by its number

abbrev pub IsLine : ℕ → List Request → Option Entry → Type 0
IsLine n F None = (k : Kept) (seq : ℕ) → IsPlaced 1 seq (kept F) k → number_of k.outcome ≡ Some n → ⊥
IsLine n F (Some line) = IsEntry (register F) 1 n (kept F) line

module _ (F : List Request) where
  -- the line of a number that a kept request has
  pub its_line : (n seq : ℕ) (k : Kept) → IsPlaced 1 seq (kept F) k → number_of k.outcome ≡ Some n
      → entry_numbered (catalogue_of F) n ≡ Some (entry (register F) seq k n)
  its_line n seq k placed is =
      let its = there (register F) 1 1 seq n (kept F) k (register_numbered F) placed is in
      let number : n ≡ suc its.i = omega (arith, its.number_is) in
      ap (λ m. entry_numbered (catalogue_of F) m) number ∙ its.line_is

  pub line_told : (n : ℕ) (o : Option Entry) → o ≡ entry_numbered (catalogue_of F) n → IsLine n F o
  line_told n None e = λ k seq placed is. absurd (let some = sym (its_line n seq k placed is) ∙ sym e in cc some)
  line_told zero (Some line) e = absurd (cc e)
  line_told (suc at) (Some line) e =
      subst (λ n. IsEntry (register F) 1 n (kept F) line) (omega arith)
      (back (register F) 1 1 at (kept F) line (register_numbered F) (sym e))

-- ---- a place among those of the filings

module _ (F : List Request) where
  pub rising_to : (i j : ℕ) (e f : Entry) → i ≤ j → slice_get (catalogue_of F) i ≡ Some e
      → slice_get (catalogue_of F) j ≡ Some f → e.seq ≤ f.seq
  rising_to i j e f low is its = ⊎_elim
      (λ (t : nat_eq i j ≡ true).
      let here : i ≡ j = grind (arith, nat_tests, t) in
      let both : Some e ≡ Some f = sym is ∙ ap (slice_get (catalogue_of F)) here ∙ its in
      let one : e ≡ f = cc both in
      omega (arith, ap (λ (x : Entry). x.seq) one))
      (λ (t : nat_eq i j ≡ false).
      let less : i < j = grind (arith, nat_tests, t, low) in
      omega (arith, rising (register F) 1 i j (kept F) e f less is its))
      (cases_Bool (nat_eq i j))

  -- the kept request at the place of a filing is that filing
  pub numbered_here : (i place : ℕ) (k : Kept) (e : Entry) → slice_get (catalogue_of F) i ≡ Some e → e.seq ≡ place
      → IsPlaced 1 place (kept F) k → number_of k.outcome ≡ Some (1 + i)
  numbered_here i place k e is here placed =
      let its = back (register F) 1 1 i (kept F) e (register_numbered F) is in
      let at : its.seq ≡ place = ap (λ (x : Entry). x.seq) (sym its.is) ∙ here in
      ap (λ (y : Kept). number_of y.outcome) (same_place 1 place (kept F) k its.k placed
      (subst (λ n. IsPlaced 1 n (kept F) its.k) at its.placed)) ∙ its.number_is

  -- and one at another place was refused
  pub none_here : (place : ℕ) (k : Kept) → IsPlaced 1 place (kept F) k
      → ((i : ℕ) (e : Entry) → slice_get (catalogue_of F) i ≡ Some e → e.seq ≡ place → ⊥) → None ≡ number_of k.outcome
  none_here place k placed other = by_outcome (number_of k.outcome) refl
    where
      by_outcome : (o : Option ℕ) → number_of k.outcome ≡ o → None ≡ o
      by_outcome None is = refl
      by_outcome (Some n) is = let its = there (register F) 1 1 place n (kept F) k (register_numbered F) placed is in
          absurd (other its.i (entry (register F) place k n) its.line_is refl)

-- ---- what a comparison tells

pub told_less : (m n : ℕ) → nat_cmp m n ≡ Less → m < n
told_less m n e = grind (arith, nat_tests, e)

pub told_equal : (m n : ℕ) → nat_cmp m n ≡ Equal → m ≡ n
told_equal m n e = grind (arith, nat_tests, e)

pub told_greater : (m n : ℕ) → nat_cmp m n ≡ Greater → n < m
told_greater m n e = grind (arith, nat_tests, e)

-- the filing of a number is that of the kept request which has it
pub filing_told : (F : List Request) (n seq : ℕ) (k : Kept) → IsPlaced 1 seq (kept F) k → number_of k.outcome ≡ Some n
    → filing_numbered n (register F) ≡ filing_of k.request k.outcome
filing_told F n seq k placed is =
    filing_there 1 1 seq n (kept F) k (register_numbered F) placed is ∙ by_outcome k.outcome is
  where
    by_outcome : (o : Outcome) → number_of o ≡ Some n
        → Some (record { number = n; request = k.request }) ≡ filing_of k.request o
    by_outcome (Registered number) is = let same : number ≡ n = cc is in
        ap (λ m. Some (record { number = m; request = k.request })) (sym same)
    by_outcome (Refused findings) is = absurd (cc is)

-- ---- the lists

-- one kept request more
pub row_step : (fs : List Filing) (gs : List Kept) (at : ℕ) → at < length gs → (found : Option FilingRow)
    → option_map view_row found ≡ option_map (listing fs)
    (filing_of (get_or gs at no_kept).request (get_or gs at no_kept).outcome)
    → MatchOption found (map (listing fs) (filings (take (at + 1) gs)) ≡ map (listing fs) (filings (take at gs)))
    (λ row. map (listing fs) (filings (take (at + 1) gs)) ≡ map (listing fs) (filings (take at gs))
    ++ view_row row ∷ [])
row_step fs gs at low found is =
    let k = get_or gs at no_kept in
    let next : suc at ≡ at + 1 = omega arith in
    by_filing (filing_of k.request k.outcome) found is
    (filings_step gs at k (ap (λ n. take n gs) next ∙ take_more gs at no_kept low))
  where
    by_filing : (f : Option Filing) (found : Option FilingRow) → option_map view_row found ≡ option_map (listing fs) f
        → filings (take (at + 1) gs) ≡ filings (take at gs) ++ filing_list f
        → MatchOption found (map (listing fs) (filings (take (at + 1) gs)) ≡ map (listing fs) (filings (take at gs)))
        (λ row. map (listing fs) (filings (take (at + 1) gs)) ≡ map (listing fs) (filings (take at gs))
        ++ view_row row ∷ [])
    by_filing None None e more = ap (map (listing fs)) (more ∙ append-nil (filings (take at gs)))
    by_filing None (Some row) e more = absurd (cc e)
    by_filing (Some f) None e more = absurd (cc e)
    by_filing (Some f) (Some row) e more =
        let same : view_row row ≡ listing fs f = cc e in
        ap (map (listing fs)) more ∙ map-append (listing fs) (filings (take at gs)) (f ∷ [])
        ∙ ap (λ l. map (listing fs) (filings (take at gs)) ++ l ∷ []) (sym same)

-- the filer's filing of a number
module _ (filer : List ℕ) (n : ℕ) where
  none_listed : (fs : List Filing) → list_any (is_filing_of filer n) fs ≡ false → filter (is_filing_of filer n) fs ≡ []
  none_listed [] none = refl
  none_listed (f ∷ fs) none = ⊎_elim
      (λ (t : is_filing_of filer n f ≡ true). let e : true ≡ false = rw t at none in absurd (cc e))
      (λ (t : is_filing_of filer n f ≡ false). rw t (none_listed fs (rw t at none)))
      (cases_Bool (is_filing_of filer n f))

  one_listed : (m : ℕ) (fs : List Filing) → CountFrom m fs → list_any (is_filing_of filer n) fs ≡ true
      → filter (is_filing_of filer n) fs ≡ option_to_list (filing_numbered n fs)
  one_listed m [] counts some = absurd (cc some)
  one_listed m (f ∷ fs) counts some = ⊎_elim
      (λ (t : nat_eq f.number n ≡ true).
      let number : f.number ≡ n = grind (arith, nat_tests, t) in
      let later = none_outside filer n (m + 1) fs first.1 (inl (omega (arith, number, first.0))) in
      let own : bytes_eq f.request.filer filer ≡ true =
      sym (only_first (bytes_eq f.request.filer filer)) ∙ (rw (t, later) at some) in
      rw (t, own, none_listed fs later) refl)
      (λ (t : nat_eq f.number n ≡ false).
      rw (t, and-false (bytes_eq f.request.filer filer))
      (one_listed (m + 1) fs first.1 (rw (t, and-false (bytes_eq f.request.filer filer)) at some)))
      (cases_Bool (nat_eq f.number n))
    where
      first : (f.number ≡ m) × CountFrom (m + 1) fs
      first = first_counts m f fs counts

      only_first : (b : Bool) → ((b && true) || false) ≡ b
      only_first true = refl
      only_first false = refl

  map_option : {X Y : Type 0} (f : X → Y) (o : Option X) → map f (option_to_list o) ≡ option_to_list (option_map f o)
  map_option f None = refl
  map_option f (Some x) = refl

  pub listed_none : (F : List Request) → list_any (is_filing_of filer n) (register F) ≡ false
      → [] ≡ listings filer (Some n) (register F)
  listed_none F none = ap (map (listing (register F))) (sym (none_listed (register F) none))

  pub listed_one : (F : List Request) (row : Option FilingRow) → list_any (is_filing_of filer n) (register F) ≡ true
      → option_map view_row row ≡ option_map (listing (register F)) (filing_numbered n (register F))
      → map view_row (option_to_list row) ≡ listings filer (Some n) (register F)
  listed_one F row some is =
      map_option view_row row ∙ ap option_to_list is
      ∙ sym (map_option (listing (register F)) (filing_numbered n (register F)))
      ∙ sym (ap (map (listing (register F))) (one_listed 1 (register F) (register_numbered F) some))
