-- What the catalogue says once a request more was judged.
use Rattle.std.proofs.Common.{◌≡◌, ◌<◌, ◌+◌, ℕ, suc, false, true, List, [], ◌∷◌, ◌++◌, length, map, set, get_or, Option}
use Rattle.std.proofs.Common.{None, Some, refl, sym, ap, ap₂, ◌∙◌, ◌≤◌, zero, subst, append_assoc, arith}
use Rattle.std.specs.Borrow.{Bor}
use Rattle.std.specs.List.{range_with_len}
use Rattle.std.specs.Prelude.{option_map, slice_get}
use Rattle.std.specs.Slice.{IsItemAt}
use Rattle.std.proofs.lemmas.Option.{slice_get-map, slice_get_past, slice_get_read}
use Rattle.std.proofs.lemmas.List.{get_or-map, get_or_append_left, map-append, map-set, set-append_left}
use Rattle.std.specs.Option.{unwrap_or}
use Rattle.xbrl_report.specs.Pair.{Pair}
use Rattle.xbrl_report.specs.ReportParts.{fact_count}
use Rattle.filing_model.specs.Listing.{replacing}
use Rattle.filing_model.specs.Request.{Request, has_key}
use Rattle.filing_model.specs.Register.{Filing, Outcome, Kept, filings, is_free, judged, kept, register}
use Rattle.filing_model.specs.Register.Outcome.{Registered, Refused}
use Rattle.filing_model.proofs.Keeping.{kept_new, kept_repeat}
use Rattle.filing_model.proofs.Lists.{append_nil, length-map}
use Rattle.register_rows.specs.Catalogue.{Entry, IsRegisteredNext, Placed, catalogue_of, entries_among, entry_of}
use Rattle.register_rows.specs.Catalogue.{number_or_none, placed_by, placed_from, view_line}
use Rattle.register_rows.specs.declared.catalogue.Line.{Line}
use Rattle.register_rows.proofs.FiledLemmas.{filing_more, filing_no_more, in_order, registered_free, registered_next}
use Rattle.register_rows.proofs.Filings.{free_unreplaced, free_within, last_unreplaced, line_replaced, lines_as_before}
use Rattle.register_rows.proofs.Filings.{next_filing, placed_filings}

placed_more : (seq : ℕ) (ks : List Kept) (k : Kept)
    → placed_from seq (ks ++ k ∷ []) ≡ placed_from seq ks ++ placed_by (seq + length ks) k.request k.outcome
placed_more seq [] k = append_nil _ ∙ ap (λ n. placed_by n k.request k.outcome) (omega arith)
placed_more seq (q ∷ ks) k =
    ap (λ l. placed_by seq q.request q.outcome ++ l) (placed_more (seq + 1) ks k
    ∙ ap (λ n. placed_from (seq + 1) ks ++ placed_by n k.request k.outcome) (omega arith))
    ∙ sym (append_assoc (placed_by seq q.request q.outcome) (placed_from (seq + 1) ks)
    (placed_by (seq + length (q ∷ ks)) k.request k.outcome))

-- each filing has a place
pub placed_are : (seq : ℕ) (ks : List Kept) → placed_filings (placed_from seq ks) ≡ filings ks
unfolding filings
placed_are seq [] = refl
placed_are seq (k ∷ ks) = go k.outcome (placed_are (seq + 1) ks)
  where
    go : (o : Outcome) → placed_filings (placed_from (seq + 1) ks) ≡ filings ks
        → placed_filings (placed_by seq k.request o ++ placed_from (seq + 1) ks)
        ≡ filings (record { request = k.request; outcome = o } ∷ ks)
    go (Registered number) rest = ap (λ fs. record { number = number; request = k.request } ∷ fs) rest
    go (Refused findings) rest = rest

pub placed_many : (ks : List Kept) → length (placed_from 1 ks) ≡ length (filings ks)
placed_many ks = sym (length-map (λ (p : Placed). p.filing) (placed_from 1 ks)) ∙ ap length (placed_are 1 ks)

-- as much is said as there are filings
pub catalogue_many : (F : List Request) → length (catalogue_of F) ≡ length (register F)
catalogue_many F = length-map (entry_of (register F)) (placed_from 1 (kept F)) ∙ placed_many (kept F)

-- ---- a request that is registered

module _ (F : List Request) (r : Request) (seq facts : ℕ) (target : Option ℕ)
    (next : IsRegisteredNext (kept F) r seq facts target) where
  abbrev fs : List Filing
  fs = register F

  abbrev more : List Filing
  more = fs ++ next_filing fs r ∷ []

  free : is_free fs r.filer r.target ≡ true
  free = registered_free (kept F) r next.number next.registered

  -- what is said of it
  abbrev last : Entry
  last = record { seq = seq; facts = facts; replaces = target; replaced_by = None }

  entries_more : entries_among (kept F ++ judged (kept F) r ∷ []) ≡ map (entry_of more) (placed_from 1 (kept F))
      ++ last ∷ []
  entries_more =
      ap (λ gs. map (entry_of gs) (placed_from 1 (kept F ++ judged (kept F) r ∷ [])))
      (filing_more (kept F) r next.number next.registered)
      ∙ ap (map (entry_of more)) (placed_more 1 (kept F) (judged (kept F) r))
      ∙ map-append (entry_of more) (placed_from 1 (kept F))
      (placed_by (1 + length (kept F)) r (judged (kept F) r).outcome)
      ∙ ap (λ o. map (entry_of more) (placed_from 1 (kept F))
      ++ map (entry_of more) (placed_by (1 + length (kept F)) r o)) (next.registered
      ∙ ap Registered (registered_next (kept F) r next.number next.registered))
      ∙ ap (λ e. map (entry_of more) (placed_from 1 (kept F)) ++ e ∷ []) own
    where
      own : entry_of more (record { seq = 1 + length (kept F); filing = next_filing fs r }) ≡ last
      own =
          ap (λ n. record {
            seq = n;
            facts = fact_count r.body;
            replaces = r.target;
            replaced_by =
                replacing more (suc (length fs));
          }) (omega (arith, next.seq_is))
          ∙ ap (λ n. record {
            seq = seq;
            facts = n;
            replaces = r.target;
            replaced_by =
                replacing more (suc (length fs));
          }) (sym next.facts_are)
          ∙ ap (λ (t : Option ℕ). record {
            seq = seq;
            facts = facts;
            replaces = t;
            replaced_by =
                replacing more (suc (length fs));
          }) next.target_is
          ∙ ap (λ (by : Option ℕ). record { seq = seq; facts = facts; replaces = target; replaced_by = by })
          (last_unreplaced fs r (in_order F) free)

  -- its number, as it is held
  target_held : (t : Option ℕ) → target ≡ t → number_or_none (unwrap_or t 0) ≡ t
  target_held None is = refl
  target_held (Some zero) is = let low =
      (free_within fs (in_order F).numbered r.filer r.target 0 free (next.target_is ∙ is)).0 in
      absurd (omega (arith, low))
  target_held (Some (suc n)) is = refl

  -- its line, as it is held
  abbrev line : Line
  line = record { seq = seq; facts = facts; replaces = unwrap_or target 0; replaced_by = 0 }

  line_is : view_line line ≡ last
  line_is =
      ap (λ (t : Option ℕ). record { seq = seq; facts = facts; replaces = t; replaced_by = None })
      (target_held target refl)

  module _ (old : List Line) (held : map view_line old ≡ catalogue_of F) where
    pub held_many : length old ≡ length (register F)
    held_many = sym (length-map view_line old) ∙ ap length held ∙ catalogue_many F

    -- where it replaces none
    pub noted : target ≡ None → (new : List Line) → new ≡ old ++ line ∷ []
        → map view_line new ≡ entries_among (kept F ++ judged (kept F) r ∷ [])
    noted none new is =
        ap (map view_line) is ∙ map-append view_line old (line ∷ [])
        ∙ ap₂ (λ l e. l ++ e ∷ []) (held
        ∙ sym (lines_as_before fs (next_filing fs r) (next.target_is ∙ none) (placed_from 1 (kept F)))) line_is
        ∙ sym entries_more

    -- and where it replaces one
    pub noted_replacing : (n at : ℕ) → target ≡ Some n → n ≡ at + 1 → at < length old → (item : Line)
        → item ≡ get_or (old ++ line ∷ []) at item → (count : ℕ) → count ≡ suc (length old)
        → (new : List Line) → new ≡ set (old ++ line ∷ [])
        at (record { seq = item.seq; facts = item.facts; replaces = item.replaces; replaced_by = count })
        → map view_line new ≡ entries_among (kept F ++ judged (kept F) r ∷ [])
    noted_replacing n at is place low item its count many new are =
        let asked : r.target ≡ Some n = next.target_is ∙ is in
        let number : count ≡ suc (length fs) = omega (arith, many, held_many) in
        let changed : Line =
        record { seq = item.seq; facts = item.facts; replaces = item.replaces; replaced_by = count } in
        let was = view_line item in
        let from : was ≡ get_or (map (entry_of fs) (placed_from 1 (kept F))) at was =
        ap view_line (its ∙ get_or_append_left old (line ∷ []) item at low)
        ∙ sym (get_or-map view_line old at item was low) ∙ ap (λ l. get_or l at was) held in
        let now : Entry =
        record {
          seq = was.seq;
          facts = was.facts;
          replaces = was.replaces;
          replaced_by =
              Some (suc (length fs));
        } in
        ap (map view_line) (are ∙ set-append_left old (line ∷ []) at changed low)
        ∙ map-append view_line (set old at changed) (line ∷ [])
        ∙ ap₂ (λ l e. l ++ e ∷ []) (map-set view_line old at changed
        ∙ ap₂ (λ l e. set l at e) held
        (ap (λ m. record {
          seq = was.seq;
          facts = was.facts;
          replaces = was.replaces;
          replaced_by =
              number_or_none m;
        }) number)
        ∙ sym (line_replaced fs (next_filing fs r) n 1 at asked (free_unreplaced fs r.filer r.target n free asked)
        (placed_from 1 (kept F)) was (counted) (omega (arith, low, held_many, placed_many (kept F)))
        (omega (arith, place)) from)) line_is
        ∙ sym entries_more
      where
        counted : map (λ (f : Filing). f.number) (placed_filings (placed_from 1 (kept F)))
            ≡ range_with_len 1 (length (placed_filings (placed_from 1 (kept F))))
        counted =
            subst (λ gs. map (λ (f : Filing). f.number) gs ≡ range_with_len 1 (length gs)) (sym (placed_are 1 (kept F)))
            (in_order F).numbered

    -- what it replaces is one of those before it
    pub replaces_earlier : (n : ℕ) → target ≡ Some n → (0 < n) × (n ≤ length old)
    replaces_earlier n is = let told =
        free_within fs (in_order F).numbered r.filer r.target n free (next.target_is ∙ is) in
        (told.0, omega (arith, told.1, held_many))

-- ---- a request that is not

pub refused_says_no_more : (before : List Kept) (r : Request) (found : List Pair)
    → (judged before r).outcome ≡ Refused found → entries_among (before ++ judged before r ∷ []) ≡ entries_among before
refused_says_no_more before r found is =
    ap (λ gs. map (entry_of gs) (placed_from 1 (before ++ judged before r ∷ []))) (filing_no_more before r found is)
    ∙ ap (map (entry_of (filings before))) (placed_more 1 before (judged before r)
    ∙ ap (λ o. placed_from 1 before ++ placed_by (1 + length before) r o) is ∙ append_nil (placed_from 1 before))

-- ---- of a list of requests

module _ (F : List Request) (r : Request) where
  pub catalogue_new : has_key F r ≡ false → catalogue_of (F ++ r ∷ [])
      ≡ entries_among (kept F ++ judged (kept F) r ∷ [])
  catalogue_new fresh = ap entries_among (kept_new F r fresh)

  pub catalogue_refused : has_key F r ≡ false → (found : List Pair) → (judged (kept F) r).outcome ≡ Refused found
      → catalogue_of (F ++ r ∷ []) ≡ catalogue_of F
  catalogue_refused fresh found is = catalogue_new fresh ∙ refused_says_no_more (kept F) r found is

  pub catalogue_repeat : has_key F r ≡ true → catalogue_of (F ++ r ∷ []) ≡ catalogue_of F
  catalogue_repeat again = ap entries_among (kept_repeat F r again)

-- ---- a line that is read

pub line_at : (lines : List Line) (at : ℕ) (found : Option (Bor Line)) → IsItemAt lines at found
    → option_map (λ line. view_line line.now) found ≡ slice_get (map view_line lines) at
line_at lines at None told =
    sym (slice_get_past (map view_line lines) at (omega (arith, told.3, length-map view_line lines)))
line_at lines at (Some line) told =
    sym (slice_get-map view_line lines at ∙ ap (option_map view_line)
    (slice_get_read lines (length lines) at line.now refl told.3.0 told.1))
