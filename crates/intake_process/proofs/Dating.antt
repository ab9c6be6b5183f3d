-- When filings were received: what is read of a store, one call after another, and what is printed of it.
use Rattle.std.proofs.Common.{◌≡◌, ◌∙◌, ◌+◌, ◌<◌, ℕ, Bool, List, [], ◌∷◌, ◌++◌, map, take, length, get_or}
use Rattle.std.proofs.Common.{Option, Some, None, Result, Ok, Err, refl, sym, ap, subst, inl, inr, arith}
use Rattle.std.specs.Prelude.{option_map}
use Rattle.std.specs.List.{flat_map}
use Rattle.std.proofs.lemmas.Grind.{flat_map-append}
use Rattle.std.proofs.lemmas.List.{append-nil, map-append, take_more}
use Rattle.sqlite.specs.Store.{Ghosts}
use Rattle.sqlite.specs.State.{HasCleanDisk}
use Rattle.table_rows.proofs.StepLemmas.{nothing_left, nothing_yet}
use Rattle.xbrl_report.specs.FactRecord.{FactRecord}
use Rattle.filing_model.specs.Listing.{Listing}
use Rattle.filing_model.specs.Register.{Outcome, Kept, kept, register}
use Rattle.filing_model.specs.Register.Outcome.{Registered, Refused}
use Rattle.filing_model.specs.Request.{Request}
use Rattle.filing_model.specs.Views.{view_row}
use Rattle.filing_model.specs.declared.listing.FilingRow.{FilingRow}
use Rattle.register_rows.specs.Catalogue.{Entry, catalogue_of, entry_numbered}
use Rattle.register_rows.specs.Register.{number_of}
use Rattle.register_rows.proofs.Filings.{other_number}
use Rattle.register_store.specs.Calls.{KeepsStore}
use Rattle.register_store.specs.Found.{IsPlaced}
use Rattle.register_store.specs.Moments.{ForMoments, moment_in}
use Rattle.register_store.specs.Numbered.{facts_numbered}
use Rattle.register_store.specs.Store.{ForRequests, StoreParts, shows}
use Rattle.register_store.proofs.CatalogueLemmas.{line_told}
use Rattle.register_extracts.specs.Moments.{moment_of}
use Rattle.register_extracts.proofs.Numbers.{its_moment}
use Rattle.intake_process.specs.declared.tasks.errand.Errand.TheVariants.{Ask}
use Rattle.intake_process.specs.declared.tasks.errand.Question.TheVariants.{Show}
use Rattle.intake_process.specs.Errands.{meaning}
use Rattle.intake_process.specs.Listing.{moment_line, moment_lines}
use Rattle.intake_process.specs.Showing.{shown_lines}

-- ---- the moment of a filing

-- none has the number
moment_absent : (at n : ℕ) (ks : List Kept) (moments : List (Option ℕ))
    → ((k : Kept) (seq : ℕ) → IsPlaced at seq ks k → number_of k.outcome ≡ Some n → ⊥)
    → moment_of ks moments n ≡ None
moment_absent at n [] moments none = refl
moment_absent at n (x ∷ ks) [] none = refl
moment_absent at n (x ∷ ks) (moment ∷ moments) none =
    go x.outcome refl (moment_absent (at + 1) n ks moments (λ k seq later is. none k seq (inr later) is))
  where
    go : (o : Outcome) → x.outcome ≡ o → moment_of ks moments n ≡ None
        → moment_of (record { request = x.request; outcome = o } ∷ ks) (moment ∷ moments) n ≡ None
    go (Registered number) so rest =
        rw (other_number number n (λ e. none x at (inl (refl, refl)) (ap number_of so ∙ ap Some e))) rest
    go (Refused findings) so rest = rest

-- by the place that the catalogue says
module _ (F : List Request) (moments : List (Option ℕ)) (n : ℕ) where
  pub moment_placed : (place : ℕ)
      → Some place ≡ option_map (λ (line : Entry). line.seq) (entry_numbered (catalogue_of F) n)
      → moment_in moments place ≡ moment_of (kept F) moments n
  moment_placed place is = go (entry_numbered (catalogue_of F) n) refl is
    where
      go : (o : Option Entry) → o ≡ entry_numbered (catalogue_of F) n
          → Some place ≡ option_map (λ (line : Entry). line.seq) o
          → moment_in moments place ≡ moment_of (kept F) moments n
      go None at is = absurd (cc is)
      go (Some line) at is =
          let its = line_told F n (Some line) at in
          let seq : place ≡ its.seq = cc (is ∙ ap Some (ap (λ (e : Entry). e.seq) its.is)) in
          ap (moment_in moments) seq ∙ sym (its_moment F moments its.seq n its.k its.placed its.number_is)

  pub moment_unplaced : None ≡ option_map (λ (line : Entry). line.seq) (entry_numbered (catalogue_of F) n)
      → None ≡ moment_of (kept F) moments n
  moment_unplaced is = go (entry_numbered (catalogue_of F) n) refl is
    where
      go : (o : Option Entry) → o ≡ entry_numbered (catalogue_of F) n
          → None ≡ option_map (λ (line : Entry). line.seq) o → None ≡ moment_of (kept F) moments n
      go None at is = sym (moment_absent 1 n (kept F) moments (line_told F n None at))
      go (Some line) at is = absurd (cc is)

-- ---- calls that only read, one after another

module _ {S : Type 0} (g : Ghosts S) where
  pub clean_mid : {mid new : StoreParts S} → KeepsStore g mid new → HasCleanDisk (shows g new)
      → HasCleanDisk (shows g mid)
  clean_mid keeps clean = omega (arith, keeps.crash.clean, clean)

  pub keeps_same : {store : StoreParts S} → KeepsStore g store store
  keeps_same {store} = record {
    same = λ clean F has. has;
    moments = λ clean F has moments dated. dated;
    counts = (refl, refl, refl);
    old_style = refl;
    crash = nothing_yet (shows g store);
  }

  pub keeps_then : {old mid new : StoreParts S} → KeepsStore g old mid → KeepsStore g mid new → KeepsStore g old new
  keeps_then {old} {mid} {new} p q = record {
    same = λ clean F has. q.same clean F (p.same (clean_mid q clean) F has);
    moments = λ clean F has moments dated.
        let was : HasCleanDisk (shows g mid) = clean_mid q clean in
        q.moments clean F (p.same was F has) moments (p.moments was F has moments dated);
    counts = (q.counts.0 ∙ p.counts.0, q.counts.1 ∙ p.counts.1, q.counts.2 ∙ p.counts.2);
    old_style = q.old_style ∙ p.old_style;
    crash = nothing_left (shows g old) (shows g mid) (shows g new) p.crash q.crash;
  }

  -- what the second says of the requests and their moments holds of those before the first
  pub moments_then : {old mid new : StoreParts S} {Holds : List Request → List (Option ℕ) → Type 0}
      → KeepsStore g old mid → KeepsStore g mid new → ForMoments g mid new Holds → ForMoments g old new Holds
  moments_then {old} {mid} {new} {Holds} p q holds clean F has moments dated =
      let was : HasCleanDisk (shows g mid) = clean_mid q clean in
      holds clean F (p.same was F has) moments (p.moments was F has moments dated)

  -- what the first says still holds
  pub moments_before : {old mid new : StoreParts S} {Holds : List Request → List (Option ℕ) → Type 0}
      → KeepsStore g mid new → ForMoments g old mid Holds → ForMoments g old new Holds
  moments_before q holds clean F has moments dated = holds (clean_mid q clean) F has moments dated

-- ---- the lines of a filer's filings

-- one line more
pub lines_more : (ks : List Kept) (moments : List (Option ℕ)) (rows : List FilingRow) (at : ℕ) (d : FilingRow)
    → at < length rows → (text line : List ℕ) (received : Option ℕ)
    → text ≡ moment_lines ks moments (map view_row (take at rows))
    → received ≡ moment_of ks moments (get_or rows at d).number
    → line ≡ moment_line (get_or rows at d).number received
    → text ++ line ≡ moment_lines ks moments (map view_row (take (at + 1) rows))
lines_more ks moments rows at d low text line received before its line_is =
    let row = get_or rows at d in
    let each : Listing → List ℕ = λ r. moment_line r.number (moment_of ks moments r.number) in
    let last : line ≡ each (view_row row) = line_is ∙ ap (moment_line row.number) its in
    let more : map view_row (take (at + 1) rows) ≡ map view_row (take at rows) ++ view_row row ∷ [] =
    ap (map view_row) (take_more rows at d low) ∙ map-append view_row (take at rows) (row ∷ []) in
    ap (λ t. t ++ line) before ∙ ap (λ l. flat_map each (map view_row (take at rows)) ++ l) (last
    ∙ sym (append-nil (each (view_row row))))
    ∙ sym (flat_map-append each (map view_row (take at rows)) (view_row row ∷ [])) ∙ sym (ap (flat_map each) more)

-- ---- a filing is shown

-- the text of a filing whose facts were found, by what its lines are
module _ {S : Type 0} (g : Ghosts S) (number : ℕ) (dated : Bool) (old mid new : StoreParts S) (facts : List FactRecord)
    (found : ForRequests g old mid (λ F. Some facts ≡ facts_numbered number (register F)))
    (keeps : KeepsStore g old mid) (later : KeepsStore g mid new) where
  pub shown_as : ForMoments g old new (λ requests moments.
      (meaning (Ask (Show number dated))).text requests moments
      ≡ Some (shown_lines dated number (moment_of (kept requests) moments number) facts))
  shown_as clean F has moments dates =
      ap (option_map (shown_lines dated number (moment_of (kept F) moments number)))
      (sym (found (clean_mid g later clean) F has))

  pub shown_text : (text : List ℕ)
      → ForMoments g mid new (λ requests moments.
      text ≡ shown_lines dated number (moment_of (kept requests) moments number) facts)
      → ForMoments g old new (λ requests moments. (meaning (Ask (Show number dated))).text requests moments ≡ Some text)
  shown_text text lines clean F has moments dates =
      let was : HasCleanDisk (shows g mid) = clean_mid g later clean in
      shown_as clean F has moments dates
      ∙ ap Some (sym (lines clean F (keeps.same was F has) moments (keeps.moments was F has moments dates)))
