-- Pages that are written one after another.
use Rattle.std.proofs.Common.{◌≡◌, ℕ, ◌+◌, suc, List, [], ◌∷◌, ◌++◌, append-nil, append_assoc, Option, Some, None}
use Rattle.std.proofs.Common.{Result, Ok, Err, OnOk, refl, sym, ap, subst, ◌∙◌, arith}
use Rattle.std.proofs.lemmas.Grind.{flat_map-append}
use Rattle.std.proofs.lemmas.List.{length-map}
use Rattle.std.specs.Prelude.{◌↔◌, Contains, filter, flat_map, length, map}
use Rattle.std.specs.Ordering.{nat_cmp}
use Rattle.std.specs.Cmp.Lexicographic.{slice_cmp}
use Rattle.std.specs.List.Sorted.{IsStrictlySortedBy}
use Rattle.filing_model.specs.Request.{Request}
use Rattle.filing_model.specs.Register.{Kept, kept, register}
use Rattle.register_pages.specs.declared.fault.Missed.{Missed}
use Rattle.register_pages.specs.declared.own.Own.{Own}
use Rattle.register_pages.specs.Own.{AreOwn, places_of}
use Rattle.register_pages.specs.Pages.{Adds, File, Page, Writes, WritesSite, files_of_filer, filer_page, filing_files}
use Rattle.register_pages.specs.Pages.{is_refused, numbered, other_files, pages_for, refused_files, refused_pages}
use Rattle.register_pages.specs.Pages.{refused_report, sent_by}

adds_none : (old : Option (List File)) → Adds old old []
adds_none None = tt
adds_none (Some before) = sym (append-nil before)

adds_then : (old mid new : Option (List File)) (first then : List File) → Adds old mid first
    → Adds mid new then → Adds old new (first ++ then)
adds_then None mid new first then p q = tt
adds_then (Some a) None new first then p q = absurd p
adds_then (Some a) (Some b) None first then p q = absurd q
adds_then (Some a) (Some b) (Some c) first then p q = q ∙ ap (λ l. l ++ then) p ∙ append_assoc a first then

module _ (m m' m'' : Option Missed) (old mid new : Option (List File)) where
  pub writes_then : (first then : List File) → Writes m m' old mid first → Writes m' m'' mid new then
      → Writes m m'' old new (first ++ then)
  writes_then first then p q e =
      let last = q e in
      let before = p last.0 in (before.0, adds_then old mid new first then before.1 last.1)

  -- one page more
  pub page_added : (page : ℕ → List ℕ) (n : ℕ) → Writes m m' old mid (numbered page n)
      → Writes m' m'' mid new (Page (page (n + 1)) ∷ []) → Writes m m'' old new (numbered page (n + 1))
  page_added page n p q =
      let next : n + 1 ≡ suc n = omega arith in
      let more : numbered page n ++ Page (page (n + 1)) ∷ [] ≡ numbered page (n + 1) =
      subst (λ k. numbered page n ++ Page (page k) ∷ [] ≡ numbered page k) (sym next) refl in
      subst (Writes m m'' old new) more (writes_then (numbered page n) (Page (page (n + 1)) ∷ []) p q)

  -- the pages of one more
  pub pages_added : {X : Type 0} (pages : X → List File) (xs more : List X) (x : X) → more ≡ xs ++ x ∷ []
      → Writes m m' old mid (flat_map pages xs) → Writes m' m'' mid new (pages x)
      → Writes m m'' old new (flat_map pages more)
  pages_added pages xs more x is p q =
      let all : flat_map pages more ≡ flat_map pages xs ++ pages x =
      ap (flat_map pages) is ∙ flat_map-append pages xs (x ∷ [])
      ∙ ap (λ l. flat_map pages xs ++ l) (append-nil (pages x)) in
      subst (Writes m m'' old new) (sym all) (writes_then (flat_map pages xs) (pages x) p q)

  -- the files of a filer, of whom this is known
  pub filer_written : (ks : List Kept) (filer : List ℕ) (own : Own) → AreOwn own (sent_by filer ks)
      → Writes m m' old mid (numbered (filer_page filer) (pages_for 1000 (length own.filings.items)))
      → Writes m' m'' mid new (refused_files filer (filter is_refused (sent_by filer ks)))
      → Writes m m'' old new (files_of_filer ks filer)
  filer_written ks filer own are p q =
      let first : ℕ → List File = λ n. numbered (filer_page filer) (pages_for 1000 n) in
      let refused = refused_files filer (filter is_refused (sent_by filer ks)) in
      subst (λ n. Writes m m'' old new (first n ++ refused)) are.filings
      (writes_then (first (length own.filings.items)) refused p q)

  -- the pages of refused requests with these places, and the report of each
  pub refused_written : (filer places : List ℕ) (refused : List (ℕ × Kept)) → places ≡ places_of refused
      → Writes m m' old mid (refused_pages filer (length places))
      → Writes m' m'' mid new (flat_map refused_report refused)
      → Writes m m'' old new (refused_files filer refused)
  refused_written filer places refused are p q =
      let reports = flat_map refused_report refused in
      let many : length places ≡ length refused = ap length are ∙ length-map refused (λ (r : ℕ × Kept). r.0) in
      subst (λ n. Writes m m'' old new (refused_pages filer n ++ reports)) many
      (writes_then (refused_pages filer (length places)) reports p q)

pub writes_none : (m : Option Missed) (old : Option (List File)) → Writes m m old old []
writes_none m old e = (e, adds_none old)

-- the pages of the filings and of the filers are written, and then the others
pub site_written : {X E : Type 0} (requests : List Request) (old new : Option (List File))
    (filers : List (List ℕ)) (r : Result X E)
    → ((filer : List ℕ) → Contains filers filer ↔ Contains (map (λ k. k.request.filer) (kept requests)) filer)
    → OnOk r (IsStrictlySortedBy (slice_cmp nat_cmp) filers)
    → OnOk r (Adds old new (filing_files (register requests) ++ other_files (kept requests) filers))
    → OnOk r (WritesSite requests old new)
site_written requests old new filers (Ok x) each ascend written =
    (filers, record { ascend = ascend; each = each }, written)
site_written requests old new filers (Err e) each ascend written = tt
