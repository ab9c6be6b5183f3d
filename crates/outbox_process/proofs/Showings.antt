-- Entries that are shown, one behind another.
use Rattle.std.proofs.Common.{◌≡◌, ◌∙◌, ℕ, suc, ◌+◌, ◌<◌, ◌≤◌, List, [], ◌∷◌, ◌++◌, take, length, slice_index_or}
use Rattle.std.proofs.Common.{◌⊎◌, IfErr, Option, Some, None, Result, Ok, Err, refl, sym, ap, subst, inl, inr, arith}
use Rattle.std.specs.Prelude.{flat_map}
use Rattle.std.specs.Io.KnownBytes.{Appends}
use Rattle.std.proofs.KnownBytes.{Appends-nil, Appends-trans}
use Rattle.std.proofs.lemmas.List.{append-nil, take_all}
use Rattle.std.proofs.lemmas.Grind.{flat_map-append}
use Rattle.sqlite.specs.Store.{Ghosts}
use Rattle.sqlite.specs.State.{HasCleanDisk}
use Rattle.filing_model.specs.Outbox.{Entry}
use Rattle.filing_model.specs.declared.state.State.{State as Stored}
use Rattle.outbox_tables.specs.Entries.{numbered}
use Rattle.outbox_core.specs.OutboxParts.{OutboxParts, shows, HasEntries, ForEntries}
use Rattle.outbox_process.specs.declared.fault.Why.{Why}
use Rattle.outbox_process.specs.Faults.{IsNotPrinted}
use Rattle.outbox_process.specs.Lines.{long_line}
use Rattle.outbox_process.specs.Looking.{AreAny}
use Rattle.outbox_process.specs.Showing.{AreTold, ShowsEntry, ShowsEach}
use Rattle.outbox_process.proofs.Looks.{nth, all_told}

-- of a text that was not printed
pub not_printed : {X : Type 0} (P : Why → Type 0) (result : Result X Why) → IfErr result IsNotPrinted
    → IfErr result (λ why. P why ⊎ IsNotPrinted why)
not_printed P (Ok done) is = tt
not_printed P (Err why) is = inr is

module _ {S : Type 0} (g : Ghosts S) where
  -- the first of those that are told were shown
  pub record ShowsFirst (told : List (ℕ × Stored)) (count : ℕ) (box box' : OutboxParts S)
      (out out' : Option (List ℕ)) : Type 0 where
    pub shown : ForEntries g box box' (λ entries. AreTold told entries
        → Appends out out' (flat_map long_line (take count (numbered entries))))
    pub kept : ForEntries g box box' (HasEntries g box')
    pub filer : box'.filer ≡ box.filer
    pub clean : HasCleanDisk (shows g box') → HasCleanDisk (shows g box)

  pub none : (told : List (ℕ × Stored)) (box : OutboxParts S) (out : Option (List ℕ))
      → ShowsFirst told 0 box box out out
  none told box out =
      record {
        shown = λ clean entries had are. Appends-nil out;
        kept = λ clean entries had. had;
        filer = refl;
        clean =
            λ clean. clean;
      }

  -- the next is shown
  pub more : {X : Type 0} (told : List (ℕ × Stored)) (at : ℕ) (or : ℕ
      × Stored) (box mid box' : OutboxParts S) (out so_far out' : Option (List ℕ)) (done : X) → at < length told
      → ShowsFirst told at box mid out so_far
      → ShowsEntry g long_line (slice_index_or told at or).0 mid box' so_far out' (Ok done)
      → ShowsFirst told (at + 1) box box' out out'
  more told at or box mid box' out so_far out' done within a b = record {
    shown = λ clean entries had are.
        let id = (slice_index_or told at or).0 in
        let here = nth at entries told or are within in
        let before = a.shown (b.clean clean) entries had are in
        let mine = a.kept (b.clean clean) entries had in
        let line : Appends so_far out' (long_line (id, here.entry)) =
        elim b.shown [
          | inl it ↦ let same : it.0 ≡ here.entry =
              (let both : Some it.0 ≡ Some here.entry = sym (it.1 clean entries mine) ∙ here.here in cc) in
              subst (λ (e : Entry). Appends so_far out' (long_line (id, e))) same it.2
          | inr it ↦ absurd cc
        ] in
        let next : at + 1 ≡ suc at = omega arith in
        let whole : flat_map long_line (take (at + 1) (numbered entries))
        ≡ flat_map long_line (take at (numbered entries)) ++ long_line (id, here.entry) =
        ap (λ n. flat_map long_line (take n (numbered entries))) next ∙ ap (flat_map long_line) here.more
        ∙ flat_map-append long_line (take at (numbered entries)) ((id, here.entry) ∷ [])
        ∙ ap (λ t. flat_map long_line (take at (numbered entries)) ++ t) (append-nil (long_line (id, here.entry))) in
        subst (Appends out out') (sym whole) (Appends-trans out so_far out' _ _ before line);
    kept = λ clean entries had. b.kept clean entries (a.kept (b.clean clean) entries had);
    filer = b.filer ∙ a.filer;
    clean = λ clean. a.clean (b.clean clean);
  }

  -- all were shown
  pub all : {X : Type 0} (told : List (ℕ × Stored)) (count : ℕ) (box box' : OutboxParts S) (out out' : Option (List ℕ))
      (done : X) → length told ≤ count → ShowsFirst told count box box' out out'
      → ShowsEach g (AreTold told) box box' out out' (Ok done)
  all told count box box' out out' done least a = record {
    shown = λ clean entries had are.
        let enough : length (numbered entries) ≤ count = omega (arith, all_told told (numbered entries) are, least) in
        subst (λ es. Appends out out' (flat_map long_line es)) (take_all count (numbered entries) enough)
        (a.shown clean entries had are);
    fault = λ clean entries had are. tt;
    kept = a.kept;
    filer = a.filer;
    clean = a.clean;
  }

  -- the next was not shown
  pub broken : {X : Type 0} (told : List (ℕ × Stored)) (at : ℕ) (or : ℕ
      × Stored) (box mid box' : OutboxParts S) (out so_far out' : Option (List ℕ)) (fault : Why)
      → at < length told → ShowsFirst told at box mid out so_far
      → ShowsEntry {X = X} g long_line (slice_index_or told at or).0 mid box' so_far out' (Err fault)
      → ShowsEach {X = X} g (AreTold told) box box' out out' (Err fault)
  broken told at or box mid box' out so_far out' fault within a b = record {
    shown = λ clean entries had are. tt;
    fault = λ clean entries had are.
        let here = nth at entries told or are within in
        let before = a.shown (b.clean clean) entries had are in
        let mine = a.kept (b.clean clean) entries had in
        elim b.shown [
          | inl it ↦ inr it.3
          | inr it ↦
              let is : fault ≡ it.0 = cc in
              elim it.2 [
                | inl unread ↦ inl (
                  (unread.0, is ∙ unread.1),
                  (
                    at,
                    subst (λ o. Appends out o (flat_map long_line (take at (numbered entries)))) (sym it.3)
                        before,
                  ),
                )
                | inr none ↦ absurd (let gone : Some here.entry ≡ None = sym here.here ∙ none.1 clean entries mine in
                    cc)
              ]
        ];
    kept = λ clean entries had. b.kept clean entries (a.kept (b.clean clean) entries had);
    filer = b.filer ∙ a.filer;
    clean = λ clean. a.clean (b.clean clean);
  }

  -- by a look at the entries
  pub each : {X : Type 0} (told : List (ℕ × Stored)) (box mid box' : OutboxParts S) (out out' : Option (List ℕ))
      (result : Result X Why) → ForEntries g box mid (AreTold told) → ForEntries g box mid (HasEntries g mid)
      → mid.filer ≡ box.filer → (HasCleanDisk (shows g mid) → HasCleanDisk (shows g box))
      → ShowsEach g (AreTold told) mid box' out out' result → ShowsEach g AreAny box box' out out' result
  each told box mid box' out out' result are kept named clean_before a = record {
    shown = λ clean entries had any. a.shown clean entries (kept (a.clean clean) entries had)
        (are (a.clean clean) entries had);
    fault = λ clean entries had any. a.fault clean entries (kept (a.clean clean) entries had)
        (are (a.clean clean) entries had);
    kept = λ clean entries had. a.kept clean entries (kept (a.clean clean) entries had);
    filer = a.filer ∙ named;
    clean = λ clean. clean_before (a.clean clean);
  }
