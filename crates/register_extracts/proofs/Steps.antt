-- One filing after another.
use Rattle.std.proofs.Common.{◌≡◌, ℕ, ◌+◌, ◌<◌, ◌≤◌, zero, suc, List, [], ◌∷◌, ◌++◌, append-nil, length, take, Option}
use Rattle.std.proofs.Common.{Some, true, false, refl, ap, subst, ◌∙◌, ⊎_elim, arith}
use Rattle.std.specs.Prelude.{◌&&◌, not, is_some, nat_eq, nat_lt}
use Rattle.std.proofs.Math.Bool.{and-false}
use Rattle.std.proofs.lemmas.Bool.{cases_Bool}
use Rattle.std.proofs.lemmas.Bool.Decides.{nat_tests}
use Rattle.std.proofs.lemmas.Grind.{flat_map-append}
use Rattle.std.specs.List.{flat_map}
use Rattle.filing_model.specs.Register.{Filing, Kept}
use Rattle.register_rows.proofs.Filings.{CountFrom, first_counts, other_number, own_number}
use Rattle.register_store.specs.Numbered.{filing_numbered}
use Rattle.register_extracts.specs.declared.facts.record.FactForm.{FactForm}
use Rattle.register_extracts.specs.declared.records.Wanted.{Wanted}
use Rattle.register_extracts.specs.Filings.{FilingParts, whole}
use Rattle.register_extracts.specs.Records.{filing_records, is_of, wanted_records}

-- the filing at this index has the number that follows, and comes behind those before it
abbrev pub IsNext : ℕ → ℕ → List Filing → Type 0
IsNext start at fs =
    (f : Filing) × (filing_numbered (start + at) fs ≡ Some f) × (take (at + 1) fs ≡ take at fs ++ f ∷ [])

pub next_filing : (start at : ℕ) (fs : List Filing) → CountFrom start fs → at < length fs → IsNext start at fs
next_filing start at [] counts low = absurd (omega (arith, low))
next_filing start zero (f ∷ fs) counts low =
    let first = first_counts start f fs counts in
    (f, rw (own_number f.number (start + 0) (omega (arith, first.0))) refl, refl)
next_filing start (suc at) (f ∷ fs) counts low =
    let first = first_counts start f fs counts in
    let later = next_filing (start + 1) at fs first.1 (omega (arith, low)) in
    let number : start + 1 + at ≡ start + suc at = omega arith in
    let more : suc at + 1 ≡ suc (at + 1) = omega arith in (
      later.0,
      rw (other_number f.number (start + suc at) (λ e. omega (arith, e, first.0)))
          (subst (λ n. filing_numbered n fs ≡ Some later.0) number later.1),
      ap (λ n. take n (f ∷ fs)) more ∙ ap (λ l. f ∷ l) later.2,
    )

-- what is written of each, one after another
pub next_written : {X : Type 0} (text : Filing → List X) (at : ℕ) (fs : List Filing) (f : Filing)
    → take (at + 1) fs ≡ take at fs ++ f ∷ [] → flat_map text (take (at + 1) fs) ≡ flat_map text (take at fs) ++ text f
next_written text at fs f next =
    ap (flat_map text) next ∙ flat_map-append text (take at fs) (f ∷ [])
    ∙ ap (λ l. flat_map text (take at fs) ++ l) (append-nil (text f))

number_found : (number : ℕ) (fs : List Filing) (f : Filing) → filing_numbered number fs ≡ Some f → f.number ≡ number
number_found number [] f is = absurd (cc is)
number_found number (x ∷ fs) f is = ⊎_elim
    (λ (here : nat_eq x.number number ≡ true).
    let found : Some x ≡ Some f = rw here at is in
    let same : x.number ≡ number = grind (arith, nat_tests, here) in
    let its : x ≡ f = cc found in subst (λ (g : Filing). g.number ≡ number) its same)
    (λ (other : nat_eq x.number number ≡ false). number_found number fs f (rw other at is))
    (cases_Bool (nat_eq x.number number))

unwanted : (form : FactForm) (wanted : Wanted) (f : FilingParts) → f.number ≤ wanted.after
    → wanted_records form wanted f ≡ []
unwanted form wanted f low =
    let behind : nat_lt wanted.after f.number ≡ false = grind (arith, nat_tests, low) in
    rw (behind, and-false (is_of wanted.filer f.filer && not (wanted.current && is_some f.replaced_by))) refl

-- a filing up to the number behind which filings are wanted has no records
pub passed_over : (form : FactForm) (wanted : Wanted) (ks : List Kept) (moments : List (Option ℕ)) (number : ℕ)
    (fs : List Filing) (f : Filing) → filing_numbered number fs ≡ Some f → number ≤ wanted.after
    → filing_records form wanted ks moments f ≡ []
passed_over form wanted ks moments number fs f is low =
    let same = number_found number fs f is in
    unwanted form wanted (whole ks moments f) (omega (arith, same, low))
