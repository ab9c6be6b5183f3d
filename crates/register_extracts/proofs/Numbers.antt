-- The moment of a filing is that of the kept request which was registered under its number.
use Rattle.std.proofs.Common.{◌≡◌, ℕ, ◌+◌, ◌-◌, ◌≤◌, zero, suc, inl, inr, List, [], ◌∷◌, Option, Some, None, refl}
use Rattle.std.proofs.Common.{get_or, sym, ap, ◌∙◌, arith}
use Rattle.filing_model.specs.Register.{Outcome, Kept, filings, kept}
use Rattle.filing_model.specs.Register.Outcome.{Registered, Refused}
use Rattle.filing_model.specs.Request.{Request}
use Rattle.filing_model.proofs.Keeping.{register_numbered}
use Rattle.register_rows.specs.Register.{number_of}
use Rattle.register_rows.proofs.Filings.{CountFrom, first_counts, other_number, own_number}
use Rattle.register_store.specs.Found.{IsPlaced}
use Rattle.register_store.specs.Moments.{moment_in}
use Rattle.register_store.proofs.CatalogueLemmas.{there}
use Rattle.register_store.proofs.FindLemmas.{placed_from}
use Rattle.register_extracts.specs.Moments.{moment_of}

module _ (seq n : ℕ) (k : Kept) (number_is : number_of k.outcome ≡ Some n) where
  above : (m at : ℕ) (ks : List Kept) → CountFrom m (filings ks) → IsPlaced at seq ks k → m ≤ n
  above m at ks counts placed = let its = there [] m at seq n ks k counts placed number_is in
      omega (arith, its.number_is)

  moment_found : (m at : ℕ) (ks : List Kept) (moments : List (Option ℕ)) → CountFrom m (filings ks)
      → IsPlaced at seq ks k → moment_of ks moments n ≡ get_or moments (seq - at) None
  unfolding filings
  moment_found m at [] moments counts placed = absurd placed
  moment_found m at (x ∷ ks) [] counts placed = refl
  moment_found m at (x ∷ ks) (moment ∷ moments) counts placed =
      go x.outcome refl counts
      (λ m counts later. (moment_found m (at + 1) ks moments counts later, above m (at + 1) ks counts later)) placed
    where
      next : IsPlaced (at + 1) seq ks k
          → get_or moments (seq - (at + 1)) None ≡ get_or (moment ∷ moments) (seq - at) None
      next later =
          let low = placed_from seq (at + 1) ks k later in
          let index : suc (seq - (at + 1)) ≡ seq - at = omega (arith, low) in
          ap (λ i. get_or (moment ∷ moments) i None) index

      here_is : seq ≡ at → moment ≡ get_or (moment ∷ moments) (seq - at) None
      here_is is = let index : 0 ≡ seq - at = omega (arith, is) in ap (λ i. get_or (moment ∷ moments) i None) index

      go : (o : Outcome) → x.outcome ≡ o → CountFrom m (filings (record { request = x.request; outcome = o } ∷ ks))
          → ((m : ℕ) → CountFrom m (filings ks) → IsPlaced (at + 1) seq ks k
          → (moment_of ks moments n ≡ get_or moments (seq - (at + 1)) None) × (m ≤ n))
          → IsPlaced at seq (x ∷ ks) k
          → moment_of (record { request = x.request; outcome = o } ∷ ks) (moment ∷ moments) n
          ≡ get_or (moment ∷ moments) (seq - at) None
      go (Registered number) so counts rest (inl here) =
          let same : number ≡ n = cc (ap number_of (sym so ∙ ap (λ (y : Kept). y.outcome) (sym here.1)) ∙ number_is) in
          rw (own_number number n same) (here_is here.0)
      go (Registered number) so counts rest (inr later) =
          let first = first_counts m (record { number = number; request = x.request }) (filings ks) counts in
          let its = rest (m + 1) first.1 later in
          rw (other_number number n (λ e. omega (arith, e, first.0, its.1))) (its.0 ∙ next later)
      go (Refused findings) so counts rest (inl here) =
          absurd (let none : None ≡ Some n = ap number_of (sym so ∙ ap (λ (y : Kept). y.outcome) (sym here.1))
          ∙ number_is in
          cc none)
      go (Refused findings) so counts rest (inr later) = (rest m counts later).0 ∙ next later

-- a place counted from 1
in_list : (moments : List (Option ℕ)) (seq : ℕ) → 1 ≤ seq → get_or moments (seq - 1) None ≡ moment_in moments seq
in_list moments zero low = absurd (omega (arith, low))
in_list moments (suc index) low = let same : suc index - 1 ≡ index = omega arith in
    ap (λ i. get_or moments i None) same

pub its_moment : (F : List Request) (moments : List (Option ℕ)) (seq n : ℕ) (k : Kept) → IsPlaced 1 seq (kept F) k
    → number_of k.outcome ≡ Some n → moment_of (kept F) moments n ≡ moment_in moments seq
its_moment F moments seq n k placed number_is =
    moment_found seq n k number_is 1 1 (kept F) moments (register_numbered F) placed
    ∙ in_list moments seq (placed_from seq 1 (kept F) k placed)
