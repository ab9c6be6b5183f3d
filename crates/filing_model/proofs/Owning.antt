-- A filing replaces an earlier one, of its own filer.
use Rattle.std.proofs.Common.{◌≡◌, ℕ, zero, suc, ◌+◌, ◌<◌, Bool, true, List, [], ◌∷◌, ◌++◌, map, length, Option, Some}
use Rattle.std.proofs.Common.{None, slice_get, bytes_eq, nat_eq, refl, sym, ap, ◌∙◌, subst, ⊎_elim, arith}
use Rattle.std.specs.List.{range_with_len}
use Rattle.std.proofs.lemmas.Bool.{and_parts}
use Rattle.std.proofs.lemmas.Bool.Decides.{nat_tests}
use Rattle.std.proofs.lemmas.Option.{slice_get_within}
use Rattle.std.proofs.lemmas.Slice.Eq.{bytes_eq-Decides}
use Rattle.xbrl_report.specs.Amendment.{amendment_findings}
use Rattle.xbrl_report.specs.Pair.{Pair}
use Rattle.xbrl_report.proofs.FindingLaws.{amendment-free}
use Rattle.filing_model.specs.Laws.{ReplaceTheirOwn}
use Rattle.filing_model.specs.Numbered.{numbered}
use Rattle.filing_model.specs.Request.{Request, firsts}
use Rattle.filing_model.specs.Register.{Filing, Kept, is_filing_of, is_free, filings, verdict, outcome_by, judged}
use Rattle.filing_model.specs.Register.{kept_after, register}
use Rattle.filing_model.proofs.Keeping.{Numbered, numbered_judged, filings-append}
use Rattle.filing_model.proofs.Lists.{append_nil}
use Rattle.filing_model.proofs.Numbering.{numbered_last, numbered_grows, any_found}

-- the number of a filing is its place
number_at : (from : ℕ) (fs : List Filing) (k : ℕ) (f : Filing)
    → map (λ f. f.number) fs ≡ range_with_len from (length fs) → slice_get fs k ≡ Some f → f.number ≡ from + k
number_at from [] k f numbers h = absurd (cc)
number_at from (g ∷ fs) zero f numbers h = let first : g.number ≡ from = cc in let same : g ≡ f = cc in
    sym (ap (λ f. f.number) same) ∙ first ∙ omega arith
number_at from (g ∷ fs) (suc k) f numbers h =
    let rest : map (λ f. f.number) fs ≡ range_with_len (from + 1) (length fs) = cc in
    number_at (from + 1) fs k f rest h ∙ omega arith

-- what may replace the filing of a number has the same filer
free-own : (fs : List Filing) (filer : List ℕ) (target : Option ℕ) (n : ℕ) → Numbered fs
    → is_free fs filer target ≡ true → target ≡ Some n
    → (n < suc (length fs)) × ((replaced : Filing) × (numbered fs n ≡ Some replaced) × (replaced.request.filer ≡ filer))
free-own fs filer None n numbers free wants = absurd (cc)
free-own fs filer (Some m) n numbers free wants =
    let same : m ≡ n = cc in
    let found = any_found (is_filing_of filer m) fs (and_parts _ _ free).0 in
    let parts : (bytes_eq found.1.request.filer filer ≡ true) × (nat_eq found.1.number m ≡ true) =
    and_parts _ _ found.3 in
    let place = number_at 1 fs found.0 found.1 numbers found.2 in
    let number : found.1.number ≡ m = grind (arith, nat_tests, parts.1) in
    let next : suc found.0 ≡ n = omega (arith, place, number, same) in
    let within = slice_get_within fs found.0 found.1 found.2 in (
      omega (arith, next, within),
      (
        found.1,
        subst (λ n. numbered fs n ≡ Some found.1) next found.2,
        (bytes_eq-Decides found.1.request.filer filer).0 parts.0,
      ),
    )

-- the numbers are 1, 2, .. and what is replaced is the filer's
record AreOwned (fs : List Filing) : Type 0 where
  numbers : Numbered fs
  own : ReplaceTheirOwn fs

own_push : (fs : List Filing) (f : Filing) → Numbered fs → is_free fs f.request.filer f.request.target ≡ true
    → ReplaceTheirOwn fs → ReplaceTheirOwn (fs ++ f ∷ [])
own_push fs f numbers free own m n filing at wants = ⊎_elim
    (λ (before : numbered fs m ≡ Some filing).
    let replaced = own m n filing before wants in
    (replaced.0, (replaced.1.0, numbered_grows fs (f ∷ []) n replaced.1.0 replaced.1.1, replaced.1.2)))
    (λ (new : (m ≡ suc (length fs)) × (filing ≡ f)).
    let replaced =
    free-own fs f.request.filer f.request.target n numbers free (ap (λ f. f.request.target) (sym new.1) ∙ wants) in (
      omega (arith, replaced.0, new.0),
      (
        replaced.1.0,
        numbered_grows fs (f ∷ []) n replaced.1.0 replaced.1.1,
        replaced.1.2 ∙ ap (λ f. f.request.filer) (sym new.1),
      ),
    ))
    (numbered_last fs f m filing at)

owned_judged : (before : List Kept) (r : Request) → AreOwned (filings before)
    → ReplaceTheirOwn (filings (before ++ judged before r ∷ []))
unfolding filings verdict
owned_judged before r owned =
    rw (filings-append before (judged before r ∷ [])) (by_verdict (amendment_findings r.filer r.body free) refl)
  where
    free : Bool
    free = is_free (filings before) r.filer r.target

    by_verdict : (found : List Pair) → amendment_findings r.filer r.body free ≡ found
        → ReplaceTheirOwn (filings before ++ filings (record {
          request = r;
          outcome =
              outcome_by found (suc (length (filings before)));
        } ∷ []))
    by_verdict [] e =
        own_push (filings before) (record { number = suc (length (filings before)); request = r }) owned.numbers
        (amendment-free r.filer r.body free e) owned.own
    by_verdict (f ∷ found) e = rw (append_nil (filings before)) owned.own

owned_after : (before : List Kept) (requests : List Request) → AreOwned (filings before)
    → AreOwned (filings (kept_after before requests))
unfolding kept_after
owned_after before [] owned = owned
owned_after before (r ∷ requests) owned = owned_after (before ++ judged before r ∷ []) requests (record {
  numbers = numbered_judged before r owned.numbers;
  own = owned_judged before r owned;
})

pub register_owned : (requests : List Request) → ReplaceTheirOwn (register requests)
unfolding filings
register_owned requests =
    (owned_after [] (firsts requests) (record { numbers = refl; own = λ m n filing at wants. none m filing at })).own
  where
    none : {P : Type 0} (m : ℕ) (filing : Filing) → numbered [] m ≡ Some filing → P
    none zero filing at = absurd (cc)
    none (suc k) filing at = absurd (cc)
