-- A filing is replaced at most once.
use Rattle.std.proofs.Common.{◌≡◌, ℕ, ◌≤◌, Bool, true, false, not, List, [], ◌∷◌, ◌++◌, length, suc, Option, Some, None}
use Rattle.std.proofs.Common.{refl, sym, ap, ◌∙◌, ⊎_elim, arith}
use Rattle.std.specs.Prelude.{filter}
use Rattle.std.specs.List.{list_any}
use Rattle.std.proofs.lemmas.Bool.{cases_Bool, and_parts}
use Rattle.std.proofs.lemmas.Bool.Decides.{nat_tests}
use Rattle.std.proofs.lemmas.List.Elements.{filter-append}
use Rattle.xbrl_report.specs.Amendment.{amendment_findings}
use Rattle.xbrl_report.specs.Pair.{Pair}
use Rattle.xbrl_report.proofs.FindingLaws.{amendment-free}
use Rattle.filing_model.specs.Request.{Request, same_target, firsts}
use Rattle.filing_model.specs.Register.{Filing, Kept, is_amendment_of, is_free, filings, verdict, outcome_by, judged}
use Rattle.filing_model.specs.Register.{kept_after, register}
use Rattle.filing_model.proofs.Keeping.{filings-append}
use Rattle.filing_model.proofs.Lists.{append_nil}

-- how many of these replace the filing of that number
abbrev pub replaced : ℕ → List Filing → ℕ
replaced n fs = length (filter (is_amendment_of n) fs)

none-any : (n : ℕ) (fs : List Filing) → list_any (is_amendment_of n) fs ≡ false → filter (is_amendment_of n) fs ≡ []
none-any n [] h = refl
none-any n (f ∷ fs) h = ⊎_elim
    (λ (t : is_amendment_of n f ≡ true). let e : true ≡ false = rw t at h in absurd (cc))
    (λ (t : is_amendment_of n f ≡ false). rw t (none-any n fs (rw t at h)))
    (cases_Bool (is_amendment_of n f))

-- a filing more, which is_amendment_of one of that number only where none did before
one-more : (n : ℕ) (fs : List Filing) (f : Filing)
    → (is_amendment_of n f ≡ true → list_any (is_amendment_of n) fs ≡ false) → replaced n fs ≤ 1
    → replaced n (fs ++ f ∷ []) ≤ 1
one-more n fs f fresh few = ⊎_elim
    (λ (t : is_amendment_of n f ≡ true).
    let none = none-any n fs (fresh t) in
    let all : filter (is_amendment_of n) (fs ++ f ∷ []) ≡ f ∷ [] =
    filter-append (is_amendment_of n) fs (f ∷ []) ∙ rw (none, t) refl in
    omega (arith, ap length all))
    (λ (t : is_amendment_of n f ≡ false).
    let all : filter (is_amendment_of n) (fs ++ f ∷ []) ≡ filter (is_amendment_of n) fs =
    filter-append (is_amendment_of n) fs (f ∷ []) ∙ rw t (append_nil (filter (is_amendment_of n) fs)) in
    omega (arith, ap length all, few))
    (cases_Bool (is_amendment_of n f))

-- a request that may replace what it asks for
fresh-target : (fs : List Filing) (filer : List ℕ) (target : Option ℕ) (n : ℕ) → is_free fs filer target ≡ true
    → same_target target (Some n) ≡ true → list_any (is_amendment_of n) fs ≡ false
fresh-target fs filer None n free same = absurd (cc)
fresh-target fs filer (Some m) n free same =
    let number : m ≡ n = grind (arith, nat_tests, same) in
    let none : not (list_any (is_amendment_of m) fs) ≡ true = (and_parts _ _ free).1 in
    ap (λ k. list_any (is_amendment_of k) fs) (sym number) ∙ negated (list_any (is_amendment_of m) fs) none
  where
    negated : (b : Bool) → not b ≡ true → b ≡ false
    negated true e = absurd (cc)
    negated false e = refl

judged-once : (before : List Kept) (r : Request) (n : ℕ) → replaced n (filings before) ≤ 1
    → replaced n (filings (before ++ judged before r ∷ [])) ≤ 1
unfolding filings verdict
judged-once before r n few =
    rw (filings-append before (judged before r ∷ [])) (by_verdict (amendment_findings r.filer r.body free) refl)
  where
    free : Bool
    free = is_free (filings before) r.filer r.target

    by_verdict : (found : List Pair) → amendment_findings r.filer r.body free ≡ found
        → replaced n (filings before ++ filings (record {
          request = r;
          outcome =
              outcome_by found (suc (length (filings before)));
        } ∷ [])) ≤ 1
    by_verdict [] e =
        one-more n (filings before) (record { number = suc (length (filings before)); request = r })
        (fresh-target (filings before) r.filer r.target n (amendment-free r.filer r.body free e)) few
    by_verdict (f ∷ found) e = rw (append_nil (filings before)) few

after-once : (before : List Kept) (requests : List Request) (n : ℕ) → replaced n (filings before) ≤ 1
    → replaced n (filings (kept_after before requests)) ≤ 1
unfolding kept_after
after-once before [] n few = few
after-once before (r ∷ requests) n few =
    after-once (before ++ judged before r ∷ []) requests n (judged-once before r n few)

pub replaced_once : (requests : List Request) (n : ℕ) → replaced n (register requests) ≤ 1
unfolding filings
replaced_once requests n = after-once [] (firsts requests) n (omega arith)
