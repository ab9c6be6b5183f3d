-- The rows of a list of requests with one more.
use Rattle.std.proofs.Common.{◌≡◌, ◌<◌, ◌≤◌, ℕ, ◌+◌, suc, Bool, true, false, not, List, [], ◌∷◌, ◌++◌, append_assoc}
use Rattle.std.proofs.Common.{length, length-append, filter, refl, sym, ap, ◌∙◌, arith, ⊎_elim}
use Rattle.std.specs.List.{AllByRecursion}
use Rattle.std.proofs.lemmas.Bool.{cases_Bool}
use Rattle.std.proofs.lemmas.List.{append_cancel_left}
use Rattle.sqlite.specs.Order.{Row}
use Rattle.xbrl_report.specs.Pair.{Pair}
use Rattle.xbrl_report.specs.Judgement.{IsAmendmentJudgement}
use Rattle.xbrl_report.specs.declared.judging.Judged.{Judged}
use Rattle.xbrl_report.specs.declared.judging.Judged.TheVariants.{Valid, Refused}
use Rattle.filing_model.specs.Request.{Request, firsts, has_key, same_key}
use Rattle.filing_model.specs.Register.{Outcome, Kept, filings, verdict, outcome_by, is_free, judged, kept, register}
use Rattle.filing_model.proofs.Lists.{length-map}
use Rattle.filing_model.proofs.Firsts.{firsts-append, firsts_short, filter_short}
use Rattle.filing_model.proofs.Keeping.{kept_new, requests_of_kept, filings-append}
use Rattle.table_rows.specs.Rows.{counted_from}
use Rattle.register_rows.specs.Outcomes.{outcome_of, filings_by}
use Rattle.register_rows.specs.Register.{kept_row, joined_from}

-- as many are kept as there are firsts
pub kept_length : (F : List Request) → firsts F ≡ F → length (kept F) ≡ length F
kept_length F once = sym (length-map (λ (k : Kept). k.request) (kept F)) ∙ ap length (requests_of_kept F ∙ once)

-- what becomes of a request that was judged
pub judged_as : (before : List Kept) (r : Request) (j : Judged)
    → IsAmendmentJudgement r.filer r.body (is_free (filings before) r.filer r.target) j
    → (judged before r).outcome ≡ outcome_of (suc (length (filings before))) j
unfolding verdict
judged_as before r (Valid report) is = ap (λ found. outcome_by found (suc (length (filings before)))) is.0
judged_as before r (Refused list) is =
    sym (ap (λ found. outcome_by found (suc (length (filings before)))) is.0) ∙ refused list is.1
  where
    refused : (found : List Pair) → 0 < length found
        → outcome_by found (suc (length (filings before))) ≡ Outcome.Refused found
    refused [] some = absurd (omega arith)
    refused (f ∷ found) some = refl

-- how many filings there are then
pub registered_more : (F : List Request) (r : Request) → has_key F r ≡ false
    → length (register (F ++ r ∷ [])) ≡ length (register F) + filings_by (judged (kept F) r).outcome
unfolding filings
registered_more F r new =
    ap (λ ks. length (filings ks)) (kept_new F r new)
    ∙ ap length (filings-append (kept F) (judged (kept F) r ∷ []))
    ∙ length-append (filings (kept F)) (filings (judged (kept F) r ∷ []))
    ∙ ap (λ n. length (filings (kept F)) + n) (one r (judged (kept F) r).outcome)
  where
    one : (r : Request) (o : Outcome) → length (filings (record { request = r; outcome = o } ∷ [])) ≡ filings_by o
    one r (Outcome.Registered number) = refl
    one r (Outcome.Refused found) = refl

-- ---- rows of a list and of one behind it

pub joined_append : (rows : ℕ → Kept → List Row) (at : ℕ) (ks ms : List Kept)
    → joined_from rows at (ks ++ ms) ≡ joined_from rows at ks ++ joined_from rows (at + length ks) ms
joined_append rows at [] ms = ap (λ n. joined_from rows n ms) (omega arith)
joined_append rows at (k ∷ ks) ms =
    ap (λ l. rows at k ++ l) (joined_append rows (at + 1) ks ms
    ∙ ap (λ n. joined_from rows (at + 1) ks ++ joined_from rows n ms) (omega arith))
    ∙ sym (append_assoc (rows at k) (joined_from rows (at + 1) ks) _)

pub counted_append : (at : ℕ) (ks ms : List Kept)
    → counted_from kept_row at (ks ++ ms) ≡ counted_from kept_row at ks ++ counted_from kept_row (at + length ks) ms
counted_append at [] ms = ap (λ n. counted_from kept_row n ms) (omega arith)
counted_append at (k ∷ ks) ms =
    ap (λ l. kept_row at k ∷ l) (counted_append (at + 1) ks ms
    ∙ ap (λ n. counted_from kept_row (at + 1) ks ++ counted_from kept_row n ms) (omega arith))

pub all_at : (P : Request → Type 0) (F : List Request) (r : Request) (G : List Request) → AllByRecursion P (F ++ r ∷ G)
    → P r
all_at P [] r G all = all.0
all_at P (q ∷ F) r G all = all_at P F r G all.1

-- a request among firsts has a filer and key that none before it has
pub apart_from : (F G : List Request) (r : Request) → firsts F ≡ F → firsts (F ++ r ∷ G) ≡ F ++ r ∷ G
    → has_key F r ≡ false
unfolding firsts
apart_from F G r once all = ⊎_elim
    (λ (h : has_key F r ≡ true).
    let p : Request → Bool = λ s. not (has_key F s) in
    let later = filter (λ s. not (same_key r s)) (firsts G) in
    let both : F ++ filter p (firsts (r ∷ G)) ≡ F ++ r ∷ G =
    ap (λ l. l ++ filter p (firsts (r ∷ G))) (sym once) ∙ sym (firsts-append F (r ∷ G)) ∙ all in
    let rest : filter p (firsts (r ∷ G)) ≡ r ∷ G = append_cancel_left F _ _ both in
    let dropped : filter p later ≡ r ∷ G = rw (ap not h) at rest in
    let long = ap length dropped in
    let one = filter_short p later in
    let two = filter_short (λ s. not (same_key r s)) (firsts G) in
    let three = firsts_short G in
    absurd (omega (arith, long, one, two, three)))
    (λ (h : has_key F r ≡ false). h)
    (cases_Bool (has_key F r))

pub one_filing : (o : Outcome) → filings_by o ≤ 1
one_filing (Outcome.Registered number) = omega arith
one_filing (Outcome.Refused found) = omega arith
