-- What the digest of a register tells of its requests.
use Rattle.std.proofs.Common.{◌≡◌, ◌⊎◌, inl, inr, ⊎_elim, ℕ, zero, suc, ◌+◌, ◌≤◌, ◌<◌, ◌^◌, List, [], ◌∷◌, ◌++◌}
use Rattle.std.proofs.Common.{length, map, take, Option, Some, None, refl, sym, ap, subst, ◌∙◌, arith}
use Rattle.std.specs.List.{AllByRecursion}
use Rattle.std.proofs.lemmas.List.{length-append, length-map, take-map}
use Rattle.http_messages.specs.Posting.{IsTarget}
use Rattle.xbrl_report.specs.Pair.{Pair}
use Rattle.filing_model.specs.Request.{Request, firsts}
use Rattle.filing_model.specs.Register.{Kept, Outcome, filings, judged, kept, kept_after, outcome_by, verdict}
use Rattle.filing_model.specs.Register.Outcome.{Registered, Refused}
use Rattle.filing_model.proofs.Keeping.{all_push, requests_of_kept}
use Rattle.register_rows.specs.Register.{IsCompleted, number_of}
use Rattle.register_extracts.specs.Digest.{Row, digest_until, row_of, rows_of, rows_with}
use Rattle.register_extracts.specs.Laws.{Collide, FitsIfAny, IsRegister, IsSound, hashed}
use Rattle.register_extracts.proofs.Whole.{told}

-- ---- each row is sound

filings_short : (ks : List Kept) → length (filings ks) ≤ length ks
unfolding filings
filings_short [] = omega arith
filings_short (k ∷ ks) = by_outcome k.outcome (filings_short ks)
  where
    by_outcome : (o : Outcome) → length (filings ks) ≤ length ks
        → length (filings (record { request = k.request; outcome = o } ∷ ks)) ≤ suc (length ks)
    by_outcome (Registered number) h = omega arith
    by_outcome (Refused found) h = omega arith

target_fits : (target : Option ℕ) → IsTarget target → FitsIfAny target
target_fits None is = tt
target_fits (Some n) is = omega (arith, is.1)

number_fits : (found : List Pair) (next : ℕ) → next < 2 ^ 64 → FitsIfAny (number_of (outcome_by found next))
number_fits [] next low = low
number_fits (f ∷ found) next low = tt

-- with any moment that fits
abbrev IsSoundKept : Kept → Type 0
IsSoundKept k = (moment : Option ℕ) → FitsIfAny moment → IsSound (row_of k moment)

judged_sound : (before : List Kept) (r : Request) → IsCompleted r → length before < 2 ^ 63
    → IsSoundKept (judged before r)
judged_sound before r is low moment fits = record {
  filer = is.filer;
  key = is.key;
  target = target_fits r.target is.target;
  number = number_fits (verdict (filings before) r) _ (omega (arith, low, filings_short before));
  moment = fits;
}

sound_after : (before : List Kept) (requests : List Request) → AllByRecursion IsSoundKept before
    → AllByRecursion IsCompleted requests → length before + length requests < 2 ^ 63
    → AllByRecursion IsSoundKept (kept_after before requests)
unfolding kept_after
sound_after before [] sound all low = sound
sound_after before (r ∷ requests) sound all low =
    let long = length-append before (judged before r ∷ []) in
    sound_after (before ++ judged before r ∷ []) requests
    (all_push IsSoundKept before (judged before r) sound (judged_sound before r all.0 (omega (arith, low))))
    all.1 (omega (arith, low, long))

sound_with : (ks : List Kept) (moments : List (Option ℕ)) → AllByRecursion IsSoundKept ks
    → AllByRecursion FitsIfAny moments → AllByRecursion IsSound (rows_with ks moments)
sound_with [] moments sound fits = tt
sound_with (k ∷ ks) [] sound fits = tt
sound_with (k ∷ ks) (moment ∷ moments) sound fits =
    (sound.0 moment fits.0, sound_with ks moments sound.1 fits.1)

rows_sound : (F : List Request) (moments : List (Option ℕ)) → IsRegister F moments
    → AllByRecursion IsSound (rows_of F moments)
rows_sound F moments h =
    sound_with (kept F) moments
    (subst (λ requests. AllByRecursion IsSoundKept (kept_after [] requests)) (sym h.distinct)
    (sound_after [] F tt h.completed (omega (arith, h.few)))) h.within

first_sound : (count : ℕ) (rows : List Row) → AllByRecursion IsSound rows → AllByRecursion IsSound (take count rows)
first_sound zero rows all = tt
first_sound (suc count) [] all = tt
first_sound (suc count) (r ∷ rows) all = (all.0, first_sound count rows all.1)

-- ---- so many of them

requests_of_rows : (ks : List Kept) (moments : List (Option ℕ)) → length moments ≡ length ks
    → map (λ (r : Row). r.request) (rows_with ks moments) ≡ map (λ (k : Kept). k.request) ks
requests_of_rows [] moments same = refl
requests_of_rows (k ∷ ks) [] same = absurd (omega (arith, same))
requests_of_rows (k ∷ ks) (moment ∷ moments) same =
    ap (λ l. k.request ∷ l) (requests_of_rows ks moments (omega (arith, same)))

moments_of_rows : (ks : List Kept) (moments : List (Option ℕ)) → length moments ≡ length ks
    → map (λ (r : Row). r.moment) (rows_with ks moments) ≡ moments
moments_of_rows [] [] same = refl
moments_of_rows [] (moment ∷ moments) same = absurd (omega (arith, same))
moments_of_rows (k ∷ ks) [] same = absurd (omega (arith, same))
moments_of_rows (k ∷ ks) (moment ∷ moments) same =
    ap (λ l. moment ∷ l) (moments_of_rows ks moments (omega (arith, same)))

pub length-kept : (F : List Request) → firsts F ≡ F → length (kept F) ≡ length F
length-kept F distinct =
    sym (length-map (kept F) (λ (k : Kept). k.request)) ∙ ap length (requests_of_kept F ∙ distinct)

rows_few : (ks : List Kept) (moments : List (Option ℕ)) → length (rows_with ks moments) ≤ length ks
rows_few [] moments = omega arith
rows_few (k ∷ ks) [] = omega arith
rows_few (k ∷ ks) (moment ∷ moments) = let rest = rows_few ks moments in omega (arith, rest)

shorter : (count : ℕ) (rows : List Row) → length (take count rows) ≤ length rows
shorter zero rows = omega arith
shorter (suc count) [] = omega arith
shorter (suc count) (r ∷ rows) = let rest = shorter count rows in omega (arith, rest)

module _ (count : ℕ) (F : List Request) (moments : List (Option ℕ)) (h : IsRegister F moments) where
  one_each_kept : length moments ≡ length (kept F)
  one_each_kept = h.one_each ∙ sym (length-kept F h.distinct)

  first_few : length (take count (rows_of F moments)) < 2 ^ 63
  first_few =
      omega (
        arith,
        shorter count (rows_of F moments),
        rows_few (kept F) moments,
        length-kept F h.distinct,
        h.few,
      )

  requests_of_first : map (λ (r : Row). r.request) (take count (rows_of F moments)) ≡ take count F
  requests_of_first =
      sym (take-map (λ (r : Row). r.request) count (rows_of F moments))
      ∙ ap (take count) (requests_of_rows (kept F) moments one_each_kept ∙ requests_of_kept F ∙ h.distinct)

  moments_of_first : map (λ (r : Row). r.moment) (take count (rows_of F moments)) ≡ take count moments
  moments_of_first =
      sym (take-map (λ (r : Row). r.moment) count (rows_of F moments))
      ∙ ap (take count) (moments_of_rows (kept F) moments one_each_kept)

pub told_requests : (count : ℕ) (F G : List Request) (moments others : List (Option ℕ)) → IsRegister F moments
    → IsRegister G others → digest_until count F moments ≡ digest_until count G others
    → ((take count F ≡ take count G) × (take count moments ≡ take count others))
    ⊎ Collide (hashed (take count (rows_of F moments))) (hashed (take count (rows_of G others)))
told_requests count F G moments others h k e =
    ⊎_elim
    (λ same. inl (
      sym (requests_of_first count F moments h) ∙ ap (map (λ (r : Row). r.request)) same
          ∙ requests_of_first count G others k,
      sym (moments_of_first count F moments h) ∙ ap (map (λ (r : Row). r.moment)) same
          ∙ moments_of_first count G others k,
    ))
    (λ broken. inr broken)
    (told (take count (rows_of F moments)) (take count (rows_of G others))
    (first_sound count (rows_of F moments) (rows_sound F moments h))
    (first_sound count (rows_of G others) (rows_sound G others k)) (first_few count F moments h)
    (first_few count G others k) e)
