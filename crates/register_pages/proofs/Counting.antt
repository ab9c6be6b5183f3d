-- The filings and the refused reports among kept requests, one after another.
use Rattle.std.proofs.Common.{◌≡◌, ℕ, ◌+◌, ◌<◌, Bool, true, false, List, [], ◌∷◌, ◌++◌, cond, length, get_or, take}
use Rattle.std.proofs.Common.{sym, ap, ◌∙◌, append-nil}
use Rattle.std.specs.List.{count_by}
use Rattle.std.specs.Prelude.{filter, not}
use Rattle.std.proofs.lemmas.List.{map-append}
use Rattle.std.proofs.lemmas.List.Elements.{filter_more}
use Rattle.std.proofs.lemmas.List.Sums.{count_by_more_no, count_by_more_yes}
use Rattle.filing_model.specs.Register.{Kept}
use Rattle.register_pages.specs.Own.{GainsOne, places_of}
use Rattle.register_pages.specs.Pages.{is_filed, is_refused}
use Rattle.register_pages.proofs.OwnReads.{no_request}

module _ (sent : List (ℕ × Kept)) (i : ℕ) (low : i < length sent) where
  -- the places with the request at this index
  refused_more : places_of (filter is_refused (take (i + 1) sent))
      ≡ places_of (filter is_refused (take i sent))
      ++ places_of (cond (is_refused (get_or sent i no_request)) (get_or sent i no_request ∷ []) [])
  refused_more =
      ap places_of (filter_more is_refused sent i no_request low)
      ∙ map-append (λ (p : ℕ × Kept). p.0) (filter is_refused (take i sent))
      (cond (is_refused (get_or sent i no_request)) (get_or sent i no_request ∷ []) [])

  -- one request more
  pub one_more : {so : Bool} {place : ℕ} → so ≡ is_filed (get_or sent i no_request)
      → place ≡ (get_or sent i no_request).0 → {f f' : ℕ} {r r' : List ℕ}
      → f ≡ count_by is_filed (take i sent) → r ≡ places_of (filter is_refused (take i sent))
      → GainsOne so place f f' r r'
      → (f' ≡ count_by is_filed (take (i + 1) sent)) × (r' ≡ places_of (filter is_refused (take (i + 1) sent)))
  one_more {so} {place} told at {f} {f'} {r} {r'} filed refused gains = by_outcome so told gains
    where
      by_outcome : (so : Bool) → so ≡ is_filed (get_or sent i no_request) → GainsOne so place f f' r r'
          → (f' ≡ count_by is_filed (take (i + 1) sent)) × (r' ≡ places_of (filter is_refused (take (i + 1) sent)))
      by_outcome true told gains = (
        gains.0 ∙ ap (λ n. n + 1) filed ∙ sym (count_by_more_yes is_filed sent i no_request low (sym told)),
        gains.1 ∙ refused ∙ sym (append-nil _)
            ∙ sym (refused_more ∙ ap (λ b. places_of (filter is_refused (take i sent))
            ++ places_of (cond b (get_or sent i no_request ∷ []) [])) (ap not (sym told))),
      )
      by_outcome false told gains = (
        gains.0 ∙ filed ∙ sym (count_by_more_no is_filed sent i no_request low (sym told)),
        gains.1 ∙ ap (λ l. l ++ place ∷ []) refused
            ∙ ap (λ p. places_of (filter is_refused (take i sent)) ++ p ∷ []) at
            ∙ sym (refused_more ∙ ap (λ b. places_of (filter is_refused (take i sent))
            ++ places_of (cond b (get_or sent i no_request ∷ []) [])) (ap not (sym told))),
      )
