-- The register has the valid ones among the first requests.
use Rattle.std.proofs.Common.{◌≡◌, true, false, List, [], ◌∷◌, ◌++◌, map, length, suc, refl, sym, ap, ◌∙◌, append_assoc}
use Rattle.std.proofs.Common.{⊎_elim}
use Rattle.std.specs.Prelude.{if◌then◌else◌}
use Rattle.std.proofs.lemmas.Bool.{cases_Bool}
use Rattle.std.proofs.lemmas.List.{map-append}
use Rattle.xbrl_report.specs.Pair.{Pair}
use Rattle.filing_model.specs.Request.{Request, has_key, firsts}
use Rattle.filing_model.specs.Register.{Filing, Kept, filings, verdict, outcome_by, judged, kept_after, kept, register}
use Rattle.filing_model.specs.Laws.{is_nothing, is_valid_first, valid_firsts}
use Rattle.filing_model.proofs.Keeping.{filings-append, kept_new, register_repeat}
use Rattle.filing_model.proofs.Lists.{append_nil}

-- the requests of filings
abbrev requests_in : List Filing → List Request
requests_in fs = map (λ f. f.request) fs

-- a judged request is registered where nothing is found in it
valid_judged : (before : List Kept) (r : Request)
    → requests_in (filings (judged before r ∷ [])) ≡ (if is_nothing (verdict (filings before) r) then r ∷ [] else [])
unfolding filings
valid_judged before r = by_verdict (verdict (filings before) r)
  where
    by_verdict : (found : List Pair)
        → requests_in (filings (record {
          request = r;
          outcome =
              outcome_by found (suc (length (filings before)));
        } ∷ [])) ≡ (if is_nothing found then r ∷ [] else [])
    by_verdict [] = refl
    by_verdict (f ∷ found) = refl

-- one more request
valid_one : (before : List Request) (r : Request)
    → requests_in (register (before ++ r ∷ [])) ≡ requests_in (register before)
    ++ (if is_valid_first before r then r ∷ [] else [])
valid_one before r = ⊎_elim
    (λ (h : has_key before r ≡ true). rw h (ap requests_in (register_repeat before r h)
    ∙ sym (append_nil (requests_in (register before)))))
    (λ (h : has_key before r ≡ false).
    rw h (
    ap (λ ks. requests_in (filings ks)) (kept_new before r h)
    ∙ ap requests_in (filings-append (kept before) (judged (kept before) r ∷ []))
    ∙ map-append (λ (f : Filing). f.request) (register before) (filings (judged (kept before) r ∷ []))
    ∙ ap (λ rs. requests_in (register before) ++ rs) (valid_judged (kept before) r)
    ))
    (cases_Bool (has_key before r))

valid_from : (before requests : List Request)
    → requests_in (register (before ++ requests)) ≡ requests_in (register before) ++ valid_firsts before requests
unfolding valid_firsts
valid_from before [] =
    ap (λ rs. requests_in (register rs)) (append_nil before) ∙ sym (append_nil (requests_in (register before)))
valid_from before (r ∷ requests) =
    ap (λ rs. requests_in (register rs)) (sym (append_assoc before (r ∷ []) requests))
    ∙ valid_from (before ++ r ∷ []) requests
    ∙ ap (λ rs. rs ++ valid_firsts (before ++ r ∷ []) requests) (valid_one before r)
    ∙ append_assoc (requests_in (register before)) (if is_valid_first before r then r ∷ []
    else []) (valid_firsts (before ++ r ∷ []) requests)

pub register_valid : (requests : List Request) → map (λ f. f.request) (register requests) ≡ valid_firsts [] requests
unfolding filings kept_after firsts
register_valid requests = valid_from [] requests
