-- A filing more, where one is registered.
use Rattle.std.proofs.Common.{◌≡◌, ℕ, suc, true, List, [], ◌∷◌, ◌++◌, length, refl, sym, ap, subst, ◌∙◌}
use Rattle.xbrl_report.specs.Amendment.{amendment_findings}
use Rattle.xbrl_report.specs.Pair.{Pair}
use Rattle.xbrl_report.proofs.FindingLaws.{amendment-free}
use Rattle.filing_model.specs.Request.{Request, firsts}
use Rattle.filing_model.specs.Register.{Outcome, Kept, filings, verdict, outcome_by, is_free, judged, kept_after}
use Rattle.filing_model.specs.Register.{register}
use Rattle.filing_model.proofs.Keeping.{filings-append}
use Rattle.filing_model.proofs.Lists.{append_nil}
use Rattle.register_rows.proofs.Filings.{AreInOrder, in_order_more, next_filing}

-- nothing was found in what is registered, and it has the next number
pub none_found : (n m : ℕ) (found : List Pair) → outcome_by found m ≡ Outcome.Registered n → (found ≡ []) × (n ≡ m)
none_found n m [] e = (refl, cc e)
none_found n m (f ∷ found) e = absurd (cc e)

module _ (before : List Kept) (r : Request) where
  -- what is registered was free to replace what it replaces
  pub registered_free : (n : ℕ) → (judged before r).outcome ≡ Outcome.Registered n
      → is_free (filings before) r.filer r.target ≡ true
  unfolding verdict
  registered_free n is =
      let free = is_free (filings before) r.filer r.target in
      amendment-free r.filer r.body free (none_found n (suc (length (filings before)))
      (amendment_findings r.filer r.body free) is).0

  pub registered_next : (n : ℕ) → (judged before r).outcome ≡ Outcome.Registered n → n ≡ suc (length (filings before))
  unfolding verdict
  registered_next n is =
      let free = is_free (filings before) r.filer r.target in
      (none_found n (suc (length (filings before))) (amendment_findings r.filer r.body free) is).1

  pub filing_more : (n : ℕ) → (judged before r).outcome ≡ Outcome.Registered n
      → filings (before ++ judged before r ∷ []) ≡ filings before ++ next_filing (filings before) r ∷ []
  unfolding filings
  filing_more n is =
      filings-append before (judged before r ∷ [])
      ∙ ap (λ o. filings before ++ filings (record { request = r; outcome = o } ∷ [])) is
      ∙ ap (λ m. filings before ++ record { number = m; request = r } ∷ []) (registered_next n is)

  pub filing_no_more : (found : List Pair) → (judged before r).outcome ≡ Outcome.Refused found
      → filings (before ++ judged before r ∷ []) ≡ filings before
  unfolding filings
  filing_no_more found is =
      filings-append before (judged before r ∷ [])
      ∙ ap (λ o. filings before ++ filings (record { request = r; outcome = o } ∷ [])) is ∙ append_nil (filings before)

  -- the filings stay in the order of their numbers
  pub in_order_judged : AreInOrder (filings before) → AreInOrder (filings (before ++ judged before r ∷ []))
  in_order_judged held = go (judged before r).outcome refl
    where
      go : (o : Outcome) → (judged before r).outcome ≡ o → AreInOrder (filings (before ++ judged before r ∷ []))
      go (Outcome.Registered n) is =
          subst AreInOrder (sym (filing_more n is)) (in_order_more (filings before) r held (registered_free n is))
      go (Outcome.Refused found) is = subst AreInOrder (sym (filing_no_more found is)) held

in_order_after : (before : List Kept) (requests : List Request) → AreInOrder (filings before)
    → AreInOrder (filings (kept_after before requests))
unfolding kept_after
in_order_after before [] held = held
in_order_after before (r ∷ requests) held =
    in_order_after (before ++ judged before r ∷ []) requests (in_order_judged before r held)

-- the filings of a register are in the order of their numbers
pub in_order : (F : List Request) → AreInOrder (register F)
unfolding filings
in_order F = in_order_after [] (firsts F) (record { numbered = refl; reach = tt })
