-- What an intake holds after a new request, and after a repeat.
use Rattle.std.proofs.Common.{◌≡◌, ◌⊎◌, ℕ, zero, suc, Bool, true, false, List, [], ◌∷◌, ◌++◌, take, inl, inr, Option}
use Rattle.std.proofs.Common.{Some, None, Result, Ok, Err, IfOk, IfSome, refl, sym, ap, ◌∙◌, subst, ⊎_elim}
use Rattle.std.proofs.lemmas.Bool.{cases_Bool}
use Rattle.std.proofs.lemmas.List.{take-append-le}
use Rattle.std.proofs.lemmas.List.Folds.{find-append}
use Rattle.std.specs.Prelude.{◌||◌}
use Rattle.std.specs.Result.{result_ok}
use Rattle.sqlite.specs.Store.{Ghosts}
use Rattle.filing_model.specs.Request.{Request, same_key, firsts, has_key}
use Rattle.filing_model.specs.Register.{Kept, judged, kept, Outcome}
use Rattle.filing_model.specs.Answer.{kept_for}
use Rattle.filing_model.specs.Style.{style_of}
use Rattle.filing_model.specs.declared.served.Style.TheVariants.{Problem}
use Rattle.filing_model.proofs.Firsts.{firsts_new, firsts_repeat, same_key-refl}
use Rattle.filing_model.proofs.Keeping.{kept_new, kept_none, kept_found}
use Rattle.register_store.specs.Store.{HasRequests}
use Rattle.intake_core.specs.declared.cache.Cache.{Cache}
use Rattle.intake_core.specs.declared.intake.Intake.{Intake}
use Rattle.intake_core.specs.Cache.{IsKeptIn, RemembersIfAny}
use Rattle.intake_core.specs.Held.{HoldsRequests, old_style_of, old_style_in}
use Rattle.intake_core.proofs.CacheLemmas.{IsKeptIn-more}

-- what holds of a value that was made holds of it as an option
pub IfSome-made : {X E : Type 0} (made : Result X E) (P : X → Type 0) → IfOk made P → IfSome (result_ok made) P
IfSome-made (Ok x) P h = h
IfSome-made (Err e) P h = tt

RemembersIfAny-more : (old_style old new : List Request) (c : Option Cache) → RemembersIfAny old_style old c
    → RemembersIfAny old_style (old ++ new) c
RemembersIfAny-more old_style old new None h = tt
RemembersIfAny-more old_style old new (Some c) h = λ e within filer key named. let known = h e within filer key named in
    (IsKeptIn-more old new _ known.0, known.1)

-- a filer and key of which nothing is kept are new
pub has_key-none : (requests : List Request) (r : Request) → kept_for (kept requests) r ≡ None
    → has_key requests r ≡ false
has_key-none requests r none = ⊎_elim
    (λ (h : has_key requests r ≡ true). absurd (let first = kept_found requests r h in let e : None ≡ Some first.0 =
    sym none ∙ first.1 in cc))
    (λ (h : has_key requests r ≡ false). h)
    (cases_Bool (has_key requests r))

-- what a new request is kept as
pub IsKeptIn-new : (requests : List Request) (r : Request) (o : Outcome) → has_key requests r ≡ false
    → o ≡ (judged (kept requests) r).outcome → IsKeptIn (requests ++ r ∷ []) (record { request = r; outcome = o })
IsKeptIn-new requests r o new is =
    let now : kept_for (kept (requests ++ r ∷ [])) r ≡ Some (judged (kept requests) r)
    = ap (λ ks. kept_for ks r) (kept_new requests r new)
    ∙ find-append (λ (k : Kept). same_key k.request r) (kept requests) (judged (kept requests) r ∷ [])
    ∙ rw (kept_none requests r new, same_key-refl r) refl in
    now ∙ ap (λ (t : Outcome). Some (record { request = r; outcome = t })) (sym is)

pub firsts-more : (requests : List Request) (r : Request) → firsts requests ≡ requests → has_key requests r ≡ false
    → firsts (requests ++ r ∷ []) ≡ requests ++ r ∷ []
firsts-more requests r are new = firsts_new requests r new ∙ ap (λ rs. rs ++ r ∷ []) are

-- a key that is new among them all is new among the first so many
has_key-take : (n : ℕ) (requests : List Request) (r : Request) → has_key requests r ≡ false
    → has_key (take n requests) r ≡ false
has_key-take zero requests r new = refl
has_key-take (suc n) [] r new = refl
has_key-take (suc n) (s ∷ requests) r new = by_first (same_key s r) (has_key-take n requests r) new
  where
    by_first : (b : Bool) → (has_key requests r ≡ false → has_key (take n requests) r ≡ false)
        → (b || has_key requests r) ≡ false → (b || has_key (take n requests) r) ≡ false
    by_first true more e = absurd (cc)
    by_first false more e = more e

-- a new key is answered in the new style
pub style_of-new : (n : ℕ) (requests : List Request) (r : Request) → has_key requests r ≡ false
    → style_of (take n requests) r ≡ Problem
style_of-new n requests r new = rw (has_key-take n requests r new) refl

-- what is held after several new requests
pub HoldsRequests-several : {S : Type 0} {g : Ghosts S} (requests rs : List Request) (old new : Intake S)
    → firsts (requests ++ rs) ≡ requests ++ rs → HoldsRequests g old requests → new.cache ≡ old.cache
    → old_style_of new ≡ old_style_of old → HasRequests g new.store (requests ++ rs)
    → HoldsRequests g new (requests ++ rs)
HoldsRequests-several requests rs old new are h same old_style rows = record {
  firsts' = are;
  rows = rows;
  known = subst (λ es. RemembersIfAny es (requests ++ rs) new.cache)
      (sym (ap (λ n. take n (requests ++ rs)) old_style
      ∙ take-append-le (old_style_of old) requests rs h.rows.within))
      (subst (RemembersIfAny (old_style_in old requests) (requests ++ rs)) (sym same)
      (RemembersIfAny-more (old_style_in old requests) requests rs old.cache h.known));
}

module _ {S : Type 0} {g : Ghosts S} (requests : List Request) (r : Request) where
  -- the requests that were kept in the old style stay these after another request
  pub old_style_in-after : (old new : Intake S) → old_style_of new ≡ old_style_of old → HoldsRequests g old requests
      → old_style_in new (firsts (requests ++ r ∷ [])) ≡ old_style_in old requests
  old_style_in-after old new same h =
      ap (λ n. take n (firsts (requests ++ r ∷ []))) same ∙ by_key (cases_Bool (has_key requests r))
    where
      by_key : (has_key requests r ≡ true) ⊎ (has_key requests r ≡ false)
          → take (old_style_of old) (firsts (requests ++ r ∷ [])) ≡ old_style_in old requests
      by_key (inl known) = ap (take (old_style_of old)) (firsts_repeat requests r known ∙ h.firsts')
      by_key (inr fresh) =
          ap (take (old_style_of old)) (firsts-more requests r h.firsts' fresh)
          ∙ take-append-le (old_style_of old) requests (r ∷ []) h.rows.within

  -- what is held after a new request
  pub HoldsRequests-more : (old new : Intake S) → has_key requests r ≡ false → HoldsRequests g old requests
      → new.cache ≡ old.cache → old_style_of new ≡ old_style_of old → HasRequests g new.store (requests ++ r ∷ [])
      → HoldsRequests g new (requests ++ r ∷ [])
  HoldsRequests-more old new fresh h =
      HoldsRequests-several requests (r ∷ []) old new (firsts-more requests r h.firsts' fresh) h

  -- what is held after a repeat
  pub HoldsRequests-repeat : (new : Intake S) → has_key requests r ≡ true → HoldsRequests g new requests
      → HoldsRequests g new (firsts (requests ++ r ∷ []))
  HoldsRequests-repeat new known h = subst (HoldsRequests g new) (sym (firsts_repeat requests r known ∙ h.firsts')) h

  -- what is held after a new request, in the words of a repeat
  pub HoldsRequests-new : (new : Intake S) → firsts requests ≡ requests → has_key requests r ≡ false
      → HoldsRequests g new (requests ++ r ∷ []) → HoldsRequests g new (firsts (requests ++ r ∷ []))
  HoldsRequests-new new are fresh h = subst (HoldsRequests g new) (sym (firsts-more requests r are fresh)) h

-- the register was asked, and nothing else has changed
pub HoldsRequests-asked : {S : Type 0} {g : Ghosts S} (requests : List Request) (old new : Intake S)
    → HoldsRequests g old requests → new.cache ≡ old.cache → old_style_of new ≡ old_style_of old
    → HasRequests g new.store requests → HoldsRequests g new requests
HoldsRequests-asked requests old new h same old_style rows = record {
  firsts' = h.firsts';
  rows = rows;
  known = subst (λ n. RemembersIfAny (take n requests) requests new.cache) (sym old_style)
      (subst (RemembersIfAny (old_style_in old requests) requests) (sym same) h.known);
}
