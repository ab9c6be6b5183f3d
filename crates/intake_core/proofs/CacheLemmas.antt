-- What a cache remembers under a name is kept for one filer's key alone, and gives the answer to a repeat.
use Rattle.std.proofs.Common.{◌≡◌, ◌⊎◌, ℕ, Bool, true, false, List, [], ◌∷◌, Some, ◌++◌, Result, Ok, Err}
use Rattle.std.proofs.Common.{IsTrue, IfOk, IfSome, OnOk, OnErr, refl, sym, ap, ◌∙◌, subst, inl, inr, Contains, String}
use Rattle.std.proofs.Common.{string_bytes, string_eq}
use Rattle.std.proofs.lemmas.Bool.{false≢true}
use Rattle.std.proofs.lemmas.List.Elements.{All-head, All-tail}
use Rattle.std.proofs.lemmas.Slice.Eq.{bytes_eq-Decides}
use Rattle.std.specs.declared.alloc.Global.{Global}
use Rattle.std.specs.Result.{result_ok}
use Rattle.key_string.specs.Key.{is_printable, IsPrintable}
use Rattle.filing_model.specs.Request.{Request, same_content, has_key}
use Rattle.filing_model.specs.Register.{Kept}
use Rattle.filing_model.specs.Answer.{KeyReused, answer_by, answer_from}
use Rattle.filing_model.specs.Style.{style_of, HasStyle}
use Rattle.filing_model.specs.declared.served.Style.{Style}
use Rattle.filing_model.specs.declared.answer.Answer.{Answer as Given}
use Rattle.filing_model.specs.Views.{view_answer}
use Rattle.filing_model.proofs.Answers.{answer_kept, kept_for_grows}
use Rattle.filing_model.proofs.Keeping.{kept_has_key}
use Rattle.lru.specs.LruCache.{LruCache, lru_cache, promoted, put_entries}
use Rattle.lru.proofs.CallerLemmas.{Contains-promoted, Contains-put_entries}
use Rattle.intake_core.specs.declared.cache.Remembered.{Remembered}
use Rattle.intake_core.specs.Answered.{IsAnswerTo}
use Rattle.intake_core.specs.Cache.{IsNameOf, kept_of, IsKeptIn, IsKnownIn, AreKnownIn}

abbrev Printable : ℕ → Type 0
Printable c = IsTrue (is_printable c)

-- the line feed ends the key
same_parts : (key other filer other_filer : List ℕ) → IsPrintable key → IsPrintable other
    → key ++ 10 ∷ filer ≡ other ++ 10 ∷ other_filer → (filer ≡ other_filer) × (key ≡ other)
same_parts [] [] filer other_filer p q e = (cc, refl)
same_parts [] (d ∷ other) filer other_filer p q e = let first : 10 ≡ d = cc in
    absurd (false≢true (subst Printable (sym first) (All-head Printable d other q)))
same_parts (c ∷ key) [] filer other_filer p q e = let first : c ≡ 10 = cc in
    absurd (false≢true (subst Printable first (All-head Printable c key p)))
same_parts (c ∷ key) (d ∷ other) filer other_filer p q e =
    let rest : key ++ 10 ∷ filer ≡ other ++ 10 ∷ other_filer = cc in
    let same =
    same_parts key other filer other_filer (All-tail Printable c key p) (All-tail Printable d other q) rest in
    let first : c ≡ d = cc in
    (same.0, ap (λ t. c ∷ t) same.1 ∙ ap (λ d. d ∷ other) first)

-- what is known of one filer's key is known of its name, since no other has that name
pub IsKnownIn-named : (old_style requests : List Request) (filer key name : List ℕ) (r : Remembered)
    → IsNameOf filer key name → IsKeptIn requests (kept_of filer key r)
    → r.style ≡ style_of old_style (kept_of filer key r).request
    → IsKnownIn old_style requests name r
IsKnownIn-named old_style requests filer key name r named is styled = λ f k other.
    let same = same_parts key k filer f named.key'.printable other.key'.printable (sym named.joined ∙ other.joined) in
    subst (λ (f : List ℕ). IsKeptIn requests (kept_of f k r)
    × (r.style ≡ style_of old_style (kept_of f k r).request)) same.0
    (subst (λ (k : List ℕ). IsKeptIn requests (kept_of filer k r)
    × (r.style ≡ style_of old_style (kept_of filer k r).request)) same.1 (is, styled))

-- an answer that was made from what is known is the answer to a request of this filer's key, which is a repeat
pub if_some-known : {E : Type 0} (old_style requests : List Request) (asked : Request) (r : Remembered)
    (result : Result Given E) → IsKeptIn requests (kept_of asked.filer asked.key r)
    × (r.style ≡ style_of old_style (kept_of asked.filer asked.key r).request)
    → IfOk result (λ a. (view_answer a ≡ answer_from (Some (kept_of asked.filer asked.key r)) asked true)
    × HasStyle r.style a)
    → IfSome (result_ok result) (λ a. IsAnswerTo old_style requests asked a × (has_key requests asked ≡ true))
if_some-known old_style requests asked r (Ok a) known told =
    let k = kept_of asked.filer asked.key r in (
      (told.0 ∙ sym (answer_kept requests asked k known.0), subst (λ (s : Style). HasStyle s a) known.1 told.1),
      kept_has_key requests asked k known.0,
    )
if_some-known old_style requests asked r (Err e) known told = tt

-- a request that asks for the same is answered by what was kept
pub told_same : (k : Kept) (r : Request) (repeat : Bool) → same_content k.request r ≡ true
    → answer_by k.outcome repeat ≡ answer_from (Some k) r repeat
told_same k r repeat same = rw same refl

-- and another one by the fault that its key was used
pub told_other : (k : Kept) (r : Request) (repeat : Bool) → same_content k.request r ≡ false
    → KeyReused ≡ answer_from (Some k) r repeat
told_other k r repeat other = rw other refl

-- what is kept stays so
pub IsKeptIn-more : (old new : List Request) (k : Kept) → IsKeptIn old k → IsKeptIn (old ++ new) k
IsKeptIn-more old new k is = kept_for_grows old new k.request k is

-- entries are known with one more that is known
pub AreKnownIn-put : {X E : Type 0} (old_style requests : List Request) (s t : LruCache (String Global) Remembered)
    (name : String Global) (v : Remembered) (r : Result X E)
    → OnOk r (t ≡ lru_cache (put_entries string_eq s name v) s.cap) → OnErr r (t ≡ s)
    → AreKnownIn old_style requests s.entries → IsKnownIn old_style requests (string_bytes name) v
    → AreKnownIn old_style requests t.entries
AreKnownIn-put old_style requests s t name v (Ok x) put same h new =
    λ e within. elim (Contains-put_entries string_eq s name v e
    (subst (λ (c : LruCache (String Global) Remembered). Contains c.entries e) put within)) [
      | inl was ↦ h e was
      | inr is ↦ subst (λ (w : Remembered). IsKnownIn old_style requests (string_bytes e.0) w) (sym is.0)
          (subst (λ (n : List ℕ). IsKnownIn old_style requests n v) (sym (under is.1)) new)
    ]
  where
    under : {e : String Global}
        → (e ≡ name) ⊎ ((w : Remembered) × Contains s.entries (e, w) × (string_eq name e ≡ true))
        → string_bytes e ≡ string_bytes name
    under (inl same) = ap string_bytes same
    under (inr equal) = sym ((bytes_eq-Decides _ _).0 equal.2)
AreKnownIn-put old_style requests s t name v (Err x) put same h new =
    λ e within. h e (subst (λ (c : LruCache (String Global) Remembered). Contains c.entries e) same within)

-- known entries stay known once one of them was used last
pub AreKnownIn-promoted : (test : String Global
    → Bool) (old_style requests : List Request) (s t : LruCache (String Global) Remembered)
    → t ≡ lru_cache (promoted test s.entries) s.cap → AreKnownIn old_style requests s.entries
    → AreKnownIn old_style requests t.entries
AreKnownIn-promoted test old_style requests s t is h =
    λ e within. h e (Contains-promoted test s.entries e
    (subst (λ (c : LruCache (String Global) Remembered). Contains c.entries e) is within))
