-- What a cache of answers remembers.
use Rattle.std.specs.Prelude.{◌≡◌, ℕ, ◌∷◌, ◌++◌, List, Option, Some, Contains, IfSome, String, string_bytes}
use Rattle.std.specs.declared.alloc.Global.{Global}
use Rattle.key_string.specs.Key.{IsKey}
use Rattle.filing_model.specs.Request.{Request}
use Rattle.filing_model.specs.Register.{Kept, kept}
use Rattle.filing_model.specs.Answer.{kept_for}
use Rattle.filing_model.specs.Style.{style_of}
use Rattle.filing_model.specs.Views.{the_request, view_outcome}
use Rattle.intake_core.specs.declared.cache.Cache.{Cache}
use Rattle.intake_core.specs.declared.cache.Remembered.{Remembered}

-- The name of a filer's key: the key, a line feed, which no key has, and the filer.
pub record IsNameOf (filer key name : List ℕ) : Type 0 where
  pub key' : IsKey key
  pub joined : name ≡ key ++ 10 ∷ filer

-- a name that may be there is that of the request's filer and key
abbrev pub IsNameIfAny : Request → Option (String Global) → Type 0
IsNameIfAny r name = IfSome name (λ text. IsNameOf r.filer r.key (string_bytes text))

-- a request of this filer and key with its outcome
abbrev pub kept_of : List ℕ → List ℕ → Remembered → Kept
kept_of filer key r = record { request = the_request filer key r.target r.body.items; outcome = view_outcome r.outcome }

-- after these requests it is what is kept for its filer and key
abbrev pub IsKeptIn : List Request → Kept → Type 0
IsKeptIn requests k = kept_for (kept requests) k.request ≡ Some k

-- It is what is kept after these requests for the filer's key of this name, with its style; the old-style requests were
-- kept before there were problem details.
abbrev pub IsKnownIn : List Request → List Request → List ℕ → Remembered → Type 0
IsKnownIn old_style requests name r =
    (filer key : List ℕ) → IsNameOf filer key name
    → IsKeptIn requests (kept_of filer key r) × (r.style ≡ style_of old_style (kept_of filer key r).request)

-- each of the entries is known so, for the name that it stands under
abbrev pub AreKnownIn : List Request → List Request → List (String Global × Remembered) → Type 0
AreKnownIn old_style requests es = (e : String Global × Remembered) → Contains es e
    → IsKnownIn old_style requests (string_bytes e.0) e.1

-- what a cache remembers is known
abbrev pub Remembers : List Request → List Request → Cache → Type 0
Remembers old_style requests c = AreKnownIn old_style requests c.answers.entries

-- what a cache remembers is known, if there is a cache
abbrev pub RemembersIfAny : List Request → List Request → Option Cache → Type 0
RemembersIfAny old_style requests cache = IfSome cache (Remembers old_style requests)
