-- What HTML reads as text (HTML living standard, sections 13.1.4 and 13.2.5), between tags and in a quoted value. It
-- takes out no tag if there is no `<`, ends no value if there is no quote, and takes only `&` as the beginning of
-- a reference. Before that it makes LF of CR.
use Rattle.std.specs.Prelude.{◌≡◌, ℕ, ◌==◌, ◌||◌, Bool, false, List, [], ◌∷◌, ◌++◌, codes}

-- the five characters that markup is made of: `<`, `>`, `&` and the two quotes
abbrev pub is_markup : ℕ → Bool
is_markup b = (b == 60) || ((b == 62) || ((b == 38) || ((b == 34) || (b == 39))))

-- which character a reference stands for
pub data Refers : List ℕ → ℕ → Type 0 where
  less : Refers (codes "&lt;") 60
  greater : Refers (codes "&gt;") 62
  ampersand : Refers (codes "&amp;") 38
  quotation : Refers (codes "&quot;") 34
  apostrophe : Refers (codes "&#39;") 39

-- HTML reads this text from what is written, in which the five characters come in references alone
pub data Reads : List ℕ → List ℕ → Type 0 where
  nothing : Reads [] []
  reference : {name rest text : List ℕ} {b : ℕ} → Refers name b → Reads rest text → Reads (name ++ rest) (b ∷ text)
  character : {rest text : List ℕ} (b : ℕ) → is_markup b ≡ false → Reads rest text → Reads (b ∷ rest) (b ∷ text)

-- what is added to this HTML reads as this text
abbrev pub AddsText : List ℕ → List ℕ → List ℕ → Type 0
AddsText text old new = (written : List ℕ) × Reads written text × (new ≡ old ++ written)
