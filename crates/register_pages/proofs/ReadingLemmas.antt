-- Texts one after another.
use Rattle.std.proofs.Common.{◌≡◌, ℕ, false, List, [], ◌∷◌, ◌++◌, sym, ap, subst, append_assoc, ◌∙◌}
use Rattle.std.proofs.lemmas.List.{append-nil}
use Rattle.register_pages.specs.Reading.{AddsText, Reads, Refers, is_markup, nothing, reference, character}

-- what is written of two texts, one after another, reads as both
pub reads-append : (a b s t : List ℕ) → Reads a s → Reads b t → Reads (a ++ b) (s ++ t)
reads-append a b s t nothing later = later
reads-append a b s t (reference {name = name} {rest = rest} {text = text} {b = c} is more) later =
    subst (λ w. Reads w (c ∷ (text ++ t))) (sym (append_assoc name rest b))
    (reference is (reads-append rest b text t more later))
reads-append a b s t (character {rest = rest} {text = text} c plain more) later =
    character c plain (reads-append rest b text t more later)

-- a reference alone
pub reads_reference : (name : List ℕ) (b : ℕ) → Refers name b → Reads name (b ∷ [])
reads_reference name b is = subst (λ w. Reads w (b ∷ [])) (append-nil name) (reference is nothing)

-- a character alone
pub reads_character : (b : ℕ) → is_markup b ≡ false → Reads (b ∷ []) (b ∷ [])
reads_character b plain = character b plain nothing

-- nothing was added yet
pub adds_none : (old : List ℕ) → AddsText [] old old
adds_none old = ([], nothing, sym (append-nil old))

-- one text is added, and then another
pub adds_more : (s t old mid new : List ℕ) → AddsText s old mid → AddsText t mid new → AddsText (s ++ t) old new
adds_more s t old mid new a b =
    (a.0 ++ b.0, reads-append a.0 b.0 s t a.1 b.1, b.2 ∙ ap (λ l. l ++ b.0) a.2 ∙ append_assoc old a.0 b.0)
