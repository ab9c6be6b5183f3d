-- Texts with symbols for their control characters.
use Rattle.std.proofs.Common.{◌≡◌, ℕ, ◌+◌, Bool, true, false, List, [], ◌∷◌, ◌++◌, cond, refl, ap}
use Rattle.std.proofs.Common.{◌∙◌, arith, ⊎_elim}
use Rattle.std.specs.Prelude.{◌==◌}
use Rattle.std.proofs.lemmas.Bool.{cases_Bool}
use Rattle.std.proofs.lemmas.Bool.Decides.{nat_tests}
use Rattle.register_pages.specs.Reading.{Reads, character, is_markup, nothing}
use Rattle.std.proofs.lemmas.Grind.{flat_map-append}
use Rattle.std.proofs.lemmas.List.{append-nil}
use Rattle.register_pages.specs.Short.{ellipsis}
use Rattle.register_pages.specs.Visible.{is_control, symbol, visible, visible_byte}

pub shown_as_symbol : (b : ℕ) → is_control b ≡ true → visible_byte b ≡ symbol b
shown_as_symbol b is = ap (λ t. cond t (symbol b) (b ∷ [])) is

pub shown_as_it_is : (b : ℕ) → is_control b ≡ false → visible_byte b ≡ b ∷ []
shown_as_it_is b is = ap (λ t. cond t (symbol b) (b ∷ [])) is

-- no part of a symbol is markup
not_markup : (b : ℕ) → is_markup (cond (b == 127) 161 (b + 128)) ≡ false
not_markup b =
    ⊎_elim (λ (t : (b == 127) ≡ true). ap (λ (v : Bool). is_markup (cond v 161 (b + 128))) t)
    (λ (t : (b == 127) ≡ false). ap (λ (v : Bool). is_markup (cond v 161 (b + 128))) t ∙ high) (cases_Bool (b == 127))
  where
    high : is_markup (b + 128) ≡ false
    high = grind (arith, nat_tests)

pub reads_symbol : (b : ℕ) → Reads (symbol b) (symbol b)
reads_symbol b = character 226 refl (character 144 refl (character _ (not_markup b) nothing))

-- one byte more, and one text after another
pub visible_more : (text : List ℕ) (b : ℕ) → visible (text ++ b ∷ []) ≡ visible text ++ visible_byte b
visible_more text b =
    flat_map-append visible_byte text (b ∷ []) ∙ ap (λ l. visible text ++ l) (append-nil (visible_byte b))

pub visible_parts : (first last : List ℕ)
    → visible (first ++ ellipsis ++ last) ≡ visible first ++ ellipsis ++ visible last
visible_parts first last =
    flat_map-append visible_byte (first ++ ellipsis) last
    ∙ ap (λ l. l ++ visible last) (flat_map-append visible_byte first ellipsis)
