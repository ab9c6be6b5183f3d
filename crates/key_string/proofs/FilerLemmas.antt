-- Filer codes are ASCII.
use Rattle.std.proofs.Common.{◌≡◌, ℕ, ◌<◌, true, false, List, length, arith, get_or, ⊎_elim, ◌≤◌}
use Rattle.std.specs.List.{AllPass}
use Rattle.std.specs.Str.{IsUtf8}
use Rattle.std.proofs.lemmas.Str.{IsUtf8-from_ascii}
use Rattle.std.proofs.lemmas.Bool.{and_parts, false_from_ne_true, cases_lt}
use Rattle.std.proofs.lemmas.Bool.Decides.{nat_tests}
use Rattle.std.proofs.lemmas.List.Sums.{AllPass-from_list_all}
use Rattle.std.proofs.lemmas.List.{get_or_past}
use Rattle.key_string.specs.Filer.{is_filer, is_filer_byte}

filer_byte_ascii : (c : ℕ) → is_filer_byte c ≡ true → c < 128
filer_byte_ascii c h = grind (arith, nat_tests, h)

pub is_filer-IsUtf8 : (text : List ℕ) → is_filer text ≡ true → IsUtf8 text
unfolding is_filer
is_filer-IsUtf8 text h =
    let all : AllPass is_filer_byte text = AllPass-from_list_all is_filer_byte text (and_parts _ _ h).1 in
    IsUtf8-from_ascii text (λ i. ⊎_elim
    (λ (k : i < length text). filer_byte_ascii (get_or text i 0) (all i 0 k))
    (λ (k : length text ≤ i). omega (arith, get_or_past text i 0 k))
    (cases_lt i (length text)))

pub is_filer-no : (text : List ℕ) → ¬ (IsUtf8 text) → is_filer text ≡ false
is_filer-no text not_text = false_from_ne_true _ (λ h. not_text (is_filer-IsUtf8 text h))
