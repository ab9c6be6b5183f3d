-- The key of a field as a function, and what it says.
use Rattle.std.proofs.Common.{◌≡◌, ℕ, true, false, ◌&&◌, List, [], ◌∷◌, ◌++◌, length, Some, None, arith, refl, ap}
use Rattle.std.proofs.Common.{subst, ◌∙◌}
use Rattle.std.specs.Prelude.{bytes_eq}
use Rattle.std.specs.List.{flat_map}
use Rattle.std.proofs.lemmas.Grind.{common_steps}
use Rattle.std.proofs.lemmas.Bool.{and_parts, and_from, ltb-true, leb-true, lt-ltb, le-leb, false_from_ne_true}
use Rattle.std.proofs.lemmas.Bool.{cond-true, cond-false}
use Rattle.std.proofs.lemmas.Bool.Decides.{nat_tests}
use Rattle.std.proofs.lemmas.List.Sums.{AllPass-from_list_all, list_all-from_AllPass}
use Rattle.std.proofs.lemmas.Slice.Eq.{bytes_eq-Decides}
use Rattle.key_string.specs.Key.{double_quote, is_printable, character, spelling, SpellsKey, IsKey, is_key}
use Rattle.key_string.specs.Key.{without_escapes, inside, key_of_field}
use Rattle.key_string.proofs.Reading.{SpellsKey-same}

-- one character is read back
without_escapes-character : (c : ℕ) (rest : List ℕ)
    → without_escapes false (character c ++ rest) ≡ c ∷ without_escapes false rest
without_escapes-character c rest = grind (arith, nat_tests)

-- the characters of a text are read back
without_escapes-characters : (text : List ℕ) → without_escapes false (flat_map character text) ≡ text
without_escapes-characters [] = refl
without_escapes-characters (c ∷ text) =
    without_escapes-character c (flat_map character text) ∙ ap (λ cs. c ∷ cs) (without_escapes-characters text)

inside_quotes : (a b : ℕ) (text : List ℕ) → inside (a ∷ (text ++ b ∷ [])) ≡ text
inside_quotes a b text = grind (arith, common_steps)

pub is_key-IsKey : (text : List ℕ) → is_key text ≡ true → IsKey text
is_key-IsKey text h =
    let p = and_parts _ _ h in
    let q = and_parts _ _ p.0 in
    record {
      printable = AllPass-from_list_all is_printable text p.1;
      nonempty = ltb-true 0 (length text) q.0;
      short =
          leb-true (length text) 1024 q.1;
    }

pub IsKey-is_key : (text : List ℕ) → IsKey text → is_key text ≡ true
IsKey-is_key text k =
    and_from _ _ (and_from _ _ (lt-ltb 0 (length text) k.nonempty) (le-leb (length text) 1024 k.short))
    (list_all-from_AllPass is_printable text k.printable)

-- a field that spells a key has that key
pub key_of_field-spelled : (field text : List ℕ) → SpellsKey field text → IsKey text → key_of_field field ≡ Some text
unfolding key_of_field
key_of_field-spelled field text s k =
    let read : without_escapes false (inside field) ≡ text =
    ap (λ b. without_escapes false (inside b)) s.spelled
    ∙ ap (without_escapes false) (inside_quotes double_quote double_quote (flat_map character text))
    ∙ without_escapes-characters text in
    rw read (cond-true (is_key text && bytes_eq field (spelling text)) (Some text) None
    (and_from _ _ (IsKey-is_key text k) ((bytes_eq-Decides field (spelling text)).1 s.spelled)))

key_of_field-at : (field text : List ℕ) → (is_key text && bytes_eq field (spelling text)) ≡ true
    → SpellsKey field text × IsKey text
key_of_field-at field text h =
    let p = and_parts _ _ h in
    let key = is_key-IsKey text p.0 in
    (record { printable = key.printable; spelled = (bytes_eq-Decides field (spelling text)).0 p.1 }, key)

-- and another one has none
pub key_of_field-none : (field : List ℕ) → ((text : List ℕ) → SpellsKey field text → ¬ (IsKey text))
    → key_of_field field ≡ None
unfolding key_of_field
key_of_field-none field none =
    let text = without_escapes false (inside field) in
    cond-false (is_key text && bytes_eq field (spelling text)) (Some text) None
    (false_from_ne_true _ (λ h. let p = key_of_field-at field text h in none text p.0 p.1))

-- nor has one whose text is no key
pub key_of_field-not_key : (field text : List ℕ) → SpellsKey field text → ¬ (IsKey text) → key_of_field field ≡ None
key_of_field-not_key field text s not_key =
    key_of_field-none field (λ other t key. not_key (subst IsKey (SpellsKey-same field other text t s) key))
