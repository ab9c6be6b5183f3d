-- How the characters of a String are read one after another.
use Rattle.std.proofs.Common.{◌≡◌, ℕ, ◌<◌, ◌≤◌, List, [], ◌∷◌, ◌++◌, length, IsTrue, arith, refl, sym, ◌∙◌}
use Rattle.std.proofs.Common.{append_assoc}
use Rattle.std.proofs.lemmas.Grind.{common_steps}
use Rattle.std.proofs.lemmas.List.Concat.{flat_map-append}
use Rattle.std.proofs.lemmas.List.Elements.{All-nil, All-push, All-head, All-tail}
use Rattle.std.proofs.lemmas.Bool.Decides.{nat_tests}
use Rattle.std.specs.List.{flat_map}
use Rattle.key_string.specs.Key.{double_quote, is_printable, IsPrintable, character, SpellsKey, IsCharacterAt}
use Rattle.key_string.specs.Key.{BeginsNoCharacter}

-- the bytes begin with the characters of the text, and the rest follows
pub record HasReadText (bytes rest text : List ℕ) : Type 0 where
  pub printable : IsPrintable text
  pub spelled : bytes ≡ flat_map character text ++ rest

-- the bytes begin with so many characters, and the rest follows
abbrev pub HasRead : List ℕ → List ℕ → ℕ → Type 0
HasRead bytes rest count = (text : List ℕ) × HasReadText bytes rest text × (length text ≡ count)

abbrev Printable : ℕ → Type 0
Printable c = IsTrue (is_printable c)

-- one more character
pub HasReadText-more : (bytes rest after text : List ℕ) (c : ℕ) → HasReadText bytes rest text
    → IsCharacterAt rest c after → HasReadText bytes after (text ++ c ∷ [])
HasReadText-more bytes rest after text c h next =
    let joined = flat_map-append character text (c ∷ []) in
    record {
      printable = All-push Printable text c h.printable next.0;
      spelled = grind (arith, common_steps, h.spelled, next.1, joined);
    }

-- no character of a String begins another one
character-same : (c d : ℕ) (x y : List ℕ) → character c ++ x ≡ character d ++ y → (c ≡ d) × (x ≡ y)
character-same c d x y e = (grind (arith, nat_tests, e), grind (arith, nat_tests, e))

-- the double quote at the end begins no character
quote-ends : BeginsNoCharacter (double_quote ∷ [])
quote-ends c rest h = grind (arith, nat_tests, h.1)

-- two readings of the same bytes agree as far as both go
pub same_characters : (text other rest end : List ℕ) → BeginsNoCharacter end → IsPrintable text → IsPrintable other
    → flat_map character text ++ rest ≡ flat_map character other ++ end
    → (more : List ℕ) × IsPrintable more × (other ≡ text ++ more) × (rest ≡ flat_map character more ++ end)
same_characters [] other rest end last p q e = (other, q, refl, e)
same_characters (c ∷ text) [] rest end last p q e =
    let begins : end ≡ character c ++ (flat_map character text ++ rest) = rw (← append_assoc) (sym e) in
    absurd (last c (flat_map character text ++ rest) (All-head Printable c text p, begins))
same_characters (c ∷ text) (d ∷ other) rest end last p q e =
    let begin : character c ++ (flat_map character text ++ rest) ≡ character d ++ (flat_map character other ++ end) =
    rw (← append_assoc, ← append_assoc) e in
    let s = character-same c d _ _ begin in
    let r = same_characters text other rest end last (All-tail Printable c text p) (All-tail Printable d other q) s.1 in
    (r.0, r.1, grind (arith, common_steps, s.0, r.2), r.3)

-- where no character begins the rest, none comes before it
none-more : (more rest end : List ℕ) → BeginsNoCharacter rest → IsPrintable more → rest ≡ flat_map character more ++ end
    → more ≡ []
none-more [] rest end last p e = refl
none-more (c ∷ more) rest end last p e =
    absurd (last c (flat_map character more ++ end) (
      All-head Printable c more p,
      e
          ∙ append_assoc (character c) (flat_map character more) end,
    ))

-- where no character follows, all was read if anything is a String here
pub HasReadText-all : (bytes rest text other : List ℕ) → HasReadText bytes rest text → BeginsNoCharacter rest
    → SpellsKey (double_quote ∷ bytes) other → (text ≡ other) × (rest ≡ double_quote ∷ [])
HasReadText-all bytes rest text other h last s =
    let inside : bytes ≡ flat_map character other ++ double_quote ∷ [] = cc (s.spelled) in
    let r = same_characters text other rest (double_quote ∷ []) quote-ends h.printable s.printable (sym h.spelled
    ∙ inside) in
    let none : r.0 ≡ [] = none-more r.0 rest (double_quote ∷ []) last r.1 r.3 in
    (grind (arith, common_steps, r.2, none), rw none at r.3)

-- a String has one text
pub SpellsKey-same : (bytes text other : List ℕ) → SpellsKey bytes text → SpellsKey bytes other → text ≡ other
SpellsKey-same bytes text other s t =
    let inside = flat_map character text ++ double_quote ∷ [] in
    let same : SpellsKey (double_quote ∷ inside) other = rw s.spelled at t in
    let read : HasReadText inside (double_quote ∷ []) text = record { printable = s.printable; spelled = refl } in
    (HasReadText-all inside (double_quote ∷ []) text other read quote-ends same).0

-- a text has no more characters than its spelling has bytes
pub length-characters : (text : List ℕ) → length text ≤ length (flat_map character text)
length-characters [] = omega arith
length-characters (c ∷ text) = grind (arith, common_steps, nat_tests, length-characters text)

-- a character of a String is ASCII
pub printable-ascii : (c : ℕ) → IsTrue (is_printable c) → c < 128
printable-ascii c printable = grind (arith, nat_tests, printable)

-- the bytes after a character are fewer
pub shorter : (bytes after : List ℕ) (c : ℕ) → IsCharacterAt bytes c after → length after < length bytes
shorter bytes after c next = grind (arith, common_steps, nat_tests, next.1)

-- nothing was read yet
pub HasReadText-none : (bytes : List ℕ) → HasReadText bytes bytes []
HasReadText-none bytes = record { printable = All-nil Printable; spelled = refl }
