-- The names of a path are known from its pointer.
use Rattle.std.proofs.Common.{◌≡◌, ℕ, zero, suc, List, [], ◌∷◌, ◌++◌, append_assoc, get_or, drop, Bool, true, false}
use Rattle.std.proofs.Common.{cond, refl, ap, ◌∙◌, eqb, arith}
use Rattle.std.proofs.lemmas.Bool.Decides.{nat_tests}
use Rattle.xbrl_values.specs.Pointer.{escaped, pointer}

-- ---- a name is known from how it is escaped

unescaped : List ℕ → List ℕ
unescaped [] = []
unescaped (x ∷ []) = x ∷ []
unescaped (x ∷ y ∷ rest) = cond (eqb x 126) (cond (eqb y 49) 47 126 ∷ unescaped rest) (x ∷ unescaped (y ∷ rest))

unescaped-plain : (b : ℕ) (rest : List ℕ) → eqb b 126 ≡ false → unescaped (b ∷ rest) ≡ b ∷ unescaped rest
unfolding unescaped
unescaped-plain b [] plain = refl
unescaped-plain b (y ∷ rest) plain = rw plain refl

unescaped-byte : (tilde slash : Bool) (b : ℕ) (rest : List ℕ) → eqb b 126 ≡ tilde → eqb b 47 ≡ slash
    → unescaped (cond tilde (126 ∷ 48 ∷ []) (cond slash (126 ∷ 49 ∷ []) (b ∷ [])) ++ rest) ≡ b ∷ unescaped rest
unfolding unescaped
unescaped-byte true slash b rest is _ = let e : 126 ≡ b = grind (arith, nat_tests) in ap (λ x. x ∷ unescaped rest) e
unescaped-byte false true b rest _ is = let e : 47 ≡ b = grind (arith, nat_tests) in ap (λ x. x ∷ unescaped rest) e
unescaped-byte false false b rest plain _ = unescaped-plain b rest plain

unescaped-escaped : (name : List ℕ) → unescaped (escaped name) ≡ name
unfolding unescaped escaped
unescaped-escaped [] = refl
unescaped-escaped (b ∷ bs) =
    unescaped-byte (eqb b 126) (eqb b 47) b (escaped bs) refl refl ∙ ap (λ rest. b ∷ rest) (unescaped-escaped bs)

-- ---- what stands before the next slash, and from it on

until_slash : List ℕ → List ℕ
until_slash [] = []
until_slash (x ∷ xs) = cond (eqb x 47) [] (x ∷ until_slash xs)

from_slash : List ℕ → List ℕ
from_slash [] = []
from_slash (x ∷ xs) = cond (eqb x 47) (x ∷ xs) (from_slash xs)

until-pointer : (p : List (List ℕ)) → until_slash (pointer p) ≡ []
unfolding until_slash pointer
until-pointer [] = refl
until-pointer (name ∷ p) = refl

from-pointer : (p : List (List ℕ)) → from_slash (pointer p) ≡ pointer p
unfolding from_slash pointer
from-pointer [] = refl
from-pointer (name ∷ p) = refl

until-byte : (tilde slash : Bool) (b : ℕ) (rest : List ℕ) → eqb b 47 ≡ slash
    → until_slash (cond tilde (126 ∷ 48 ∷ []) (cond slash (126 ∷ 49 ∷ []) (b ∷ [])) ++ rest)
    ≡ cond tilde (126 ∷ 48 ∷ []) (cond slash (126 ∷ 49 ∷ []) (b ∷ [])) ++ until_slash rest
unfolding until_slash
until-byte true slash b rest is = refl
until-byte false true b rest is = refl
until-byte false false b rest is = rw is refl

from-byte : (tilde slash : Bool) (b : ℕ) (rest : List ℕ) → eqb b 47 ≡ slash
    → from_slash (cond tilde (126 ∷ 48 ∷ []) (cond slash (126 ∷ 49 ∷ []) (b ∷ [])) ++ rest) ≡ from_slash rest
unfolding from_slash
from-byte true slash b rest is = refl
from-byte false true b rest is = refl
from-byte false false b rest is = rw is refl

until-escaped : (name : List ℕ) (p : List (List ℕ)) → until_slash (escaped name ++ pointer p) ≡ escaped name
unfolding escaped
until-escaped [] p = until-pointer p
until-escaped (b ∷ bs) p =
    rw append_assoc (until-byte (eqb b 126) (eqb b 47) b (escaped bs ++ pointer p) refl
    ∙ ap (λ rest. cond (eqb b 126) (126 ∷ 48 ∷ []) (cond (eqb b 47) (126 ∷ 49 ∷ []) (b ∷ [])) ++ rest)
    (until-escaped bs p))

from-escaped : (name : List ℕ) (p : List (List ℕ)) → from_slash (escaped name ++ pointer p) ≡ pointer p
unfolding escaped
from-escaped [] p = from-pointer p
from-escaped (b ∷ bs) p =
    rw append_assoc (from-byte (eqb b 126) (eqb b 47) b (escaped bs ++ pointer p) refl ∙ from-escaped bs p)

-- ---- the names of a place

pub name_at : ℕ → List ℕ → List ℕ
name_at zero place = unescaped (until_slash (drop 1 place))
name_at (suc n) place = name_at n (from_slash (drop 1 place))

past : (n : ℕ) → name_at n [] ≡ []
unfolding name_at unescaped until_slash from_slash
past zero = refl
past (suc n) = past n

pub name_at-pointer : (n : ℕ) (p : List (List ℕ)) → name_at n (pointer p) ≡ get_or p n []
unfolding name_at pointer
name_at-pointer n [] = past n
name_at-pointer zero (name ∷ p) = ap unescaped (until-escaped name p) ∙ unescaped-escaped name
name_at-pointer (suc n) (name ∷ p) = ap (name_at n) (from-escaped name p) ∙ name_at-pointer n p
