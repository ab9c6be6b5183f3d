-- Positions, a byte at a time.
use Rattle.std.proofs.Common.{◌≡◌, ℕ, ◌+◌, List, [], ◌∷◌, ◌++◌, fold, cond, Bool, true, false, count_by, refl, sym, ap}
use Rattle.std.proofs.Common.{ap₂, ◌∙◌, arith}
use Rattle.std.proofs.lemmas.List.Sums.{sum_by-cons, sum_by_push}
use Rattle.report_places.specs.Position.{begins_character, is_line_feed, last_line_from, last_line, position_after}
use Rattle.report_places.specs.Position.{start, step}
use Rattle.report_places.specs.declared.position.Position.{Position}

abbrev at : ℕ → ℕ → Position
at l c = record { line = l; column = c }

abbrev one_if : Bool → ℕ
one_if b = cond b 1 0

abbrev chars : List ℕ → ℕ
chars = count_by begins_character

abbrev feeds : List ℕ → ℕ
feeds = count_by is_line_feed

counted_push : (line : List ℕ) (b : ℕ) → chars (line ++ b ∷ []) ≡ chars line + one_if (begins_character b)
counted_push line b = sum_by_push (λ x. one_if (begins_character x)) line b

feeds_first : (b : ℕ) (bytes : List ℕ) → feeds (b ∷ bytes) ≡ one_if (is_line_feed b) + feeds bytes
feeds_first b bytes = sum_by-cons (λ x. one_if (is_line_feed x)) b bytes

-- `a` line feeds and the bytes of `line` were read
abbrev Reads : ℕ → List ℕ → List ℕ → Type 0
Reads a line bytes =
    fold step (at (1 + a) (1 + count_by begins_character line)) bytes
    ≡ at (1 + (a + count_by is_line_feed bytes)) (1 + count_by begins_character (last_line_from line bytes))

one_more : (a b : ℕ) (line bytes : List ℕ) (feed begins : Bool) → is_line_feed b ≡ feed → begins_character b ≡ begins
    → Reads (a + 1) [] bytes → Reads a (line ++ b ∷ []) bytes → Reads a line (b ∷ bytes)
one_more a b line bytes true begins f g new same =
    let p = at (1 + a) (1 + chars line) in
    let n : 1 + a + 1 ≡ 1 + (a + 1) = omega arith in
    let m : 1 + (a + 1 + feeds bytes) ≡ 1 + (a + feeds (b ∷ bytes)) = omega (arith, feeds_first b bytes, ap one_if f) in
    let taken : step p b ≡ at (1 + a + 1) 1 =
    λ i. cond (f i) (at (1 + a + 1) 1) (cond (begins_character b) (at (1 + a) (1 + chars line + 1)) p) in
    let left : last_line_from [] bytes ≡ last_line_from line (b ∷ bytes) =
    λ i. last_line_from (cond (sym f i) [] (line ++ b ∷ [])) bytes in
    ap (λ q. fold step q bytes) taken ∙ ap (λ k. fold step (at k 1) bytes) n ∙ new
    ∙ ap₂ (λ k l. at k (1 + chars l)) m left
one_more a b line bytes false true f g new same =
    let p = at (1 + a) (1 + chars line) in
    let n : 1 + chars line + 1 ≡ 1 + chars (line ++ b ∷ []) = omega (arith, counted_push line b, ap one_if g) in
    let m : 1 + (a + feeds bytes) ≡ 1 + (a + feeds (b ∷ bytes)) = omega (arith, feeds_first b bytes, ap one_if f) in
    let taken : step p b ≡ at (1 + a) (1 + chars line + 1) =
    λ i. cond (f i) (at (1 + a + 1) 1) (cond (g i) (at (1 + a) (1 + chars line + 1)) p) in
    let left : last_line_from (line ++ b ∷ []) bytes ≡ last_line_from line (b ∷ bytes) =
    λ i. last_line_from (cond (sym f i) [] (line ++ b ∷ [])) bytes in
    ap (λ q. fold step q bytes) taken ∙ ap (λ k. fold step (at (1 + a) k) bytes) n ∙ same
    ∙ ap₂ (λ k l. at k (1 + chars l)) m left
one_more a b line bytes false false f g new same =
    let p = at (1 + a) (1 + chars line) in
    let n : 1 + chars line ≡ 1 + chars (line ++ b ∷ []) = omega (arith, counted_push line b, ap one_if g) in
    let m : 1 + (a + feeds bytes) ≡ 1 + (a + feeds (b ∷ bytes)) = omega (arith, feeds_first b bytes, ap one_if f) in
    let taken : step p b ≡ p = λ i. cond (f i) (at (1 + a + 1) 1) (cond (g i) (at (1 + a) (1 + chars line + 1)) p) in
    let left : last_line_from (line ++ b ∷ []) bytes ≡ last_line_from line (b ∷ bytes) =
    λ i. last_line_from (cond (sym f i) [] (line ++ b ∷ [])) bytes in
    ap (λ q. fold step q bytes) taken ∙ ap (λ k. fold step (at (1 + a) k) bytes) n ∙ same
    ∙ ap₂ (λ k l. at k (1 + chars l)) m left

from_line : (a : ℕ) (line bytes : List ℕ) → Reads a line bytes
from_line a line [] = let e : 1 + a ≡ 1 + (a + 0) = omega arith in ap (λ n. at n (1 + count_by begins_character line)) e
from_line a line (b ∷ bytes) =
    one_more a b line bytes (is_line_feed b) (begins_character b) refl refl (from_line (a + 1) [] bytes)
    (from_line a (line ++ b ∷ []) bytes)

pub position-fold : (bytes : List ℕ) → fold step start bytes ≡ position_after bytes
unfolding position_after
position-fold bytes =
    let m : 1 + (0 + count_by is_line_feed bytes) ≡ 1 + count_by is_line_feed bytes = omega arith in
    from_line 0 [] bytes ∙ ap (λ k. at k (1 + count_by begins_character (last_line bytes))) m
