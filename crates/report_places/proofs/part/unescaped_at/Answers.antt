use Rattle.std.proofs.Common.{◌≡◌, ℕ, ◌+◌, ◌<◌, List, [], ◌∷◌, length, drop, get_or, ap, ◌∙◌, arith}
use Rattle.std.proofs.lemmas.List.{drop_more, drop_all}
use Rattle.serde_json.specs.Find.{unescape}
use Rattle.report_places.proofs.part.unescaped_at.Goals as goal

two : (s : List ℕ) (i : ℕ) → i + 1 < length s
    → (drop i s ≡ get_or s i 0 ∷ get_or s (i + 1) 0 ∷ drop (i + 2) s)
    × (drop (i + 1) s ≡ get_or s (i + 1) 0 ∷ drop (i + 2) s)
two s i h =
    let next : i + 1 + 1 ≡ i + 2 = omega arith in
    let second = drop_more s (i + 1) 0 h ∙ ap (λ n. get_or s (i + 1) 0 ∷ drop n s) next in
    (drop_more s i 0 (omega arith) ∙ ap (λ l. get_or s i 0 ∷ l) second, second)

pub returns-then-at-part-clause-value : goal.returns-then-at-part-clause-value
unfolding unescape
returns-then-at-part-clause-value c =
    let s = c.args.part.now in
    let none : drop (c.args.at + 1) s ≡ [] = drop_all _ s (omega arith) in
    rw (drop_more s c.args.at 0 c.requires, none)

pub returns-then-after-eq49-clause-value : goal.returns-then-after-eq49-clause-value
unfolding unescape
returns-then-after-eq49-clause-value c = let both = two c.args.part.now c.args.at (omega arith) in
    rw (both.0) (grind arith)

pub returns-then-after-eq48-clause-value : goal.returns-then-after-eq48-clause-value
unfolding unescape
returns-then-after-eq48-clause-value c = let both = two c.args.part.now c.args.at (omega arith) in
    rw (both.0) (grind arith)

pub returns-else-byte-eq126-2-clause-value : goal.returns-else-byte-eq126-2-clause-value
unfolding unescape
returns-else-byte-eq126-2-clause-value c = let both = two c.args.part.now c.args.at (omega arith) in
    rw (both.0, both.1) (grind arith)
