-- A part of a room of bytes, from one place to another.
use Rattle.std.proofs.Common.{◌≡◌, ℕ, ◌+◌, ◌-◌, ◌≤◌, List, ◌++◌, length, take, drop, slice_range, sym, ap, ◌∙◌, arith}
use Rattle.std.proofs.Math.Seq.{take-add}
use Rattle.std.proofs.lemmas.Grind.{common_steps}
use Rattle.std.proofs.lemmas.List.{drop-take}

-- the part without its first bytes
pub slice_range-drop : (xs : List ℕ) (start end count : ℕ) → start ≤ end → end ≤ length xs → count ≤ end - start
    → slice_range xs (start + count) end ≡ drop count (slice_range xs start end)
slice_range-drop xs start end count ordered within fits =
    let whole : end - start ≡ count + (end - (start + count)) = omega arith in
    let cut : drop count (take (count + (end - (start + count))) (drop start xs))
    ≡ take (end - (start + count)) (drop count (drop start xs)) =
    drop-take count (end - (start + count)) (drop start xs) in
    grind (arith, common_steps, whole, cut)

-- the part is told by the bytes up to its end
pub slice_range-same : (xs ys : List ℕ) (start end : ℕ) → start ≤ end → take end xs ≡ take end ys
    → slice_range xs start end ≡ slice_range ys start end
slice_range-same xs ys start end ordered same =
    let whole : start + (end - start) ≡ end = omega arith in
    let left : drop start (take end xs) ≡ slice_range xs start end =
    ap (λ n. drop start (take n xs)) (sym whole) ∙ drop-take start (end - start) xs in
    let right : drop start (take end ys) ≡ slice_range ys start end =
    ap (λ n. drop start (take n ys)) (sym whole) ∙ drop-take start (end - start) ys in
    sym left ∙ ap (drop start) same ∙ right

-- the part and what follows it
pub slice_range-join : (xs : List ℕ) (start end count : ℕ) → start ≤ end
    → slice_range xs start (end + count) ≡ slice_range xs start end ++ slice_range xs end (end + count)
slice_range-join xs start end count ordered =
    let long : end + count - start ≡ (end - start) + count = omega arith in
    let rest : end + count - end ≡ count = omega arith in
    let whole : start + (end - start) ≡ end = omega arith in
    let next : drop (end - start) (drop start xs) ≡ drop end xs = grind (arith, common_steps, whole) in
    ap (λ n. take n (drop start xs)) long ∙ take-add (end - start) count (drop start xs)
    ∙ ap (λ l. take (end - start) (drop start xs) ++ take count l) next
    ∙ ap (λ n. take (end - start) (drop start xs) ++ take n (drop end xs)) (sym rest)

-- the length of a part
pub slice_range-len : (xs : List ℕ) (start end : ℕ) → start ≤ end → end ≤ length xs
    → length (slice_range xs start end) ≡ end - start
slice_range-len xs start end ordered within = grind (arith, common_steps)
