-- A digest with one request more.
use Rattle.std.proofs.Common.{◌≡◌, ℕ, suc, ◌+◌, List, [], ◌∷◌, ◌++◌, length, sym, ap, ◌∙◌, arith}
use Rattle.std.proofs.lemmas.List.{append_assoc, append-nil}
use Rattle.register_extracts.specs.Digest.{Row, digest_after, digest_of, next_digest, line, lines}

-- behind the last of these
pub digest_after_more : (before : List ℕ) (seq last : ℕ) (rows : List Row) (r : Row) → last ≡ seq + length rows
    → digest_after before seq (rows ++ r ∷ []) ≡ next_digest (digest_after before seq rows) last r
unfolding digest_after
digest_after_more before seq last [] r is =
    let same : seq ≡ last = omega arith in ap (λ at. next_digest before at r) same
digest_after_more before seq last (x ∷ rows) r is =
    digest_after_more (next_digest before seq x) (suc seq) last rows r (omega arith)

-- all of them
pub digest_more : (rows : List Row) (r : Row)
    → digest_of (rows ++ r ∷ []) ≡ next_digest (digest_of rows) (suc (length rows)) r
digest_more rows r = digest_after_more _ 1 (suc (length rows)) rows r (omega arith)

-- a text with these lines behind it, one after another
abbrev pub with_lines : List ℕ → List (List ℕ) → List ℕ
with_lines front [] = front
with_lines front (text ∷ texts) = with_lines (front ++ line text) texts

-- it has them behind it all at once
pub lines_behind : (front : List ℕ) (texts : List (List ℕ)) → with_lines front texts ≡ front ++ lines texts
unfolding lines
lines_behind front [] = sym (append-nil front)
lines_behind front (text ∷ texts) =
    lines_behind (front ++ line text) texts ∙ append_assoc front (line text) (lines texts)
