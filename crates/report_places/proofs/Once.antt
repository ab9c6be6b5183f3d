-- The count of tokens rises with the bytes, so it rises to a number at one offset alone.
use Rattle.std.proofs.Common.{◌≡◌, ℕ, zero, suc, ◌+◌, ◌<◌, ◌≤◌, List, [], ◌∷◌, take, count_by, ◌⊎◌, inl, inr, arith}
use Rattle.std.proofs.lemmas.Bool.{cases_lt}
use Rattle.json.specs.Lex.{class, lex, Mode, between}
use Rattle.report_places.specs.Offset.{is_token, BeginsAt}
use Rattle.report_places.specs.Scan.{next_mode}
use Rattle.report_places.proofs.Modes.{one_byte}

rises : (m : Mode) (xs : List ℕ) (a b : ℕ) → a ≤ b
    → count_by is_token (lex m (take a xs)) ≤ count_by is_token (lex m (take b xs))
unfolding lex
rises m xs zero b h = omega arith
rises m [] (suc a) zero h = absurd (omega arith)
rises m [] (suc a) (suc b) h = omega arith
rises m (x ∷ xs) (suc a) zero h = absurd (omega arith)
rises m (x ∷ xs) (suc a) (suc b) h =
    omega (
      arith,
      one_byte (take a xs) m x,
      one_byte (take b xs) m x,
      rises (next_mode m (class x)) xs a b (omega arith),
    )

not_before : (text : List ℕ) (k first second : ℕ) → BeginsAt text k first → BeginsAt text k second → second ≤ first
not_before text k first second p q = go (cases_lt first second)
  where
    go : (first < second) ⊎ (second ≤ first) → second ≤ first
    go (inr le) = le
    go (inl lt) = absurd (omega (arith, p.with_it, q.before, rises between text (first + 1) second (omega arith)))

pub begins_once : (text : List ℕ) (k first second : ℕ) → BeginsAt text k first → BeginsAt text k second → first ≡ second
begins_once text k first second p q =
    omega (arith, not_before text k first second p q, not_before text k second first q p)
