-- Statements inside one transaction, one after another.
use Rattle.std.proofs.Common.{◌≡◌, ℕ, ◌+◌, ◌<◌, zero, suc, true, List, [], ◌∷◌, ◌++◌, take, length, get_or, inl, refl}
use Rattle.std.proofs.Common.{sym, ap, subst, ◌∙◌, arith}
use Rattle.std.proofs.lemmas.List.{take_more}
use Rattle.sqlite.specs.Order.{Row}
use Rattle.sqlite.specs.Table.{Table}
use Rattle.sqlite.specs.State.{State, KeepsCommit, Survives}
use Rattle.sqlite.proofs.StateLemmas.{survives_then}
use Rattle.table_rows.specs.Tables.{BeginsWith}
use Rattle.table_rows.specs.Rows.{counted_from, GainsInside}
use Rattle.table_rows.proofs.GainLemmas.{gains_none, gains_then}

pub begins : (ours : List Table) (table : Table) (s : State) → s.in_transaction ≡ true → GainsInside ours table [] s s
begins ours table s inside = record { gains = λ d. gains_none ours table s.now; inside = inside; committed = refl }

pub goes_on : (ours : List Table) (table : Table) (rs ss : List Row) (a b c : State) → GainsInside ours table rs a b
    → GainsInside ours table ss b c → GainsInside ours table (rs ++ ss) a c
goes_on ours table rs ss a b c p q = record {
  gains = λ d. let first =
      p.gains d in gains_then ours table rs ss a.now b.now c.now first
      (q.gains (subst (BeginsWith ours) (sym first.schema_is) d));
  inside = q.inside;
  committed = q.committed ∙ p.committed;
}

pub keeps_then : (a b c : State) → KeepsCommit a b → KeepsCommit b c → KeepsCommit a c
keeps_then a b c p q =
    record {
      was_open = λ opened. p.was_open (q.was_open opened);
      committed =
          λ opened. q.committed opened ∙ p.committed (q.was_open opened);
    }

pub nothing_left : (a b c : State) → Survives a b (λ _. ⊥) → Survives b c (λ _. ⊥) → Survives a c (λ _. ⊥)
nothing_left a b c p q = survives_then a b c (λ _. ⊥) (λ _. ⊥) (λ _. ⊥) (λ _ db none. none) (λ _ db none. none) p q

pub nothing_yet : (a : State) → Survives a a (λ _. ⊥)
nothing_yet a =
    record {
      clean = omega arith;
      shield = λ s. s;
      counts = omega arith;
      limit = refl;
      closes =
          λ clean opened. inl opened;
      crash = λ clean db left. inl left;
    }

pub counted_push : {X : Type 0} (row : ℕ → X → Row) (at : ℕ) (xs : List X) (x : X)
    → counted_from row at (xs ++ x ∷ []) ≡ counted_from row at xs ++ row (at + length xs) x ∷ []
counted_push row at [] x = ap (λ n. row n x ∷ []) (omega arith)
counted_push row at (y ∷ xs) x =
    ap (λ l. row at y ∷ l) (counted_push row (at + 1) xs x
    ∙ ap (λ n. counted_from row (at + 1) xs ++ row n x ∷ []) (omega arith))

length_take : {X : Type 0} (i : ℕ) (xs : List X) → i < length xs → length (take i xs) ≡ i
length_take zero xs h = refl
length_take (suc i) [] h = absurd (omega arith)
length_take (suc i) (x ∷ xs) h = ap suc (length_take i xs (omega arith))

-- the rows of the first elements, with that of the next
pub counted_more : {X : Type 0} (row : ℕ → X → Row) (xs : List X) (i : ℕ) (d : X) → i < length xs
    → counted_from row 1 (take (i + 1) xs) ≡ counted_from row 1 (take i xs) ++ row (1 + i) (get_or xs i d) ∷ []
counted_more row xs i d h =
    ap (counted_from row 1) (take_more xs i d h) ∙ counted_push row 1 (take i xs) (get_or xs i d)
    ∙ ap (λ n. counted_from row 1 (take i xs) ++ row (1 + n) (get_or xs i d) ∷ []) (length_take i xs h)
