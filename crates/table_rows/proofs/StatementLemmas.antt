-- What statements leave that were run one after another in one transaction.
use Rattle.std.proofs.Common.{◌≡◌, inl, inr, ℕ, ◌+◌, ◌<◌, suc, List, [], ◌∷◌, ◌++◌, length, map, take, drop, get_or, Ok}
use Rattle.std.proofs.Common.{Err, IsTrue, refl, sym, ap, subst, ◌∙◌}
use Rattle.std.proofs.Math.Seq.{split_at}
use Rattle.std.proofs.lemmas.List.{map_more, map-append}
use Rattle.sqlite.specs.Store.{Ghosts}
use Rattle.sqlite.specs.Held.{Held, state}
use Rattle.sqlite.specs.State.{KeepsCommit, IsRolledBack, ExecutesInside}
use Rattle.sqlite.specs.Steps.{FailsToCommit}
use Rattle.sqlite.specs.declared.error.Error.{Error}
use Rattle.table_rows.specs.Standing.{AddsNothing}
use Rattle.table_rows.specs.Statements.{Statement, statement_of, AreDone, StopsAt, begun}
use Rattle.table_rows.specs.declared.statements.Statement.{Statement as Given}

module _ {S : Type 0} (g : Ghosts S) where
  -- after the statements the transaction goes on
  pub done_inside : (statements : List Statement) (a b : Held S) → IsTrue (state g a).in_transaction
      → AreDone g statements a b → IsTrue (state g b).in_transaction
  done_inside [] a b inside done = subst (λ h. IsTrue (state g h).in_transaction) done inside
  done_inside (s ∷ more) a b inside done = done_inside more done.0 b done.1.1.1.mode done.2

  -- one more is run
  done_then : (statements : List Statement) (s : Statement) (a b c : Held S) → AreDone g statements a b
      → (count : ℕ) × ExecutesInside 0 s.0 s.1 (state g b) (state g c) (Ok count)
      → AreDone g (statements ++ s ∷ []) a c
  done_then [] s a b c same one =
      (c, subst (λ h. (count : ℕ) × ExecutesInside 0 s.0 s.1 (state g h) (state g c) (Ok count)) (sym same) one, refl)
  done_then (t ∷ statements) s a b c done one = (done.0, done.1, done_then statements s done.0 b c done.2 one)

  -- one more fails
  stops_then : (error : Error) (statements : List Statement) (s : Statement) (more : List Statement) (a b c : Held S)
      → AreDone g statements a b → ExecutesInside 0 s.0 s.1 (state g b) (state g c) (Err error)
      → StopsAt g error (statements ++ s ∷ more) a c
  stops_then error [] s more a b c same one =
      inl (subst (λ h. ExecutesInside 0 s.0 s.1 (state g h) (state g c) (Err error)) (sym same) one)
  stops_then error (t ∷ statements) s more a b c done one =
      inr (done.0, done.1, stops_then error statements s more done.0 b c done.2 one)

-- the statement at a place, after those before it
module _ {S : Type 0} (g : Ghosts S) (all : List Given) (at : ℕ) (d : Given) (within : at < length all)
    (a b c : Held S) (done : AreDone g (map statement_of (take at all)) a b) where
  pub done_with : let s = statement_of (get_or all at d) in
      (count : ℕ) × ExecutesInside 0 s.0 s.1 (state g b) (state g c) (Ok count)
      → AreDone g (map statement_of (take (at + 1) all)) a c
  done_with one =
      subst (λ statements. AreDone g statements a c) (sym (map_more statement_of all at d within))
      (done_then g (map statement_of (take at all)) (statement_of (get_or all at d)) a b c done one)

  pub stops_with : (error : Error) → let s = statement_of (get_or all at d) in
      ExecutesInside 0 s.0 s.1 (state g b) (state g c) (Err error) → StopsAt g error (map statement_of all) a c
  stops_with error one =
      let s = get_or all at d in
      let same : map statement_of all
      ≡ map statement_of (take at all) ++ statement_of s ∷ map statement_of (drop (suc at) all) =
      ap (map statement_of) (split_at all at d within) ∙ map-append statement_of (take at all) (s ∷ drop (suc at) all)
      in
      subst (λ statements. StopsAt g error statements a c) (sym same)
      (stops_then g error (map statement_of (take at all)) (statement_of s) (map statement_of (drop (suc at) all)) a b
      c done one)

-- what is not committed
module _ {S : Type 0} (g : Ghosts S) (old last end : Held S)
    (kept : KeepsCommit (state g (begun old)) (state g last)) where
  -- it was undone
  pub undone_adds_nothing : IsRolledBack (state g last) (state g end) → AddsNothing (state g old) (state g end)
  undone_adds_nothing undone = record {
    was_open = λ opened. kept.was_open (undone.was_open opened);
    now = λ opened. (undone.undone opened).0 ∙ kept.committed (undone.was_open opened);
    committed = λ opened. (undone.undone opened).1 ∙ kept.committed (undone.was_open opened);
  }

  -- it could not be committed
  pub not_committed : (error : Error) → IsTrue (state g last).in_transaction
      → FailsToCommit (state g last) (state g end) error → AddsNothing (state g old) (state g end)
  not_committed error inside (inl failed) = undone_adds_nothing failed.3
  not_committed error inside (inr outside) = absurd (let none = outside.1 in cc)
