-- What statements leave inside a transaction, one after another.
use Rattle.std.proofs.Common.{◌≡◌, inl, inr, ℕ, List, Result, IsTrue, false, refl, sym, ◌∙◌, subst, arith}
use Rattle.std.proofs.lemmas.Bool.{cases_Bool}
use Rattle.std.specs.Borrow.{MutBor}
use Rattle.sqlite.specs.Order.{Row}
use Rattle.sqlite.specs.Store.{Ghosts}
use Rattle.sqlite.specs.Held.{Held, state}
use Rattle.sqlite.specs.State.{HasCleanDisk, KeepsCommit, ExecutesInside}
use Rattle.sqlite.specs.declared.error.Error.{Error}
use Rattle.sqlite.proofs.InsideLemmas.{inside_keeps}
use Rattle.table_rows.specs.Leaving.{OnlyWrites}
use Rattle.table_rows.specs.Standing.{CommitsNothing}
use Rattle.table_rows.proofs.StepLemmas.{keeps_then, nothing_left, nothing_yet}

-- one statement inside a transaction after another
pub writes_then : {S : Type 0} {g : Ghosts S} {a b c : MutBor (Held S)} → OnlyWrites g a b → OnlyWrites g b c
    → OnlyWrites g a c
writes_then {S} {g} {a} {b} {c} p q = record {
  same_reference = q.same_reference ∙ p.same_reference;
  keeps = λ clean. keeps_then (state g a.now) (state g b.now) (state g c.now)
      (p.keeps (omega (arith, q.survives.clean))) (q.keeps clean);
  survives = nothing_left (state g a.now) (state g b.now) (state g c.now) p.survives q.survives;
}

-- a statement keeps what was committed: outside of a transaction it is not run
statement_keeps : {S : Type 0} (g : Ghosts S) (a b : Held S) (sql : List ℕ) (params : Row) (result : Result ℕ Error)
    {Refused : Type 0} → ((state g a).in_transaction ≡ false → Refused × (b ≡ a))
    → (HasCleanDisk (state g b) → IsTrue (state g a).in_transaction
    → ExecutesInside 0 sql params (state g a) (state g b) result) → HasCleanDisk (state g b)
    → KeepsCommit (state g a) (state g b)
statement_keeps g a b sql params result ended runs clean = elim (cases_Bool (state g a).in_transaction) [
  | inl inside ↦ inside_keeps (state g a) (state g b) 0 false sql params result (runs clean inside)
  | inr outside ↦ subst (λ h. KeepsCommit (state g a) (state g h)) (sym (ended outside).1)
      (record { was_open = λ opened. opened; committed = λ opened. refl })
]

pub statement_writes : {S : Type 0} (g : Ghosts S) (a b : MutBor (Held S)) (sql : List ℕ) (params : Row)
    (result : Result ℕ Error) {Refused : Type 0} → b.ghost_name ≡ a.ghost_name
    → ((state g a.now).in_transaction ≡ false → Refused × (b.now ≡ a.now))
    → (HasCleanDisk (state g b.now) → IsTrue (state g a.now).in_transaction
    → ExecutesInside 0 sql params (state g a.now) (state g b.now) result)
    → CommitsNothing (state g a.now) (state g b.now) → OnlyWrites g a b
statement_writes g a b sql params result same ended runs survives =
    record {
      same_reference = same;
      keeps = statement_keeps g a.now b.now sql params result ended runs;
      survives =
          survives;
    }

-- no statement was run
pub writes_nothing : {S : Type 0} (g : Ghosts S) (a : MutBor (Held S)) → OnlyWrites g a a
writes_nothing g a =
    record {
      same_reference = refl;
      keeps = λ clean. record { was_open = λ opened. opened; committed = λ opened. refl };
      survives = nothing_yet (state g a.now);
    }
