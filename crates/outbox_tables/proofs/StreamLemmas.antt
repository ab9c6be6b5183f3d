-- A query whose rows are read one at a time, as if they had been read at once.
use Rattle.std.proofs.Common.{inl, inr, ℕ, List, [], ◌∷◌, ◌++◌, Some, None, subst}
use Rattle.sqlite.specs.Order.{Row}
use Rattle.sqlite.specs.Store.{Ghosts}
use Rattle.sqlite.specs.Held.{Held, state}
use Rattle.sqlite.specs.Given.{Returns, HasGiven, HasBegun, Advances, FailsToAdvance}
use Rattle.sqlite.specs.Listing.{understood}
use Rattle.sqlite.specs.State.{State, IsUnchanged, Shown, FailsToQuery}
use Rattle.sqlite.specs.declared.error.Error.{Error}
use Rattle.sqlite.proofs.Callers.{unchanged_then}
use Rattle.table_rows.specs.Standing.{CommitsNothing}
use Rattle.table_rows.proofs.BeforeLemmas.{shown_before, fails_before}
use Rattle.table_rows.proofs.TextLemmas.{IsQueryText, no_returning}

module _ {S : Type 0} (g : Ghosts S) (sql : List ℕ) (query : IsQueryText sql) where
  -- the connection gave these rows, and nothing was written
  abbrev pub IsGiving : Held S → Held S → List Row → Type 0
  IsGiving old now rows = IsUnchanged (state g old) (state g now) × HasGiven g sql [] now rows

  never_returns : (old new : State) (rows : List Row) → Returns (understood old.now.schema sql)
      → ¬ Shown sql [] old new rows
  unfolding Shown
  never_returns old new rows returns h =
      let some = subst Returns h.1.is returns in
      let none = no_returning sql query [] old new h.0 h.1 in
      absurd (let it = rw none at some in cc)

  pub begun : (old new : Held S) → HasBegun g sql [] old new → IsGiving old new []
  begun old new (inl h) = (h.1, h.0)
  begun old new (inr h) = absurd (never_returns (state g old) (state g new) _ h.0 h.1)

  module _ (old mid new : Held S) (rows : List Row) (was : IsGiving old mid rows) where
    pub goes_on : (row : Row) → IsUnchanged (state g mid) (state g new) → Advances g mid new (Some row)
        → IsGiving old new (rows ++ row ∷ [])
    goes_on row same moved =
        (unchanged_then (state g old) (state g mid) (state g new) was.0 same, moved sql [] rows was.1)

    pub ends : Advances g mid new None → Shown sql [] (state g old) (state g new) rows
    ends moved =
        shown_before sql query (state g old) (state g mid) (state g new) was.0 rows (moved sql [] rows was.1)

    pub fails : CommitsNothing (state g old) (state g mid) → (e : Error) → FailsToAdvance g mid new e
        → FailsToQuery sql [] (state g old) (state g new) e
    fails before e failed =
        fails_before sql query (state g old) (state g mid) (state g new) was.0 before.limit before.counts e
        (failed sql [] rows was.1)
