-- The moments at which the requests of an open register came, in milliseconds since 1970-01-01T00:00:00Z.
use Rattle.std.specs.Prelude.{◌≡◌, ◌∷◌, ℕ, List, get_or, length, map, option_map, None, Option, Some, IsTrue}
use Rattle.sqlite.specs.Store.{Ghosts}
use Rattle.sqlite.specs.State.{Survives}
use Rattle.sqlite.specs.Tree.{Trees}
use Rattle.filing_model.specs.Request.{Request}
use Rattle.table_rows.specs.Standing.{HasCommitted}
use Rattle.register_rows.specs.declared.moment.Moment.{Moment}
use Rattle.register_rows.specs.Received.{Received}
use Rattle.register_tables.specs.Registers.{LeavesOnlyReceived}
use Rattle.register_store.specs.declared.outcome.NewRow.{NewRow}
use Rattle.register_store.specs.Store.{StoreParts, shows, ForRequests, HasRequests}

-- While the store is open, its rows have these moments, a place for each kept request, and they are committed.
pub record HasMoments {S : Type 0} (g : Ghosts S) (store : StoreParts S) (moments : List (Option ℕ)) : Type 0 where
  pub stands : HasCommitted (λ db. Received db moments) (shows g store)
  pub one_each : length moments ≡ store.kept

-- a moment that was read
abbrev pub milliseconds_of : Option Moment → Option ℕ
milliseconds_of moment = option_map (λ m. m.milliseconds) moment

-- the moment of the kept request at this place, from 1; `None` if it was kept without one, or if there is no such
-- request
abbrev pub moment_in : List (Option ℕ) → ℕ → Option ℕ
moment_in moments seq = get_or (None ∷ moments) seq None

-- the moments with which these are to be kept
abbrev pub moments_of : List NewRow → List (Option ℕ)
moments_of rows = map (λ row. Some row.moment.milliseconds) rows

-- If the disk is clean at the end, this holds of the requests that the store had before, and of their moments.
abbrev pub ForMoments : {S : Type 0} → Ghosts S → StoreParts S → StoreParts S
    → (List Request → List (Option ℕ) → Type 0) → Type 0
ForMoments g old new Holds =
    ForRequests g old new (λ F. (moments : List (Option ℕ)) → HasMoments g old moments → Holds F moments)

-- the store is open, and a crash now leaves the rows of these requests, with these moments, and no others
abbrev pub IsDurableWith : {S : Type 0} → Ghosts S → StoreParts S → ℕ → List Request → List (Option ℕ) → Type 0
IsDurableWith g store old_style F moments =
    IsTrue (shows g store).is_open × LeavesOnlyReceived (shows g store) old_style F moments

-- A crash in the call leaves what one before it could leave, or these trees, which depend on the requests before it and
-- on their moments.
abbrev pub SurvivesWith : {S : Type 0} → Ghosts S → StoreParts S → StoreParts S
    → (List Request → List (Option ℕ) → Trees → Type 0) → Type 0
SurvivesWith g old new Leaves =
    Survives (shows g old) (shows g new) (λ trees. (F : List Request) (moments : List (Option ℕ))
    → HasRequests g old F → HasMoments g old moments → IsTrue (shows g old).is_open → Leaves F moments trees)
