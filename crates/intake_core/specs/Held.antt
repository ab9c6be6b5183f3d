-- What an intake holds.
use Rattle.std.specs.Prelude.{◌≡◌, ◌∷◌, ◌++◌, [], ℕ, Bool, List, take}
use Rattle.sqlite.specs.Store.{Ghosts}
use Rattle.sqlite.specs.State.{State, HasCleanDisk, Survives}
use Rattle.sqlite.specs.Tree.{Trees}
use Rattle.filing_model.specs.Request.{Request, firsts}
use Rattle.register_store.specs.Store.{StoreParts, HasRequests}
use Rattle.register_store.specs.Store as register
use Rattle.intake_core.specs.declared.intake.Intake.{Intake}
use Rattle.intake_core.specs.Cache.{RemembersIfAny}

-- its register
abbrev pub store_of : {S : Type 0} → Intake S → StoreParts S
store_of i = i.store

-- what the connection of its register shows
abbrev pub shows : {S : Type 0} → Ghosts S → Intake S → State
shows g i = register.shows g i.store

-- how many keys may be kept
abbrev pub limit_of : {S : Type 0} → Intake S → ℕ
limit_of i = i.limit.keys

-- whether the database refused a call for another cause than memory, and so is asked nothing any more
abbrev pub has_stopped : {S : Type 0} → Intake S → Bool
has_stopped i = i.is_down

-- how many of the first kept requests are answered as they were before there were problem details
abbrev pub old_style_of : {S : Type 0} → Intake S → ℕ
old_style_of i = i.store.old_style

-- the old-style ones among the requests that it holds
abbrev pub old_style_in : {S : Type 0} → Intake S → List Request → List Request
old_style_in i requests = take i.store.old_style requests

-- Its register has these requests, each the first of its filer and key, and what it remembers is known of them.
pub record HoldsRequests {S : Type 0} (g : Ghosts S) (intake : Intake S) (requests : List Request) : Type 0 where
  pub firsts' : firsts requests ≡ requests
  pub rows : HasRequests g intake.store requests
  pub known : RemembersIfAny (take intake.store.old_style requests) requests intake.cache

-- So far the disk gave back what was written. What is said of rows holds if it is so at the end.
abbrev pub IsClean : {S : Type 0} → Ghosts S → Intake S → Type 0
IsClean g intake = HasCleanDisk (shows g intake)

-- What no call changes of an intake: how many keys it may keep, and how many of its requests are old-style. A disk that
-- is clean after the call was clean before it.
pub record KeepsSetting {S : Type 0} (g : Ghosts S) (old new : Intake S) : Type 0 where
  pub clean : IsClean g new → IsClean g old
  pub limit : limit_of new ≡ limit_of old
  pub old_style : old_style_of new ≡ old_style_of old

-- Of all that an intake has, only its cache changes.
pub record ChangesOnlyCache {S : Type 0} (old new : Intake S) : Type 0 where
  pub store : store_of new ≡ store_of old
  pub limit : limit_of new ≡ limit_of old
  pub stopped : has_stopped new ≡ has_stopped old
  pub moment : new.moment ≡ old.moment

-- Whatever requests it held before: if the disk is clean at the end, this holds of them.
abbrev pub ForRequests : {S : Type 0} → Ghosts S → Intake S → Intake S → (List Request → Type 0) → Type 0
ForRequests g old new Holds = IsClean g new → (requests : List Request) → HoldsRequests g old requests → Holds requests

-- these requests with another one, if it is the first of its filer and key
abbrev pub with_request : List Request → Request → List Request
with_request requests r = firsts (requests ++ r ∷ [])

-- its register is open, and a crash now leaves the rows of these requests, and no others
abbrev pub IsDurableAs : {S : Type 0} → Ghosts S → Intake S → ℕ → List Request → Type 0
IsDurableAs g intake old_style requests = register.IsDurableAs g intake.store old_style requests

-- A crash inside the call leaves what one before it could leave, or these trees, by the requests that were held.
abbrev pub SurvivesAs : {S : Type 0} → Ghosts S → Intake S → Intake S → (List Request → Trees → Type 0) → Type 0
SurvivesAs g old new Leaves =
    Survives (shows g old) (shows g new) (λ trees. (requests : List Request) → HoldsRequests g old requests
    → Leaves requests trees)

-- Whatever requests it held: if the disk is clean at the end, it holds such as this says of the old-style requests, of
-- those that it held and of those that it holds. The old-style requests stay what they were.
abbrev pub IsTransition : {S : Type 0} → Ghosts S → Intake S → Intake S
    → (List Request → List Request → List Request → Type 0) → Type 0
IsTransition g old new Into =
    IsClean g new → (before : List Request) → HoldsRequests g old before
    → (after : List Request) × HoldsRequests g new after × (old_style_in new after ≡ old_style_in old before)
    × Into (old_style_in old before) before after

-- what `IsTransition` says, if this holds of the requests that it held
abbrev pub IsTransitionIf : {S : Type 0} → Ghosts S → (List Request → Type 0) → Intake S → Intake S
    → (List Request → List Request → List Request → Type 0) → Type 0
IsTransitionIf g Holds old new Into =
    IsClean g new → (before : List Request) → HoldsRequests g old before → Holds before
    → (after : List Request) × HoldsRequests g new after × (old_style_in new after ≡ old_style_in old before)
    × Into (old_style_in old before) before after
