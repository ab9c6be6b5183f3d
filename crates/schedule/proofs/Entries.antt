-- Entries of which one got another state, as the world names them.
use Rattle.std.proofs.Common.{◌≡◌, ◌≢◌, ℕ, ◌<◌, ◌≤◌, ◌-◌, zero, suc, Bool, true, false, ◌∷◌, ◌++◌, List, [], length}
use Rattle.std.proofs.Common.{Option, Some, None, refl, sym, ap, ◌∙◌, arith, slice_get, slice_set, slice_index_or}
use Rattle.std.proofs.Common.{subst, Result, Ok, Err, OnOk}
use Rattle.std.proofs.lemmas.Option.{slice_get-get_or}
use Rattle.http_messages.specs.Reply.{ReplyParts}
use Rattle.filing_model.specs.Numbered.{changed_at}
use Rattle.filing_model.specs.Outbox.{Entry, State}
use Rattle.filing_model.specs.Stopping.{No, Before}
use Rattle.filing_world.specs.World.{Outbox, numbered, renewed}
use Rattle.filing_world.specs.Step.{heard_by, box_after, takes, with_entry}
use Rattle.filing_world.proofs.Lists.{changed_renewed, renewed_same, written}
use Rattle.filing_model.specs.declared.state.State.{State as Stored}
use Rattle.outbox_core.specs.Entries.{in_state, set_state}
use Rattle.filing_model.specs.Views.{view_state}
use Rattle.schedule.specs.Outboxes.{state_or, entries_after}

-- the element at a place within a list
pub element_at : {X : Type 0} → (xs : List X) (at : ℕ) (x : X) → at < length xs → x ≡ slice_index_or xs at x
    → slice_get xs at ≡ Some x
element_at xs at x within is = slice_get-get_or xs at x within ∙ ap Some (sym is)

-- ---- one entry's state

-- an entry of the list got another state
pub state_written : (entries : List Entry) (number : ℕ) (e : Entry) (state : State) → number ≢ 0
    → number - 1 < length entries → e ≡ slice_index_or entries (number - 1) e
    → slice_set entries (number - 1) (record e { state = state }) ≡ set_state entries number state
state_written entries zero e state some within is = absurd (some refl)
state_written entries (suc n) e state some within is =
    let same : suc n - 1 ≡ n = omega arith in
    let here = element_at entries n e (omega (arith, within)) (subst (λ at. e ≡ slice_index_or entries at e) same is) in
    ap (λ at. slice_set entries at (record e { state = state })) same ∙ written entries n (record e { state = state })
    ∙ sym (changed_renewed (in_state state) entries (suc n) e here)

past_end : (entries : List Entry) (n : ℕ) (state : State) → length entries ≤ n
    → changed_at (in_state state) entries n ≡ entries
past_end [] n state past = refl
past_end (x ∷ xs) zero state past = absurd (omega (arith, past))
past_end (x ∷ xs) (suc n) state past = ap (λ es. x ∷ es) (past_end xs n state (omega (arith, past)))

-- there is no entry of this number
pub state_of_none : (entries : List Entry) (number : ℕ) (state : State) → number ≢ 0 → length entries ≤ number - 1
    → entries ≡ set_state entries number state
state_of_none entries zero state some past = absurd (some refl)
state_of_none entries (suc n) state some past = sym (past_end entries n state (omega (arith, past)))

-- the entries after a hearing, in the words of the world
heard_entries : (entries : List Entry) (number : ℕ) (e : Entry) (to : Option Stored) (state : State)
    → numbered entries number ≡ Some e → state_or e.state to ≡ state
    → entries_after entries number to ≡ renewed entries number (record e { state = state })
heard_entries entries number e None state here is =
    sym (ap (λ s. renewed entries number (record e { state = s })) (sym is) ∙ renewed_same entries number e here)
heard_entries entries number e (Some to) state here is =
    changed_renewed (in_state (view_state to)) entries number e here
    ∙ ap (λ s. renewed entries number (record e { state = s })) is

-- the outbox after that
pub box_heard : (box : Outbox) (number : ℕ) (e : Entry) (to : Option Stored) (entries : List Entry) (up : Bool)
    (heard : Option ReplyParts) → numbered box.entries number ≡ Some e
    → state_or e.state to ≡ heard_by e.state heard → entries ≡ entries_after box.entries number to → up ≡ true
    → record { filer = box.filer; entries = entries; up = up } ≡ box_after box number e heard No
box_heard box number e to entries up heard here is after still =
    let became = after ∙ heard_entries box.entries number e to (heard_by e.state heard) here is in
    λ i. record { filer = box.filer; entries = became i; up = still i }

-- an outbox that stops before a reply has heard nothing
pub box_stopped : (box new : Outbox) (number place : ℕ) (e : Entry) → numbered box.entries number ≡ Some e
    → new ≡ record box { up = false } → new ≡ box_after box number e None (Before place)
box_stopped box new number place e here is =
    is ∙ ap (λ es. record { filer = box.filer; entries = es; up = false })
    (sym (renewed_same box.entries number e here))

-- an outbox that took an entry, and one that did not
pub box_taken : (box : Outbox) (entry : Entry) (entries : List Entry) (up : Bool) → takes box entry ≡ true
    → entries ≡ box.entries ++ entry ∷ [] → up ≡ box.up
    → record { filer = box.filer; entries = entries; up = up } ≡ with_entry box entry
box_taken box entry entries up taken more still =
    rw taken (λ i. record { filer = box.filer; entries = more i; up = still i })

pub box_not_taken : (box : Outbox) (entry : Entry) (entries : List Entry) (up : Bool) → takes box entry ≡ false
    → entries ≡ box.entries → up ≡ box.up → record { filer = box.filer; entries = entries; up = up }
    ≡ with_entry box entry
box_not_taken box entry entries up taken same still =
    rw taken (λ i. record { filer = box.filer; entries = same i; up = still i })

-- what an answer carries on to
pub then_ok : {A E : Type 0} {P Q : Type 0} (answer : Result A E) → (P → Q) → OnOk answer P → OnOk answer Q
then_ok (Ok x) f p = f p
then_ok (Err e) f p = tt
