-- What an errand does with an outbox that is open.
use Rattle.std.specs.Prelude.{◌≡◌, ℕ, List, Option, Some, None, Result}
use Rattle.std.specs.Result.{result_map_both}
use Rattle.sqlite.specs.Store.{Ghosts}
use Rattle.filing_model.specs.declared.state.State.{State}
use Rattle.outbox_core.specs.OutboxParts.{OutboxParts}
use Rattle.outbox_process.specs.declared.fault.Why.{Why}
use Rattle.outbox_process.specs.declared.tasks.rounds.Round.{Round}
use Rattle.outbox_process.specs.Asking.{AsksEntry}
use Rattle.outbox_process.specs.Dials.{Traffic}
use Rattle.outbox_process.specs.Endings.{none_sent, one_sent}
use Rattle.outbox_process.specs.Lines.{long_line}
use Rattle.outbox_process.specs.Looking.{AreAny}
use Rattle.outbox_process.specs.Putting.{PutsAndTells}
use Rattle.outbox_process.specs.Rounds.{SendsAll}
use Rattle.outbox_process.specs.Sending.{SendsEntry, SendsNext}
use Rattle.outbox_process.specs.Showing.{ShowsStates, ShowsEntry, ShowsEach, body_of}
use Rattle.outbox_process.specs.declared.errand.Done.{Done}
use Rattle.outbox_process.specs.declared.errand.Done.TheVariants as done
use Rattle.outbox_process.specs.declared.errand.Errand.{Errand}
use Rattle.outbox_process.specs.declared.errand.Errand.TheVariants.{Put, Send, Ask, ShowStates, ShowEntry, ShowEach}
use Rattle.outbox_process.specs.declared.errand.Errand.TheVariants.{ShowBody}
use Rattle.outbox_process.specs.declared.errand.Which.{Which}
use Rattle.outbox_process.specs.declared.errand.Which.TheVariants.{Next, Entry, All}

-- the answer of an errand, by the result of its call
abbrev pub answer : {A : Type 0} → (A → Done) → Result A Why → Result Done Why
answer done came = result_map_both done (λ why. why) came

-- the errand answers the result of a call, of which this holds
abbrev pub Answers : {A : Type 0} → (A → Done) → Result Done Why → (Result A Why → Type 0) → Type 0
Answers {A} done result Came = (came : Result A Why) × Came came × (result ≡ answer done came)

-- how many entries were sent, and how they ended: one, or none if none is open
abbrev pub next_sent : Option State → Round
next_sent None = none_sent
next_sent (Some state) = one_sent state

-- the open entry with the least id was sent, or that of this id, or each open entry
abbrev pub Sends : {S : Type 0} → Ghosts S → Which → Traffic → Traffic → OutboxParts S → OutboxParts S → Option (List ℕ)
    → Option (List ℕ) → Result Done Why → Type 0
Sends g Next net net' box box' out out' result =
    Answers (λ state. done.Sent (next_sent state)) result (SendsNext g net net' box box' out out')
Sends g (Entry id) net net' box box' out out' result =
    Answers (λ state. done.Sent (one_sent state)) result (SendsEntry g id net net' box box' out out')
Sends g All net net' box box' out out' result = Answers done.Sent result (SendsAll g net net' box box' out out')

-- What an errand does. Only to send and to ask are connections made.
abbrev pub DoesErrand : {S : Type 0} → Ghosts S → Errand → Traffic → Traffic → OutboxParts S → OutboxParts S
    → Option (List ℕ) → Option (List ℕ) → Result Done Why → Type 0
DoesErrand g (Put key target body) net net' box box' out out' result =
    Answers done.Put result (PutsAndTells g box box' key target.number body.items out out') × (net' ≡ net)
DoesErrand g (Send which) net net' box box' out out' result = Sends g which net net' box box' out out' result
DoesErrand g (Ask id form) net net' box box' out out' result =
    Answers {A = Unit {0}} (λ _. done.Shown) result (AsksEntry g form id net net' box box' out out')
DoesErrand g ShowStates net net' box box' out out' result =
    Answers {A = Unit {0}} (λ _. done.Shown) result (ShowsStates g box box' out out') × (net' ≡ net)
DoesErrand g (ShowEntry id) net net' box box' out out' result =
    Answers {A = Unit {0}} (λ _. done.Shown) result (ShowsEntry g long_line id box box' out out') × (net' ≡ net)
DoesErrand g ShowEach net net' box box' out out' result =
    Answers {A = Unit {0}} (λ _. done.Shown) result (ShowsEach g AreAny box box' out out') × (net' ≡ net)
DoesErrand g (ShowBody id) net net' box box' out out' result =
    Answers {A = Unit {0}} (λ _. done.Shown) result (ShowsEntry g body_of id box box' out out') × (net' ≡ net)
