-- Entries that are sent one after another; own rules.
use Rattle.std.specs.Prelude.{◌≡◌, ◌≢◌, ◌⊎◌, ℕ, Bool, true, false, List, [], ◌∷◌, ◌++◌, map, filter}
use Rattle.std.specs.Prelude.{flat_map, Option, Result, Ok, Err}
use Rattle.std.specs.List.{AllByRecursion}
use Rattle.std.specs.Io.KnownBytes.{Appends}
use Rattle.sqlite.specs.Store.{Ghosts}
use Rattle.sqlite.specs.State.{HasCleanDisk}
use Rattle.filing_model.specs.Outbox.{Entry}
use Rattle.filing_model.specs.Views.{view_state}
use Rattle.filing_model.specs.declared.state.State.{State}
use Rattle.outbox_tables.specs.Entries.{numbered}
use Rattle.outbox_core.specs.Entries.{is_open, is_open_state}
use Rattle.outbox_core.specs.OutboxParts.{OutboxParts, shows, HasEntries, ForEntries}
use Rattle.filer_client.specs.declared.fault.ExchangeFault.{ExchangeFault}
use Rattle.outbox_process.specs.declared.fault.Why.{Why}
use Rattle.outbox_process.specs.declared.tasks.rounds.Ending.{Ending}
use Rattle.outbox_process.specs.declared.tasks.rounds.Round.{Round}
use Rattle.outbox_process.specs.Dials.{Traffic}
use Rattle.outbox_process.specs.Endings.{ending_by, counts}
use Rattle.outbox_process.specs.Faults.{is_of_exchange, is_of_entry, IsUnread, IsNotPrinted}
use Rattle.outbox_process.specs.Lines.{line_of, nothing_open}
use Rattle.outbox_process.specs.Looking.{AreAny, DoesNothing}
use Rattle.outbox_process.specs.Sending.{IsOpenAt, IsSentOnce, IsBroken, IsTried, entries_after, IsTold, Sends}

-- the ids of the open entries
abbrev pub open_ids : List Entry → List ℕ
open_ids entries = map (λ e. e.0) (filter is_open (numbered entries))

-- whether an id and a state, as `states` answers them, are those of an open entry
abbrev pub is_open_pair : ℕ × State → Bool
is_open_pair (id, state) = is_open_state (view_state state)

-- ---- turns

-- the turn of an entry: its id, and what its exchange answered
pub record Turn : Type 0 where
  pub id : ℕ
  pub came : Result State ExchangeFault

-- the entry was sent; or its exchange was broken off by a fault of its own, and the network does not give up
abbrev pub IsTurn : List ℕ → List Entry → ℕ → Traffic → Traffic → Result State ExchangeFault → Type 0
IsTurn filer entries id old new (Ok to) = IsSentOnce filer entries id old new to
IsTurn filer entries id old new (Err fault) =
    IsOpenAt entries id × IsBroken filer entries id old new fault × (is_of_exchange fault ≡ true)
    × (new.gives_up ≡ false)

-- each turn was among the entries that the one before it left, and `after` are those that the last one left
abbrev pub SentInTurn : List ℕ → List Entry → Traffic → List Turn → List Entry → Traffic → Type 0
SentInTurn filer entries old [] after new = (after ≡ entries) × (new ≡ old)
SentInTurn filer entries old (turn ∷ turns) after new =
    (between : Traffic) × IsTurn filer entries turn.id old between turn.came
    × SentInTurn filer (entries_after entries turn.id turn.came) between turns after new

abbrev pub ids_of : List Turn → List ℕ
ids_of turns = map (λ turn. turn.id) turns

abbrev pub lines_of : List Turn → List ℕ
lines_of turns = flat_map (λ turn. line_of turn.id turn.came) turns

-- how they ended
abbrev pub endings : List Turn → List Ending
endings turns = map (λ turn. ending_by turn.came) turns

-- ---- a round

-- If `Are` holds of the entries before, the entries of these ids had their turns, and the line of each was printed.
pub record HaveTurns {S : Type 0} (g : Ghosts S) (Are : List Entry
    → Type 0) (ids : List ℕ) (old new : Traffic) (box box' : OutboxParts S) (out out' : Option (List ℕ)) : Type 0 where
  pub turns : List Turn
  pub they : ids_of turns ≡ ids
  pub in_turn : ForEntries g box box' (λ entries. Are entries
      → (after : List Entry) × SentInTurn box.filer entries old turns after new × HasEntries g box' after)
  pub told : Appends out out' (lines_of turns)
  pub filer : box'.filer ≡ box.filer
  pub clean : HasCleanDisk (shows g box') → HasCleanDisk (shows g box)

-- the fault is not one of a single exchange, or the network gives up
abbrev pub EndsRound : Traffic → Why → Type 0
EndsRound new why = (is_of_entry why ≡ false) ⊎ (new.gives_up ≡ true)

-- The first of the entries of these ids had their turns, and the next one ended the round: it was tried, and failed by
-- this fault.
pub record StopsAt {S : Type 0} (g : Ghosts S) (Are : List Entry
    → Type 0) (ids : List ℕ) (old new : Traffic) (box box' : OutboxParts S) (out out' : Option (List ℕ))
    (fault : Why) : Type 0 where
  pub turns : List Turn
  pub next : ℕ
  pub rest : List ℕ
  pub splits : ids ≡ ids_of turns ++ next ∷ rest
  pub came : Result State Why
  pub tried :
      ForEntries g box box' (λ entries. Are entries
      → (after : List Entry) × (between : Traffic) × SentInTurn box.filer entries old turns after between
      × IsTried box.filer after next between new came × HasEntries g box' (entries_after after next came))
  -- what had been printed before it
  pub so_far : Option (List ℕ)
  pub before : Appends out so_far (lines_of turns)
  pub told : IsTold next came so_far out' (Err fault)
  pub ends : EndsRound new fault
  pub filer : box'.filer ≡ box.filer
  pub clean : HasCleanDisk (shows g box') → HasCleanDisk (shows g box)

-- the entries of these ids are open, and no id is in the list twice
abbrev pub AreToSend : List ℕ → List Entry → Type 0
AreToSend [] entries = Unit {0}
AreToSend (id ∷ ids) entries = IsOpenAt entries id × AllByRecursion (λ other. other ≢ id) ids × AreToSend ids entries

-- the entry of this id had its turn, and the answer says how it ended; or it ended the round
abbrev pub TakesTurn : {S : Type 0} → Ghosts S → ℕ → Traffic → Traffic → OutboxParts S → OutboxParts S → Option (List ℕ)
    → Option (List ℕ) → Result Ending Why → Type 0
TakesTurn g id old new box box' out out' (Ok ending) =
    (made : HaveTurns g (λ entries. IsOpenAt entries id) (id ∷ []) old new box box' out out')
    × (endings made.turns ≡ ending ∷ [])
TakesTurn g id old new box box' out out' (Err fault) =
    Sends g (λ entries. IsOpenAt entries id) id old new box box' out out' (Err fault) × EndsRound new fault

-- the entries of these ids had their turns, and the answer says how they ended; or one of them ended the round
abbrev pub SendsEach : {S : Type 0} → Ghosts S → List ℕ → Traffic → Traffic → OutboxParts S → OutboxParts S
    → Option (List ℕ) → Option (List ℕ) → Result Round Why → Type 0
SendsEach g ids old new box box' out out' (Ok round) =
    (made : HaveTurns g (AreToSend ids) ids old new box box' out out') × (round ≡ counts (endings made.turns))
SendsEach g ids old new box box' out out' (Err fault) = StopsAt g (AreToSend ids) ids old new box box' out out' fault

-- one more line was printed if there are no ids, and otherwise none
abbrev pub EndsIn : List ℕ → Option (List ℕ) → Option (List ℕ) → Type 0
EndsIn [] so_far out' = Appends so_far out' nothing_open
EndsIn (id ∷ ids) so_far out' = out' ≡ so_far

-- Each entry that was open had one turn, in the order of the ids, and the answer says how many there were and how they
-- ended.
pub record SendsWhole {S : Type 0} (g : Ghosts S) (old new : Traffic) (box box' : OutboxParts S)
    (out out' : Option (List ℕ)) (round : Round) : Type 0 where
  pub ids : List ℕ
  pub are : ForEntries g box box' (λ entries. ids ≡ open_ids entries)
  pub so_far : Option (List ℕ)
  pub made : HaveTurns g AreAny ids old new box box' out so_far
  pub last : EndsIn ids so_far out'
  pub counts_are : round ≡ counts (endings made.turns)

-- An open entry ended the round.
pub record SendsSome {S : Type 0} (g : Ghosts S) (old new : Traffic) (box box' : OutboxParts S)
    (out out' : Option (List ℕ)) (fault : Why) : Type 0 where
  pub ids : List ℕ
  pub are : ForEntries g box box' (λ entries. ids ≡ open_ids entries)
  pub stops : StopsAt g AreAny ids old new box box' out out' fault

-- No entry was open, and that could not be printed.
pub record FindsNone {S : Type 0} (g : Ghosts S) (old new : Traffic) (box box' : OutboxParts S)
    (fault : Why) : Type 0 where
  pub none : ForEntries g box box' (λ entries. (open_ids entries ≡ []) × HasEntries g box' entries)
  pub filer : box'.filer ≡ box.filer
  pub traffic : new ≡ old
  pub told : IsNotPrinted fault

abbrev pub SendsAll : {S : Type 0} → Ghosts S → Traffic → Traffic → OutboxParts S → OutboxParts S → Option (List ℕ)
    → Option (List ℕ) → Result Round Why → Type 0
SendsAll g old new box box' out out' (Ok round) = SendsWhole g old new box box' out out' round
SendsAll g old new box box' out out' (Err fault) =
    SendsSome g old new box box' out out' fault ⊎ (FindsNone g old new box box' fault
    ⊎ (IsUnread fault × DoesNothing g old new box box' out out'))
