-- What waits to be kept with one commit. No public clause cites this file.
use Rattle.std.specs.Prelude.{◌≡◌, ◌≢◌, ◌⊎◌, ◌<◌, ◌≤◌, ◌+◌, ◌++◌, [], ◌∷◌, ℕ, true, false, List, Option, Some, None}
use Rattle.std.specs.Prelude.{Bool, Result, Ok, Err, IfSome, IsSome, length, map, take, string_bytes}
use Rattle.std.specs.List.{AllByRecursion, sum_by}
use Rattle.std.specs.declared.alloc.AllocError.{AllocError}
use Rattle.key_string.specs.Filer.{is_filer}
use Rattle.http_messages.specs.Head.{closes}
use Rattle.http_messages.specs.Message.{Arrival, Read, Refused}
use Rattle.http_messages.specs.Posting.{IsTarget}
use Rattle.http_messages.specs.Request.{Request as Message}
use Rattle.connection_hall.specs.declared.hall.Hall.{Hall}
use Rattle.connection_hall.specs.declared.stream.Stream.{Ghosts}
use Rattle.connection_hall.specs.Running.{arrival_at, number_at}
use Rattle.sqlite.specs.Store.{Ghosts as Disk}
use Rattle.filing_model.specs.Request.{Request, has_key}
use Rattle.filing_model.specs.Text.{FileReport, route}
use Rattle.filing_model.specs.Views.{the_request}
use Rattle.gateway_server.specs.Decided.{IsPhrased}
use Rattle.gateway_server.specs.declared.decide.Decided.{Decided}
use Rattle.intake_core.specs.declared.intake.Intake.{Intake}
use Rattle.intake_core.specs.Held.{ForRequests, HoldsRequests, IsTransitionIf, KeepsSetting, limit_of, old_style_in}
use Rattle.gateway_rounds.specs.declared.new.New.{New}
use Rattle.gateway_rounds.specs.declared.sort.Sorted.{Sorted}
use Rattle.gateway_rounds.specs.declared.sort.Sorted.TheVariants as sorted
use Rattle.gateway_rounds.specs.Places.{Decides, IsAnswerBy, IsTextOf}
use Rattle.gateway_rounds.specs.Ports.{Port}
use Rattle.gateway_rounds.specs.Rounds.{asks_to_file, body_len_at}
use Rattle.gateway_rounds.specs.Turns.{Turn, DecidesTurns, IsBefore, LooksUpTurns, TakesTurns, TellsTurns}

-- ---- places

-- the places of turns, and of what is new
abbrev pub places_of : List Turn → List ℕ
places_of turns = map (λ turn. turn.place) turns

abbrev pub places_in : List New → List ℕ
places_in news = map (λ new. new.place) news

-- none of them is this one
abbrev pub AreOther : ℕ → List ℕ → Type 0
AreOther place places = AllByRecursion (λ other. other ≢ place) places

-- this holds of each two of them, in their order
abbrev pub InOrder : (ℕ → ℕ → Type 0) → List ℕ → Type 0
InOrder R [] = Unit {0}
InOrder R (place ∷ places) = AllByRecursion (R place) places × InOrder R places

-- no place is there twice
abbrev pub AreApart : List ℕ → Type 0
AreApart places = InOrder (λ place later. place ≢ later) places

-- ---- what is new

-- the request, with the body that came
abbrev pub request_of : New → List ℕ → Request
request_of new body = the_request (string_bytes new.filer) new.key new.target body

abbrev pub body_of : Option Arrival → List ℕ
body_of None = []
body_of (Some (Read message)) = message.body
body_of (Some (Refused refusal)) = []

abbrev pub asked_in : {S : Type 0} → Hall S → New → Request
asked_in hall new = request_of new (body_of (arrival_at hall new.place))

-- this message asks for it
pub record IsAskedBy (message : Message) (new : New) : Type 0 where
  pub asks : route message ≡ FileReport (request_of new message.body)
  pub closing : new.closes ≡ closes message.head
  pub len : new.len ≡ length message.body
  pub filer : is_filer (string_bytes new.filer) ≡ true
  pub target : IsTarget new.target

-- a message that asks for it waits in its place
pub record IsAskedIn {S : Type 0} (hall : Hall S) (new : New) : Type 0 where
  pub message : Message
  pub waits : arrival_at hall new.place ≡ Some (Read message)
  pub asked : IsAskedBy message new

-- each that was looked up and found to be new is the first of its filer and key after these requests
abbrev pub AreFound : {S : Type 0} → Hall S → List New → List Request → Type 0
AreFound hall news before =
    AllByRecursion (λ new. new.is_new ≡ true → has_key before (asked_in hall new) ≡ false) news

-- ---- what waits is sorted

-- it was decided, and nothing is kept of it; or it is new, if it was found to be
abbrev pub IsSortedAfter : {S : Type 0} → ℕ → List Request → List Request → Hall S → Arrival
    → Result Sorted AllocError → Type 0
IsSortedAfter limit old_style before hall arrival (Ok (sorted.AtOnce verdict)) =
    Decides limit old_style before before arrival verdict.decided verdict.closes
IsSortedAfter limit old_style before hall arrival (Ok (sorted.Filing new)) =
    new.is_new ≡ true → has_key before (asked_in hall new) ≡ false
IsSortedAfter limit old_style before hall arrival (Err e) = Unit {0}

-- what is decided has a reply that can be written; what is new waits in this place
abbrev pub IsSorted : {S : Type 0} → Hall S → ℕ → Result Sorted AllocError → Type 0
IsSorted hall place (Ok (sorted.AtOnce verdict)) = IsPhrased verdict.decided
IsSorted hall place (Ok (sorted.Filing new)) = (new.place ≡ place) × IsAskedIn hall new
IsSorted hall place (Err e) = Unit {0}

-- Nothing is kept, and this holds of the requests that are held.
pub record LooksUp {D : Type 0} (g : Disk D) (Holds : List Request → List Request → Type 0) (intake intake' : Intake D)
    : Type 0 where
  pub same : ForRequests g intake intake' (λ before. HoldsRequests g intake' before
      × Holds (old_style_in intake before) before)
  pub setting : KeepsSetting g intake intake'

-- ---- the first part of a round

-- there is no room for so many bytes more
abbrev pub IsFull : List New → ℕ → Type 0
IsFull group len = (64 ≤ length group) ⊎ (4194304 < sum_by (λ new. new.len) group + len)

-- there is
abbrev pub HasRoom : List New → ℕ → Type 0
HasRoom group len = (length group < 64) × (sum_by (λ new. new.len) group + len ≤ 4194304)

-- it is no more than may be
abbrev pub IsWithin : List New → Type 0
IsWithin group = (length group ≤ 64) × (sum_by (λ new. new.len) group ≤ 4194304)

-- What waits in a place had its turn, and the group stays.
pub record HadItsTurn {S N D : Type 0} (s : Ghosts S N) (g : Disk D) (place : ℕ) (old new : Port S)
    (group group' : List New) (intake intake' : Intake D) : Type 0 where
  pub turn : Turn
  pub there : turn.place ≡ place
  pub takes : LooksUpTurns s g (turn ∷ []) old new intake intake'
  pub group_is : group' ≡ group

-- What waits in a place joined the group.
pub record Joined {S D : Type 0} (g : Disk D) (place : ℕ) (old new : Port S) (group group' : List New)
    (intake intake' : Intake D) : Type 0 where
  pub one : New
  pub there : one.place ≡ place
  pub waits : IsAskedIn old.hall one
  pub same : new ≡ old
  pub group_is : group' ≡ group ++ one ∷ []
  pub room : HasRoom group one.len
  pub found : LooksUp g (λ old_style before. one.is_new ≡ true → has_key before (asked_in old.hall one) ≡ false)
      intake intake'

-- What waits in a place found no room in the group.
pub record HadNoRoom {S D : Type 0} (g : Disk D) (place : ℕ) (old new : Port S) (group group' : List New)
    (intake intake' : Intake D) : Type 0 where
  pub same : new ≡ old
  pub group_is : group' ≡ group
  pub full : IsFull group (body_len_at old.hall place)
  pub looks : LooksUp g (λ old_style before. Unit {0}) intake intake'

abbrev pub SortsPlace : {S N D : Type 0} → Ghosts S N → Disk D → ℕ → Port S → Port S → List New → List New → Intake D
    → Intake D → Bool → Type 0
SortsPlace s g place old new group group' intake intake' true =
    HadItsTurn s g place old new group group' intake intake' ⊎ Joined g place old new group group' intake intake'
SortsPlace s g place old new group group' intake intake' false =
    HadNoRoom g place old new group group' intake intake'

-- the first place whose arrival found no room, after this one was looked at
abbrev pub left_after : Option ℕ → ℕ → Bool → Option ℕ
left_after (Some left) place has_room = Some left
left_after None place true = None
left_after None place false = Some place

-- what waits in this place found no room when it was looked at, and is not before the first that did so
pub record IsLeftOut {S : Type 0} (from : ℕ) (hall : Hall S) (group : List New) (left : Option ℕ) (place : ℕ) : Type 0
  where
    pub first : List New
    pub rest : List New
    pub are : group ≡ first ++ rest
    pub before : AllByRecursion (λ p. IsBefore from p place) (places_in first)
    pub full : IsFull first (body_len_at hall place)
    pub where' : (there : ℕ) × (left ≡ Some there) × ((there ≡ place) ⊎ IsBefore from there place)

-- it waits in this place, which is none of these
pub record IsLeftAt {S : Type 0} (hall : Hall S) (turns : List ℕ) (group : List ℕ) (place : ℕ) : Type 0 where
  pub no_turn : AreOther place turns
  pub not_in_group : AreOther place group
  pub waits : IsSome (arrival_at hall place)

-- Where something waited, in all places that were looked at, there was a turn, or it joined the group, or found no
-- room.
pub record SortsUpTo {S N D : Type 0} (s : Ghosts S N) (g : Disk D) (from : ℕ) (Looked : ℕ → Type 0) (old new : Port S)
    (group : List New) (left : Option ℕ) (intake intake' : Intake D) : Type 0 where
  pub turns : List Turn
  pub takes : LooksUpTurns s g turns old new intake intake'
  pub turns_order : InOrder (IsBefore from) (places_of turns)
  pub turns_looked : AllByRecursion Looked (places_of turns)
  pub group_order : InOrder (IsBefore from) (places_in group)
  pub group_looked : AllByRecursion Looked (places_in group)
  pub waits : AllByRecursion (IsAskedIn old.hall) group
  pub apart : AllByRecursion (λ place. AreOther place (places_of turns)) (places_in group)
  pub found : ForRequests g intake intake' (AreFound old.hall group)
  pub each : (i : ℕ) → Looked i → AreOther i (places_of turns) → AreOther i (places_in group)
      → (arrival_at old.hall i ≡ None) ⊎ IsLeftOut from old.hall group left i
  pub within : IsWithin group
  pub left_looked : IfSome left Looked
  pub left_at : IfSome left (IsLeftAt old.hall (places_of turns) (places_in group))

-- the places that were looked at, from a place on up to another one, and then from the first one on up to another one
abbrev pub IsBehind : ℕ → ℕ → ℕ → Type 0
IsBehind from upto place = (from ≤ place) × (place < upto)

abbrev pub IsRound : ℕ → ℕ → ℕ → Type 0
IsRound from upto place = (from ≤ place) ⊎ (place < upto)

-- All places were looked at.
abbrev pub SortsAll : {S N D : Type 0} → Ghosts S N → Disk D → ℕ → Port S → Port S → List New → Option ℕ → Intake D
    → Intake D → Type 0
SortsAll s g from old new group left intake intake' =
    SortsUpTo s g from (λ place. Unit {0}) old new group left intake intake'

-- ---- the group

-- a turn in which what is new was told what was decided of it
pub record IsTurnOf {S : Type 0} (hall : Hall S) (new : New) (decided : Decided) (turn : Turn) : Type 0 where
  pub there : turn.place ≡ new.place
  pub message : Message
  pub waits : arrival_at hall new.place ≡ Some (Read message)
  pub asked : IsAskedBy message new
  pub step : turn.step
      ≡ Some (record { on = number_at hall new.place; arrival = Read message; mark = decided.mark })
  pub told : IfSome turn.answer (IsAnswerBy hall new.place (IsTextOf decided new.closes) false)

-- each is the turn of its own
abbrev pub AreTurnsOf : {S : Type 0} → Hall S → List New → List Decided → List Turn → Type 0
AreTurnsOf hall [] [] [] = Unit {0}
AreTurnsOf hall (new ∷ news) (d ∷ ds) (turn ∷ turns) = IsTurnOf hall new d turn × AreTurnsOf hall news ds turns
AreTurnsOf hall _ _ _ = ⊥

-- What is new was told what was decided of all of it, one after another.
pub record TellsGroup {S N : Type 0} (s : Ghosts S N) (old new : Port S) (group : List New) (ds : List Decided)
    : Type 0 where
  pub turns : List Turn
  pub tells : TellsTurns s turns old new
  pub are : AreTurnsOf old.hall group ds turns

-- The first of what is new were told so.
pub record ToldUpTo {S N : Type 0} (s : Ghosts S N) (at : ℕ) (old new : Port S) (group : List New) (ds : List Decided)
    : Type 0 where
  pub turns : List Turn
  pub tells : TellsTurns s turns old new
  pub are : AreTurnsOf old.hall (take at group) (take at ds) turns

-- The first of what is new were decided and told, each by itself.
pub record FiledUpTo {S N D : Type 0} (s : Ghosts S N) (g : Disk D) (at : ℕ) (old new : Port S) (group : List New)
    (intake intake' : Intake D) : Type 0 where
  pub turns : List Turn
  pub takes : TakesTurns s g turns old new intake intake'
  pub there : places_of turns ≡ places_in (take at group)
  pub asks : AllByRecursion (λ turn. asks_to_file turn.step) turns

-- What is new was decided and told, one after another.
pub record FilesGroup {S N D : Type 0} (s : Ghosts S N) (g : Disk D) (old new : Port S) (group : List New)
    (intake intake' : Intake D) : Type 0 where
  pub turns : List Turn
  pub tells : TellsTurns s turns old new
  pub there : places_of turns ≡ places_in group
  pub asks : AllByRecursion (λ turn. asks_to_file turn.step) turns
  pub decided : IsTransitionIf g (AreFound old.hall group) intake intake' (λ old_style before after.
      DecidesTurns (limit_of intake) old_style before after turns)
  pub setting : KeepsSetting g intake intake'
