-- What an opening makes of the rows that it finds.
use Rattle.std.specs.Prelude.{◌≡◌, ◌≤◌, ◌⊎◌, ⊤, ℕ, suc, pos, ◌^◌, Bool, true, false, not, ◌&&◌, ◌||◌}
use Rattle.std.specs.Prelude.{if◌then◌else◌, List, [], ◌∷◌, filter, length, codes, bytes_eq, nat_le, nat_lt, Option}
use Rattle.std.specs.Prelude.{Some, None}
use Rattle.std.specs.List.{list_any}
use Rattle.std.specs.Ordering.{int_eq}
use Rattle.sqlite.specs.declared.types.Value.{Value}
use Rattle.sqlite.specs.declared.types.Value.TheVariants.{Null, Int, Text, Blob}
use Rattle.sqlite.specs.Order.{Row, column}
use Rattle.sqlite.specs.Store.{Ghosts}
use Rattle.sqlite.specs.Held.{Held, state}
use Rattle.sqlite.specs.State.{State, Shown, FailsToQuery}
use Rattle.sqlite.specs.declared.error.Error.{Error}
use Rattle.key_string.specs.Key.{IsKey, is_key}
use Rattle.filing_model.specs.Outbox.{Entry}
use Rattle.table_rows.specs.Causes.{cause_of}
use Rattle.table_rows.specs.declared.cause.Cause.{Cause}
use Rattle.table_rows.specs.declared.cause.Cause.TheVariants.{Disk, Other}
use Rattle.outbox_tables.specs.declared.rows.TheConstants.{ALL_ENTRIES, ALL_META, ALL_TARGETS}
use Rattle.outbox_tables.specs.declared.fault.OutboxFault.{OutboxFault}
use Rattle.outbox_tables.specs.declared.fault.OutboxFault.TheVariants as fault
use Rattle.outbox_tables.specs.Entries.{FitsNumber}
use Rattle.key_string.specs.Filer.{is_filer}
use Rattle.http_messages.specs.Head.{max_body_len}
use Rattle.http_messages.specs.Posting.{IsTarget}

abbrev pub is_int : ℕ → Value → Bool
is_int n (Int k) = int_eq k (pos n)
is_int n _ = false

abbrev pub is_absent : Value → Bool
is_absent Null = true
is_absent _ = false

-- the text of a key
abbrev pub is_key_text : Value → Bool
is_key_text (Text t) = is_key t
is_key_text _ = false

-- a body within its limit
abbrev pub is_body : Value → Bool
is_body (Blob b) = nat_le (length b) max_body_len
is_body _ = false

-- a number of the register is from 1 to 2^63 - 1
abbrev pub is_number : Value → Bool
is_number (Int (pos n)) = nat_le 1 n && nat_lt n (2 ^ 63)
is_number _ = false

-- a state, with a number if it is that of a confirmed entry, and otherwise without
abbrev pub is_state : Value → Value → Bool
is_state code number =
    if is_int 1 code then is_number number
    else ((is_int 0 code || (is_int 2 code || is_int 3 code)) && is_absent number)

-- the row is that of an entry with this id, as an outbox keeps it
abbrev pub is_entry : ℕ → Row → Bool
is_entry id row =
    is_int id (column row 0) && (is_key_text (column row 1)
    && (is_body (column row 2) && is_state (column row 3) (column row 4)))

-- the rows of this id
abbrev pub with_id : ℕ → List Row → List Row
with_id id rows = filter (λ row. is_int id (column row 0)) rows

-- the rows of `target` with the id of an entry: none, or one with the number of a filing
abbrev pub is_target : List Row → Bool
is_target [] = true
is_target (row ∷ []) = is_number (column row 1)
is_target (row ∷ other ∷ rows) = false

-- the row of the entry with this id is sound, and so are the rows of its target
abbrev pub is_sound : List Row → ℕ → Row → Bool
is_sound targets id row = is_entry id row && is_target (with_id id targets)

-- the first row that is not sound, if the first of the rows has this id
abbrev pub first_damaged : List Row → ℕ → List Row → Option ℕ
first_damaged targets id [] = None
first_damaged targets id (row ∷ rows) = if is_sound targets id row then first_damaged targets (suc id) rows else Some id

-- an id from 1 to so many
abbrev pub is_id_to : ℕ → Value → Bool
is_id_to count (Int (pos n)) = nat_le 1 n && nat_le n count
is_id_to count _ = false

-- a row of `target` belongs to none of so many entries
abbrev pub is_left_over : ℕ → List Row → Bool
is_left_over count targets = list_any (λ row. not (is_id_to count (column row 0))) targets

abbrev pub or_left_over : Bool → Option ℕ → Option ℕ
or_left_over left (Some row) = Some row
or_left_over left None = if left then Some 0 else None

-- the row of the first entry that is not sound; or 0, if each is sound and a row of `target` belongs to no entry
abbrev pub damaged_row : List Row → List Row → Option ℕ
damaged_row targets rows = or_left_over (is_left_over (length rows) targets) (first_damaged targets 1 rows)

-- what the database is
abbrev pub is_outbox : Value → Bool
is_outbox (Text t) = bytes_eq t (codes "outbox")
is_outbox _ = false

-- the code of a filer
abbrev pub filer_text : Value → Option (List ℕ)
filer_text (Text t) = if is_filer t then Some t else None
filer_text _ = None

-- the filer in the one row of `outbox_meta`, if that is an outbox in this form
abbrev pub filer_in : ℕ → List Row → Option (List ℕ)
filer_in form (row ∷ []) =
    if is_int 1 (column row 0) && (is_outbox (column row 1) && is_int form (column row 2))
    then filer_text (column row 3) else None
filer_in form _ = None

-- a row of two columns
abbrev pub IsPair : Row → Type 0
IsPair row = row ≡ column row 0 ∷ column row 1 ∷ []

-- an entry that may be sent, with a number that fits
pub record IsKept (e : Entry) : Type 0 where
  pub key : IsKey e.key
  pub target : IsTarget e.target
  pub body : length e.body ≤ max_body_len
  pub number : FitsNumber e.state

-- ---- why a database is not opened

abbrev pub meta_text : List ℕ
meta_text = ALL_META.now

abbrev pub targets_text : List ℕ
targets_text = ALL_TARGETS.now

abbrev pub entries_text : List ℕ
entries_text = ALL_ENTRIES.now

-- the query failed for this cause
abbrev pub StopsFor : Cause → List ℕ → State → State → Type 0
StopsFor cause text old new = (error : Error) × FailsToQuery text [] old new error × (cause_of error ≡ cause)

-- `outbox_meta` cannot be read, for another cause than memory or disk, or its rows are not the one row of this form
abbrev pub IsNoOutbox : ℕ → State → State → Type 0
IsNoOutbox form old new =
    ((rows : List Row) × Shown meta_text [] old new rows × (filer_in form rows ≡ None))
    ⊎ StopsFor Other meta_text old new

-- this filer was found in the row of this form
abbrev pub FindsFiler : ℕ → List ℕ → State → State → Type 0
FindsFiler form filer old new = (rows : List Row) × Shown meta_text [] old new rows × (filer_in form rows ≡ Some filer)

-- a filer was found in the row of this form
abbrev pub ReadsFiler : ℕ → State → State → Type 0
ReadsFiler form old new = (filer : List ℕ) × FindsFiler form filer old new

-- whatever else the database has, and however its tables are declared, the row of `outbox_meta` is that of an outbox of
-- this filer
abbrev pub SaysOutbox : {S : Type 0} → Ghosts S → List ℕ → Held S → Type 0
SaysOutbox {S} g filer conn = (mid : Held S) × FindsFiler 2 filer (state g conn) (state g mid)

-- The row is the first, in the order of the ids and counted from 1, that is not sound or has no sound target. Or it is
-- 0, and a row of `target` belongs to no entry, or `entry` cannot be read, for another cause than memory or disk.
abbrev pub IsDamagedAt : List Row → ℕ → State → State → Type 0
IsDamagedAt targets row old new =
    ((rows : List Row) × Shown entries_text [] old new rows × (damaged_row targets rows ≡ Some row))
    ⊎ ((row ≡ 0) × StopsFor Other entries_text old new)

-- The rows of `target` were read, and then this row is damaged; or the row is 0, and `target` cannot be read, for
-- another cause than memory or disk.
abbrev pub AreDamaged : {S : Type 0} → Ghosts S → ℕ → Held S → Held S → Type 0
AreDamaged {S} g row old new =
    ((row ≡ 0) × StopsFor Other targets_text (state g old) (state g new))
    ⊎ ((mid : Held S) × (targets : List Row) × Shown targets_text [] (state g old) (state g mid) targets
    × IsDamagedAt targets row (state g mid) (state g new))

-- the disk failed under the query of `target`, or under that of `entry` after `target` was read
abbrev pub AreStopped : {S : Type 0} → Ghosts S → Held S → Held S → Type 0
AreStopped {S} g old new =
    StopsFor Disk targets_text (state g old) (state g new)
    ⊎ ((mid : Held S) × (targets : List Row) × Shown targets_text [] (state g old) (state g mid) targets
    × StopsFor Disk entries_text (state g mid) (state g new))

-- What a refusal says of a database that was looked at for an outbox in this form; there are no other refusals. The
-- filer was found before a row was damaged in that way, or before the disk failed so under the other queries.
abbrev pub IsRefusedIn : {S : Type 0} → Ghosts S → ℕ → (ℕ → Held S → Held S → Type 0) → (Held S → Held S → Type 0)
    → OutboxFault → Held S → Held S → Type 0
IsRefusedIn g form Damages Stops fault.BadFiler old new = ⊥
IsRefusedIn g form Damages Stops fault.Taken old new = ⊥
IsRefusedIn g form Damages Stops fault.NotOurs old new = IsNoOutbox form (state g old) (state g new)
IsRefusedIn {S} g form Damages Stops (fault.Damaged row) old new =
    (mid : Held S) × ReadsFiler form (state g old) (state g mid) × Damages row mid new
IsRefusedIn g form Damages Stops fault.Memory old new = ⊤
IsRefusedIn {S} g form Damages Stops fault.Disk old new =
    StopsFor Disk meta_text (state g old) (state g new)
    ⊎ ((mid : Held S) × ReadsFiler form (state g old) (state g mid) × Stops mid new)

-- what a refusal of an opening says of the database
abbrev pub IsRefused : {S : Type 0} → Ghosts S → OutboxFault → Held S → Held S → Type 0
IsRefused g = IsRefusedIn g 2 (AreDamaged g) (AreStopped g)
