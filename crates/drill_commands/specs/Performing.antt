-- What `drill` does with its words and with the script that its input has. `out` and `out'` are what the output has
-- before and after.
use Rattle.std.specs.Prelude.{◌≡◌, ◌⊎◌, ℕ, List, [], Option, Result, Ok, Err}
use Rattle.std.specs.Borrow.{MutBor}
use Rattle.std.specs.Io.KnownBytes.{Appends}
use Rattle.clap.specs.Words.{HasKind, Kinds, kind_of}
use Rattle.clap.specs.declared.error.Error.{Error}
use Rattle.command_line.specs.declared.fault.CommandFault.TheVariants as command
use Rattle.command_line.specs.Reading.{IsWhole}
use Rattle.command_line.specs.Status.{IsRefusalStatus}
use Rattle.http_wire.specs.Devices.{device_inner, device_failures}
use Rattle.http_wire.specs.declared.device.Device.{Device}
use Rattle.drill_commands.specs.declared.fault.NotDone.{NotDone}
use Rattle.drill_commands.specs.declared.fault.NotDone.TheVariants as fault
use Rattle.drill_commands.specs.Refusals.{IsNotDrilled, IsNotRead}
use Rattle.drill_commands.specs.Shown.{IsShownOf}
use Rattle.drill_commands.specs.Status.{status_of, status_by}

-- ---- a script

-- the text is written, and the status is 0; or the output failed
abbrev pub IsWritten : List ℕ → Option (List ℕ) → Option (List ℕ) → Result ℕ NotDone → Type 0
IsWritten text out out' result =
    ((result ≡ Ok 0) × Appends out out' text) ⊎ (result ≡ Err (fault.Command command.Output))

-- What is shown of the script that these bytes spell is written; or the status says why nothing is shown, and nothing
-- is written.
abbrev pub PlaysScript : List ℕ → Option (List ℕ) → Option (List ℕ) → Result ℕ NotDone → Type 0
PlaysScript bytes out out' result =
    ((text : List ℕ) × IsShownOf bytes text × IsWritten text out out' result)
    ⊎ ((why : NotDone) × IsNotDrilled bytes why × (result ≡ Ok (status_of why)) × (out' ≡ out))

-- All bytes that the reader has left are read, at most 8,388,608, and played; or they are not read, and nothing is
-- written. The first arguments are what contracts see of the reader.
abbrev pub PerformsScript : {R : Type 0} → (R → Option (List ℕ)) → (R → ℕ) → R → R → Option (List ℕ)
    → Option (List ℕ) → Result ℕ NotDone → Type 0
PerformsScript left failures before after out out' result =
    ((bytes : List ℕ) × IsWhole (left before) (left after) 8388608 bytes × PlaysScript bytes out out' result)
    ⊎ ((why : NotDone) × IsNotRead left failures before after why × (result ≡ Err why) × (out' ≡ out))

-- ---- the program

-- what an input has left that is read as a device
abbrev pub left_of : {R : Type 0} → (R → Option (List ℕ)) → Device (MutBor R) → Option (List ℕ)
left_of {R} remaining device = remaining (device_inner {T = MutBor R} device).now

-- The script is what this input has left. It is read as a device, none of whose reads failed before.
pub record PerformsInput {R : Type 0} (remaining : R → Option (List ℕ)) (input : R) (out out' : Option (List ℕ))
    (status : ℕ) : Type 0 where
  pub before : Device (MutBor R)
  pub after : Device (MutBor R)
  pub input_is_read : (device_inner {T = MutBor R} before).now ≡ input
  pub fresh : device_failures before ≡ 0
  pub result : Result ℕ NotDone
  pub performs : PerformsScript (left_of remaining) device_failures before after out out' result
  pub says : status ≡ status_by result

-- the words are refused for one of these reasons, or memory ran out
abbrev pub RefusesWords : Kinds → ℕ → Type 0
RefusesWords reasons status = (error : Error) × HasKind reasons error × IsRefusalStatus (kind_of error) status

-- What the words ask for is done: the script of the input is played if `clap` takes them.
abbrev pub Performs : {R : Type 0} → (R → Option (List ℕ)) → R → Kinds → Option (List ℕ) → Option (List ℕ) → ℕ
    → Type 0
Performs remaining input reasons out out' status =
    ((reasons ≡ []) × PerformsInput remaining input out out' status) ⊎ RefusesWords reasons status
