-- A run of `outbox` that ends with status 0 has no fault.
use Rattle.std.proofs.Common.{◌≡◌, ◌≢◌, ◌∙◌, ℕ, zero, suc, false, Result, Ok, Err, refl, sym, ap, true≢false}
use Rattle.std.specs.Prelude.{◌==◌}
use Rattle.key_string.specs.declared.fault.KeyFault.{KeyFault}
use Rattle.key_string.specs.declared.fault.KeyFault.TheVariants as key
use Rattle.outbox_tables.specs.declared.fault.OutboxFault.{OutboxFault}
use Rattle.outbox_tables.specs.declared.fault.OutboxFault.TheVariants as made
use Rattle.outbox_core.specs.declared.fault.PutFault.{PutFault}
use Rattle.outbox_core.specs.declared.fault.PutFault.TheVariants as put
use Rattle.outbox_core.specs.declared.fault.TakeFault.TheVariants as take
use Rattle.filer_client.specs.declared.fault.ExchangeFault.{ExchangeFault}
use Rattle.filer_client.specs.declared.fault.ExchangeFault.TheVariants as exchange
use Rattle.command_line.specs.Status.{database_status, read_status}
use Rattle.command_line.specs.Status as command_line
use Rattle.command_line.specs.declared.bytes.ReadFault.{ReadFault}
use Rattle.command_line.specs.declared.bytes.ReadFault.TheVariants as read
use Rattle.command_line.specs.declared.fault.CommandFault.{CommandFault}
use Rattle.command_line.specs.declared.fault.CommandFault.TheVariants as command
use Rattle.command_line.specs.declared.fault.DatabaseFault.{DatabaseFault}
use Rattle.command_line.specs.declared.fault.DatabaseFault.TheVariants as database
use Rattle.outbox_process.specs.declared.fault.Why.{Why}
use Rattle.outbox_process.specs.declared.fault.Why.TheVariants as why
use Rattle.outbox_commands.specs.Puts.{turns_status}
use Rattle.outbox_commands.specs.Status.{exchange_status, key_status, outbox_status, put_status, status_by, status_of}
use Rattle.outbox_commands.specs.Status.{unfiled_status, why_status}
use Rattle.outbox_commands.specs.declared.fault.NotDone.{NotDone}
use Rattle.outbox_commands.specs.declared.fault.NotDone.TheVariants as fault

-- the status is not 0
abbrev Fails : ℕ → Type 0
Fails status = (status == 0) ≡ false

not_0 : (status : ℕ) → Fails status → status ≡ 0 → ⊥
not_0 status fails is = true≢false (sym (ap (λ (s : ℕ). s == 0) is) ∙ fails)

-- ---- what was asked of an outbox

database_fails : (fault : DatabaseFault) → Fails (database_status fault)
database_fails database.Missing = refl
database_fails database.Empty = refl
database_fails database.NotADatabase = refl
database_fails database.Foreign = refl
database_fails (database.AutoVacuum _) = refl
database_fails database.Damaged = refl
database_fails (database.Unsummed _) = refl
database_fails database.Busy = refl
database_fails database.Memory = refl
database_fails database.Denied = refl
database_fails database.ReadOnly = refl
database_fails database.Folder = refl
database_fails database.NotAFile = refl
database_fails database.Linked = refl
database_fails database.Journal = refl
database_fails database.NoFolder = refl
database_fails database.Loop = refl
database_fails database.LongName = refl
database_fails database.Descriptors = refl
database_fails database.Full = refl
database_fails database.Disk = refl

outbox_fails : (fault : OutboxFault) → Fails (outbox_status fault)
outbox_fails made.BadFiler = refl
outbox_fails made.Taken = refl
outbox_fails made.NotOurs = refl
outbox_fails (made.Damaged row) = refl
outbox_fails made.Memory = refl
outbox_fails made.Disk = refl

put_fails : (fault : PutFault) → Fails (put_status fault)
put_fails put.TooLarge = refl
put_fails (put.KeyUsed id) = refl
put_fails put.Memory = refl
put_fails put.Store = refl

exchange_fails : (fault : ExchangeFault) → Fails (exchange_status fault)
exchange_fails (exchange.Write sent) = refl
exchange_fails (exchange.Reply fault) = refl
exchange_fails (exchange.Take take.NoEntry) = refl
exchange_fails (exchange.Take take.Memory) = refl
exchange_fails (exchange.Take take.Store) = refl

why_fails : (cause : Why) → Fails (why_status cause)
why_fails (why.Files fault) = database_fails fault
why_fails why.Taken = refl
why_fails (why.Create fault) = outbox_fails fault
why_fails (why.Open fault) = outbox_fails fault
why_fails why.IsCurrent = refl
why_fails (why.Migrate fault) = outbox_fails fault
why_fails (why.Store fault) = refl
why_fails (why.NoEntry id) = refl
why_fails (why.IsOpen id) = refl
why_fails (why.Put fault) = put_fails fault
why_fails (why.NotTold id wants) = refl
why_fails (why.Connect error) = refl
why_fails (why.Exchange id fault) = exchange_fails fault
why_fails (why.NotListed id number) = refl
why_fails (why.NoList id number status) = refl
why_fails (why.Contradicts id state told) = refl
why_fails why.Memory = refl
why_fails why.Output = refl
why_fails why.NotClosed = refl

pub why_failed : (cause : Why) → why_status cause ≢ 0
why_failed cause = not_0 (why_status cause) (why_fails cause)

-- if the status is 0, all were put in
pub all_put : (ended : Result (Unit {0}) Why) → turns_status ended ≡ 0 → ended ≡ Ok tt
all_put (Ok done) is = refl
all_put (Err cause) is = absurd (why_failed cause is)

-- ---- a fault that is reported

read_fails : (fault : ReadFault) → Fails (read_status fault)
read_fails (read.Open error) = refl
read_fails read.Read = refl
read_fails read.ReadLimit = refl
read_fails read.TooLarge = refl
read_fails read.Memory = refl

command_fails : (cause : CommandFault) → Fails (command_line.status_of cause)
command_fails command.NotText = refl
command_fails command.NoTask = refl
command_fails command.Filer = refl
command_fails (command.Database _ fault) = database_fails fault
command_fails (command.Report _ fault) = read_fails fault
command_fails command.Output = refl
command_fails command.Memory = refl

key_fails : (fault : KeyFault) → Fails (key_status fault)
key_fails key.NotString = refl
key_fails key.Empty = refl
key_fails key.TooLong = refl
key_fails (key.NotPrintable at) = refl
key_fails key.Memory = refl

unfiled_fails : (refused : ℕ) → Fails (unfiled_status refused)
unfiled_fails zero = refl
unfiled_fails (suc refused) = refl

fault_fails : (cause : NotDone) → Fails (status_of cause)
fault_fails (fault.Command cause) = command_fails cause
fault_fails (fault.Key cause) = key_fails cause
fault_fails fault.ForOne = refl
fault_fails (fault.NotJson name) = refl
fault_fails (fault.Outbox name cause holding) = why_fails cause
fault_fails (fault.Stopped name cause) = why_fails cause
fault_fails (fault.Peer port cause late) = why_fails cause
fault_fails (fault.Round port sent failed) = refl
fault_fails (fault.Unfiled refused left) = unfiled_fails refused
fault_fails (fault.Folder name error) = refl
fault_fails (fault.Receipts lost) = refl
fault_fails (fault.Random error) = refl

pub failed_by : {X : Type 0} (result : Result X NotDone) (cause : NotDone) → result ≡ Err cause → status_by result ≢ 0
failed_by result cause is done =
    not_0 (status_of cause) (fault_fails cause) (sym (ap (λ (r : Result _ NotDone). status_by r) is) ∙ done)
