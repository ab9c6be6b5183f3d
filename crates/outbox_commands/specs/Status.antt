-- The exit status of `outbox`.
use Rattle.std.specs.Prelude.{ℕ, zero, suc, Bool, true, false, Result, Ok, Err}
use Rattle.key_string.specs.declared.fault.KeyFault.{KeyFault}
use Rattle.key_string.specs.declared.fault.KeyFault.TheVariants as key
use Rattle.outbox_tables.specs.declared.fault.OutboxFault.{OutboxFault}
use Rattle.outbox_tables.specs.declared.fault.OutboxFault.TheVariants as made
use Rattle.outbox_core.specs.declared.fault.PutFault.{PutFault}
use Rattle.outbox_core.specs.declared.fault.PutFault.TheVariants as put
use Rattle.outbox_core.specs.declared.fault.TakeFault.TheVariants as take
use Rattle.filer_client.specs.declared.fault.ExchangeFault.{ExchangeFault}
use Rattle.filer_client.specs.declared.fault.ExchangeFault.TheVariants as exchange
use Rattle.command_line.specs.declared.fault.CommandFault.{CommandFault}
use Rattle.command_line.specs.Status.{database_status}
use Rattle.command_line.specs.Status as command
use Rattle.outbox_process.specs.declared.tasks.rounds.Round.{Round}
use Rattle.outbox_process.specs.declared.errand.Done.{Done}
use Rattle.outbox_process.specs.declared.errand.Done.TheVariants as done
use Rattle.outbox_process.specs.declared.fault.Why.{Why}
use Rattle.outbox_process.specs.declared.fault.Why.TheVariants as why
use Rattle.outbox_commands.specs.declared.fault.NotDone.{NotDone}
use Rattle.outbox_commands.specs.declared.fault.NotDone.TheVariants as fault

-- ---- of what went wrong in the libraries

-- 1 if the database is no outbox of this version or cannot become one, 2 if the code is no filer's, and 3 if memory or
-- the disk failed
abbrev pub outbox_status : OutboxFault → ℕ
outbox_status made.BadFiler = 2
outbox_status made.Taken = 1
outbox_status made.NotOurs = 1
outbox_status (made.Damaged row) = 1
outbox_status made.Memory = 3
outbox_status made.Disk = 3

-- 2 if the body is too large or the key is used
abbrev pub put_status : PutFault → ℕ
put_status put.TooLarge = 2
put_status (put.KeyUsed id) = 2
put_status put.Memory = 3
put_status put.Store = 3

-- 4 if no entry has the id
abbrev pub exchange_status : ExchangeFault → ℕ
exchange_status (exchange.Write sent) = 3
exchange_status (exchange.Reply fault) = 3
exchange_status (exchange.Take take.NoEntry) = 4
exchange_status (exchange.Take take.Memory) = 3
exchange_status (exchange.Take take.Store) = 3

-- ---- of what was asked of an outbox

abbrev pub why_status : Why → ℕ
why_status (why.Files fault) = database_status fault
why_status why.Taken = 1
why_status (why.Create fault) = outbox_status fault
why_status (why.Open fault) = outbox_status fault
why_status why.IsCurrent = 1
why_status (why.Migrate fault) = outbox_status fault
why_status (why.Store fault) = 3
why_status (why.NoEntry id) = 4
why_status (why.IsOpen id) = 2
why_status (why.Put fault) = put_status fault
why_status (why.NotTold id wants) = 3
why_status (why.Connect error) = 3
why_status (why.Exchange id fault) = exchange_status fault
why_status (why.NotListed id number) = 3
why_status (why.NoList id number status) = 3
why_status (why.Contradicts id state told) = 3
why_status why.Memory = 3
why_status why.Output = 3
why_status why.NotClosed = 3

-- 3 if an exchange of a round failed
abbrev pub failed_status : ℕ → ℕ
failed_status zero = 0
failed_status (suc failed) = 3

-- of entries that are not filed: 1 if some were refused or clashed, and otherwise 3, since all are open
abbrev pub unfiled_status : ℕ → ℕ
unfiled_status zero = 3
unfiled_status (suc refused) = 1

-- by how many entries of a strict round were refused or clashed, were left open by a reply, and by a failed exchange
abbrev pub strict_status : ℕ → ℕ → ℕ → ℕ
strict_status zero zero zero = 0
strict_status refused left_open failed = unfiled_status refused

abbrev pub sent_status : Bool → Round → ℕ
sent_status true round = strict_status round.refused round.left_open round.failed
sent_status false round = failed_status round.failed

-- 0 exactly if all was done; a strict errand has to file each entry that it sends
abbrev pub done_status : Bool → Result Done Why → ℕ
done_status strict (Ok (done.Put id)) = 0
done_status strict (Ok (done.Sent round)) = sent_status strict round
done_status strict (Ok done.Shown) = 0
done_status strict (Err cause) = why_status cause

-- ---- of what is reported

-- 3 if memory is short, and 2 if the text is no key
abbrev pub key_status : KeyFault → ℕ
key_status key.Memory = 3
key_status _ = 2

abbrev pub status_of : NotDone → ℕ
status_of (fault.Command cause) = command.status_of cause
status_of (fault.Key cause) = key_status cause
status_of fault.ForOne = 2
status_of (fault.NotJson name) = 2
status_of (fault.Outbox name cause holding) = why_status cause
status_of (fault.Stopped name cause) = why_status cause
status_of (fault.Peer port cause late) = why_status cause
status_of (fault.Round port sent failed) = 3
status_of (fault.Unfiled refused left) = unfiled_status refused
status_of (fault.Folder name error) = 3
status_of (fault.Receipts lost) = 3
status_of (fault.Random error) = 3

-- 0 if the task is done
abbrev pub status_by : {X : Type 0} → Result X NotDone → ℕ
status_by (Ok done) = 0
status_by (Err cause) = status_of cause

-- the status of what was done, or of why it was not
abbrev pub ended_status : Result ℕ CommandFault → ℕ
ended_status (Ok status) = status
ended_status (Err cause) = command.status_of cause
