-- Which causes may come of what, and which belong to one entry alone; own rules.
use Rattle.std.specs.Prelude.{◌≡◌, ◌⊎◌, Bool, true, false}
use Rattle.http_messages.specs.declared.refusal.ReplyFault.TheVariants.{Memory as NoRoom}
use Rattle.filer_client.specs.declared.fault.ExchangeFault.{ExchangeFault}
use Rattle.filer_client.specs.declared.fault.ExchangeFault.TheVariants.{Write, Reply, Take}
use Rattle.table_rows.specs.declared.fault.StoreFault.{StoreFault}
use Rattle.outbox_process.specs.declared.fault.Why.{Why}
use Rattle.outbox_process.specs.declared.fault.Why.TheVariants.{Files, Create, Store, Connect, Exchange, Memory, Output}

-- an exchange that failed by its connection or by what came on it, and not by memory or the database
abbrev pub is_of_exchange : ExchangeFault → Bool
is_of_exchange (Write sent) = true
is_of_exchange (Reply NoRoom) = false
is_of_exchange (Reply fault) = true
is_of_exchange (Take fault) = false

-- the cause is the fault of such an exchange
abbrev pub is_of_entry : Why → Bool
is_of_entry (Exchange id fault) = is_of_exchange fault
is_of_entry _ = false

-- no connection was made
abbrev pub IsUnconnected : Why → Type 0
IsUnconnected (Connect error) = Unit {0}
IsUnconnected _ = ⊥

-- no entry was read
abbrev pub IsUnread : Why → Type 0
IsUnread why = (fault : StoreFault) × (why ≡ Store fault)

-- a text was not printed: memory ran out, or the output failed
abbrev pub IsNotPrinted : Why → Type 0
IsNotPrinted why = (why ≡ Memory) ⊎ (why ≡ Output)

-- Whether an opening that was refused like this may have changed what lies in the place: it had taken the files and got
-- no database, or was making an outbox. A migration commits nothing to an outbox of this version.
abbrev pub leaves_doubt : Bool → Why → Bool
leaves_doubt was_taken (Files fault) = was_taken
leaves_doubt was_taken (Create fault) = true
leaves_doubt was_taken _ = false
